use Rattle.std.proofs.Common.{map, option_map, string_bytes, subst, ap, ◌∙◌, ◌≡◌}
use Rattle.hwdb_spec.specs.Folders.{path_of}
use Rattle.hwdb_text.specs.Views.{choice_of}
use Rattle.hwdb_check.specs.Checks.{source_of}
use Rattle.hwdb_plan.specs.Check.{said_of, stored}
use Rattle.hwdb_plan.specs.Folders.{Texts, texts_of_folders}
use Rattle.hwdb_plan.specs.Lemmas.Folders.{value_ends, value_ends_in}
use Rattle.hwdb_plan.specs.Plans.{Follows, Plan}
use Rattle.hwdb_plan.specs.Plans.Plan.{Done}
use Rattle.hwdb_system.specs.Selections.{texts_in}
use Rattle.hwdb_tool.specs.Views.{end_of}
use Rattle.hwdb_tool.proofs.CheckLemmas.{chosen_sources}
use Rattle.hwdb_tool.proofs.CheckPlanLemmas.{checked_ends, files_stored}
use Rattle.hwdb_tool.proofs.check_command.check_chosen.Goals as goal

pub returns-in_err-selection : goal.returns-in_err-selection
returns-in_err-selection g c = record {
  follows = λ tells.
      let next : Texts → Plan = λ texts. Done (said_of c.args.format c.args.strict (map string_bytes c.args.allowed.now) (option_map (λ t. t.now) c.args.name) (map (λ t. t.items) c.args.known.now) (stored texts.chosen texts.texts)) in
      value_ends_in (g.D.System.reads c.args.system.now) texts_in end_of (texts_of_folders c.args.root.now) next c.in_err-selection.field-0.0 c.from_residual.result
      (c.in_err-selection.ensures.told tells) c.from_residual.ensures.1;
}

pub returns : goal.returns
returns g c = record {
  follows = λ tells.
      let w = g.D.System.reads c.args.system.now in
      let root = c.args.root.now in
      let allowed = map string_bytes c.args.allowed.now in
      let name = option_map (λ t. t.now) c.args.name in
      let known = map (λ t. t.items) c.args.known.now in
      let next : Texts → Plan = λ texts. Done (said_of c.args.format c.args.strict allowed name known (stored texts.chosen texts.texts)) in
      let selection = c.in_ok-selection.selection in
      let chosen = map choice_of selection.chosen.items in
      let texts = map (λ t. t.items) selection.texts.items in
      let files = c.deref-4.result.now in
      let named : map (λ f. f.path.now) files ≡ map path_of chosen =
      ap (map (λ f. f.path.now)) c.deref-4.ensures.value ∙ c.in_ok-files.ensures.paths ∙ ap (map string_bytes) c.deref-2.ensures.value
      ∙ c.in_ok-paths.ensures ∙ ap (λ l. map path_of (map choice_of l)) c.deref.ensures.value in
      let held : map (λ f. f.bytes.now) files ≡ texts =
      ap (map (λ f. f.bytes.now)) c.deref-4.ensures.value ∙ c.in_ok-files.ensures.bytes ∙ ap (map (λ t. t.items)) c.deref-3.ensures.value in
      let are = chosen_sources root (g.D.Store.seen c.args.system.now) _ chosen _ files (c.in_ok-selection.ensures.selected tells) named held in
      value_ends w texts_in end_of (texts_of_folders root) next selection c.check_read.result (c.in_ok-selection.ensures.told tells)
      (subst (λ l. Follows end_of w (Done (said_of c.args.format c.args.strict allowed name known l)) c.check_read.result) (files_stored chosen texts files named held)
      (checked_ends w c.args.format c.args.strict allowed name known (map source_of files) are.within c.check_read.result c.check_read.ensures.checked c.check_read.ensures.refused));
}
