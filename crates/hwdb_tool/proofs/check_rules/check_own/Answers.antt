use Rattle.std.proofs.Common.{◌≡◌, ◌≤◌, ◌∙◌, All, ap, length, map, option_map, string_bytes, subst, sym, List, ℕ}
use Rattle.std.proofs.lemmas.List.Elements.{All-map}
use Rattle.hwdb_check.specs.Checks.{source_of}
use Rattle.hwdb_spec.specs.Folders.{Source}
use Rattle.hwdb_spec.specs.Texts.{max_file}
use Rattle.hwdb_plan.specs.Check.{said_of}
use Rattle.hwdb_plan.specs.Lemmas.Folders.{value_ends, value_ends_in}
use Rattle.hwdb_plan.specs.OwnRules.{own_rules}
use Rattle.hwdb_plan.specs.Plans.{Follows, Plan}
use Rattle.hwdb_plan.specs.Plans.Plan.{Done}
use Rattle.hwdb_system.specs.OwnRules.{sources_in}
use Rattle.hwdb_tool.specs.Views.{end_of}
use Rattle.hwdb_tool.proofs.CheckLemmas.{short_files}
use Rattle.hwdb_tool.proofs.CheckPlanLemmas.{checked_ends, files_read}
use Rattle.hwdb_tool.proofs.check_rules.check_own.Goals as goal

pub returns-in_err-read : goal.returns-in_err-read
returns-in_err-read g c = λ tells.
    let t = c.args.telling.now in
    let next : List Source → Plan = λ sources. Done (said_of t.format c.args.strict (map string_bytes t.allowed.now) (option_map (λ t. t.now) t.name) (map (λ t. t.items) t.known.now) sources) in
    value_ends_in (g.D.System.reads c.args.system.now) sources_in end_of (own_rules c.args.root.now) next c.in_err-read.field-0.0 c.from_residual.result
    (c.in_err-read.ensures.told tells) c.from_residual.ensures.1

pub returns : goal.returns
returns g c = λ tells.
    let w = g.D.System.reads c.args.system.now in
    let root = c.args.root.now in
    let t = c.args.telling.now in
    let allowed = map string_bytes t.allowed.now in
    let name = option_map (λ t. t.now) t.name in
    let known = map (λ t. t.items) t.known.now in
    let next : List Source → Plan = λ sources. Done (said_of t.format c.args.strict allowed name known sources) in
    let read = c.in_ok-read.read in
    let paths = map string_bytes read.paths.items in
    let texts = map (λ t. t.items) read.texts.items in
    let files = c.deref-3.result.now in
    let named : map (λ f. f.path.now) files ≡ paths =
    ap (map (λ f. f.path.now)) c.deref-3.ensures.value ∙ c.in_ok-files.ensures.paths ∙ ap (map string_bytes) c.deref.ensures.value in
    let held : map (λ f. f.bytes.now) files ≡ texts =
    ap (map (λ f. f.bytes.now)) c.deref-3.ensures.value ∙ c.in_ok-files.ensures.bytes ∙ ap (map (λ t. t.items)) c.deref-2.ensures.value in
    let within = All-map (λ (t : List ℕ). length t ≤ max_file) (λ t. t.items) read.texts.items c.in_ok-read.ensures.within in
    let short = short_files files (subst (All (λ (t : List ℕ). length t ≤ max_file)) (sym held) within) in
    value_ends w sources_in end_of (own_rules root) next read c.check_read.result (c.in_ok-read.ensures.told tells)
    (subst (λ l. Follows end_of w (Done (said_of t.format c.args.strict allowed name known l)) c.check_read.result) (files_read paths texts files named held)
    (checked_ends w t.format c.args.strict allowed name known (map source_of files) short c.check_read.result c.check_read.ensures.checked c.check_read.ensures.refused))
