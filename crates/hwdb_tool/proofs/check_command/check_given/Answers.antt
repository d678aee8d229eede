use Rattle.std.proofs.Common.{map, option_map, string_bytes, ap, Global, Vec, ◌∙◌, ℕ}
use Rattle.hwdb_plan.specs.Check.{said_of}
use Rattle.hwdb_plan.specs.Files.{given_files}
use Rattle.hwdb_plan.specs.Lemmas.Files.{files_go, files_stopped}
use Rattle.hwdb_plan.specs.Plans.Plan.{Done}
use Rattle.hwdb_tool.specs.Views.{end_of}
use Rattle.hwdb_tool.proofs.CheckPlanLemmas.{checked_ends}
use Rattle.hwdb_check.specs.Checks.{source_of}
use Rattle.hwdb_tool.proofs.FileLemmas.{are_files}
use Rattle.hwdb_tool.proofs.check_command.check_given.Goals as goal

pub returns-in_err-texts-clause-follows : goal.returns-in_err-texts-clause-follows
returns-in_err-texts-clause-follows g c = λ tells.
    let told = c.in_err-texts.ensures.told tells in
    let words = map string_bytes c.args.words.now in
    let given = map string_bytes c.args.given.now in (
      told.0,
      told.1,
      files_stopped (λ (v : Vec (Vec ℕ Global) Global). map (λ t. t.items) v.items) end_of given (g.D.System.reads c.args.system.now) (given_files words told.0 given)
          (λ sources. Done (said_of c.args.format c.args.strict (map string_bytes c.args.allowed.now) (option_map (λ t. t.now) c.args.name) (map (λ t. t.items) c.args.known.now) sources)) c.in_err-texts.field-0.0 c.from_residual.result told.2 c.from_residual.ensures.1,
    )

pub returns-clause-follows : goal.returns-clause-follows
returns-clause-follows g c = λ tells.
    let w = g.D.System.reads c.args.system.now in
    let told = c.in_ok-texts.ensures.told tells in
    let words = map string_bytes c.args.words.now in
    let given = map string_bytes c.args.given.now in
    let allowed = map string_bytes c.args.allowed.now in
    let name = option_map (λ t. t.now) c.args.name in
    let known = map (λ t. t.items) c.args.known.now in
    let files = c.deref-2.result.now in
    let are = are_files files given _ (ap (map (λ f. f.path.now)) c.deref-2.ensures.value ∙ c.in_ok-files.ensures.paths)
    (ap (map (λ f. f.bytes.now)) c.deref-2.ensures.value ∙ c.in_ok-files.ensures.bytes ∙ ap (map (λ t. t.items)) c.deref.ensures.value) in (
      told.0,
      told.1,
      files_go (λ (v : Vec (Vec ℕ Global) Global). map (λ t. t.items) v.items) end_of given w (given_files words told.0 given) (λ sources. Done (said_of c.args.format c.args.strict allowed name known sources)) c.in_ok-texts.texts
          (map source_of files) c.check_read.result told.2 are
          (checked_ends w c.args.format c.args.strict allowed name known (map source_of files) (c.in_ok-texts.ensures.files tells (map source_of files) are).within c.check_read.result
          c.check_read.ensures.checked c.check_read.ensures.refused),
    )
