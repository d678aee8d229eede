use Rattle.std.proofs.Common.{◌∙◌, ◌≡◌, ap, map, string_bytes, Global, List, [], Ok, Vec, ℕ}
use Rattle.hwdb_check.specs.Checks
use Rattle.hwdb_near.specs.Views
use Rattle.hwdb_spec.specs.Folders.{Source}
use Rattle.hwdb_spec_commands.specs.NearAsked.{near_form, patterns_from}
use Rattle.hwdb_plan.specs.Files.{given_files}
use Rattle.hwdb_plan.specs.Lemmas.Files.{files_go, files_stopped}
use Rattle.hwdb_plan.specs.Plans.End.{Answers}
use Rattle.hwdb_plan.specs.Plans.Plan.{Done}
use Rattle.hwdb_tool.specs.Views.{end_of}
use Rattle.hwdb_tool.proofs.FileLemmas.{are_files}
use Rattle.hwdb_tool.proofs.PlanLemmas.{near_files_end}
use Rattle.hwdb_tool.proofs.near_command.near_given.Goals as goal

pub returns-in_err-texts-clause-follows : goal.returns-in_err-texts-clause-follows
returns-in_err-texts-clause-follows g c = λ tells.
    let told = c.in_err-texts.ensures.told tells in
    let given = map string_bytes c.args.given.now in (
      told.0,
      told.1,
      files_stopped (λ (v : Vec (Vec ℕ Global) Global). map (λ t. t.items) v.items) end_of given (g.D.System.reads c.args.system.now) (given_files given told.0 given)
          (λ sources. Done (Answers 0 [] (near_form c.args.question.json c.args.question.device.now c.args.question.limit (patterns_from 1 sources)))) c.in_err-texts.field-0.0 c.from_residual.result told.2 c.from_residual.ensures.1,
    )

pub returns-clause-follows : goal.returns-clause-follows
returns-clause-follows g c = λ tells.
    let w = g.D.System.reads c.args.system.now in
    let told = c.in_ok-texts.ensures.told tells in
    let given = map string_bytes c.args.given.now in
    let form = near_form c.args.question.json c.args.question.device.now c.args.question.limit in
    let a = c.new.result in
    let files = c.deref-2.result.now in
    let are = are_files files given _ (ap (map (λ f. f.path.now)) c.deref-2.ensures.value ∙ c.in_ok-files.ensures.paths)
    (ap (map (λ f. f.bytes.now)) c.deref-2.ensures.value ∙ c.in_ok-files.ensures.bytes ∙ ap (map (λ t. t.items)) c.deref.ensures.value) in
    let same : map Views.source_of c.deref-3.result.now ≡ map Checks.source_of files = ap (map Views.source_of) c.deref-3.ensures.value ∙ c.in_ok-compared.ensures in (
      told.0,
      told.1,
      files_go (λ (v : Vec (Vec ℕ Global) Global). map (λ t. t.items) v.items) end_of given w (given_files given told.0 given) (λ sources. Done (Answers 0 [] (form (patterns_from 1 sources)))) c.in_ok-texts.texts
          (map Checks.source_of files) (Ok a) told.2 are
          (near_files_end w form (map Checks.source_of files) a.status a.err.items a.out.items c.new.ensures.status c.new.ensures.err
          (c.new.ensures.out ∙ c.in_ok-told.ensures ∙ ap (λ (xs : List Source). form (patterns_from 1 xs)) same)),
    )
