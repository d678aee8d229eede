use Rattle.std.proofs.Common.{map, string_bytes, ap, ◌∙◌, Global, Vec, ℕ}
use Rattle.std.specs.Prelude.{option_map}
use Rattle.hwdb_check.specs.Checks.{source_of}
use Rattle.hwdb_plan.specs.Asking.{named}
use Rattle.hwdb_plan.specs.Files.{given_files}
use Rattle.hwdb_plan.specs.Lemmas.Files.{files_go, files_stopped}
use Rattle.hwdb_plan.specs.Test.{tested}
use Rattle.hwdb_tool.specs.Views.{end_of}
use Rattle.hwdb_tool.proofs.FileLemmas.{are_files}
use Rattle.hwdb_tool.proofs.test_command.test.Goals as goal

pub returns-in_err-texts-clause-follows : goal.returns-in_err-texts-clause-follows
returns-in_err-texts-clause-follows g c = λ tells.
    let told = c.in_err-texts.ensures.told tells in
    let given = map string_bytes c.args.given.now in (
      told.0,
      told.1,
      files_stopped (λ (v : Vec (Vec ℕ Global) Global). map (λ t. t.items) v.items) end_of given (g.D.System.reads c.args.system.now) (given_files given told.0 given)
          (λ sources. named (option_map (λ t. t.now) c.args.question.database) c.args.question.root.now (tested c.args.question.json sources)) c.in_err-texts.field-0.0 c.from_residual.result told.2 c.from_residual.ensures.1,
    )

pub returns-clause-follows : goal.returns-clause-follows
returns-clause-follows g c = λ tells.
    let told = c.in_ok-texts.ensures.told tells in
    let given = map string_bytes c.args.given.now in
    let files = c.deref-2.result.now in
    let are = are_files files given _ (ap (map (λ f. f.path.now)) c.deref-2.ensures.value ∙ c.in_ok-files.ensures.paths)
    (ap (map (λ f. f.bytes.now)) c.deref-2.ensures.value ∙ c.in_ok-files.ensures.bytes ∙ ap (map (λ t. t.items)) c.deref.ensures.value) in (
      told.0,
      told.1,
      files_go (λ (v : Vec (Vec ℕ Global) Global). map (λ t. t.items) v.items) end_of given (g.D.System.reads c.args.system.now) (given_files given told.0 given)
          (λ sources. named (option_map (λ t. t.now) c.args.question.database) c.args.question.root.now (tested c.args.question.json sources)) c.in_ok-texts.texts (map source_of files) c.tried.result told.2 are
          (c.tried.ensures.follows tells (c.in_ok-texts.ensures.files tells (map source_of files) are).within),
    )
