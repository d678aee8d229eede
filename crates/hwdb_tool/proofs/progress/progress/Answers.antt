use Rattle.std.proofs.Common.{◌∙◌, ap, map, option_map, string_bytes, subst, sym}
use Rattle.std.proofs.lemmas.Result.{IfOk-weaker}
use Rattle.hwdb_spec.specs.Format.{IsDatabase}
use Rattle.hwdb_spec_commands.specs.Progress.{progress_text}
use Rattle.hwdb_spec_commands.specs.Summary.{depth}
use Rattle.hwdb_spec.specs.Written.{IsDatabaseOf}
use Rattle.hwdb_tool.proofs.ProgressLemmas.{progress_is}
use Rattle.hwdb_tool.proofs.progress.progress.Goals as goal

pub returns-in-Some : goal.returns-in-Some
returns-in-Some c =
    IfOk-weaker c.full_progress.result _ _
    (λ text told. λ etc usr of made.
    progress_is (map string_bytes c.in-Some.names.now) c.args.files.now etc usr c.args.compiled.now.database.items text.items of made
    (λ m t is of_tree. told etc usr of m t (subst (IsDatabaseOf m) (sym c.deref.ensures.value) is) (subst (λ b. IsDatabase b t) (sym c.deref.ensures.value) of_tree))
    ∙ ap (λ o. progress_text (option_map (λ l. map string_bytes l.now) o) etc usr (depth made.0)) (sym c.in-Some.is)) c.full_progress.ensures
