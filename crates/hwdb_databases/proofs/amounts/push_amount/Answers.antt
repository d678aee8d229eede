use Rattle.std.proofs.Common.{◌++◌, ◌≡◌, OnOk, codes, subst, sym}
use Rattle.std.proofs.lemmas.Result.{on_ok_weaker}
use Rattle.hwdb_spec_commands.specs.Checks.{count_text}
use Rattle.hwdb_spec_commands.specs.Status.{amount_words}
use Rattle.hwdb_databases.specs.Views.{amount_shown}
use Rattle.hwdb_databases.specs.declared.amounts.Amount.{Amount}
use Rattle.hwdb_databases.proofs.ReportLemmas.{three_counts}
use Rattle.hwdb_databases.proofs.amounts.push_amount.Goals as goal

pub returns-in_ok-push_counted_and-in-Counted-2 : goal.returns-in_ok-push_counted_and-in-Counted-2
returns-in_ok-push_counted_and-in-Counted-2 c =
    let front = c.args.text.now.items in
    let t1 = c.push_counted_and.new.text.items in
    let t2 = c.push_counted_and-in-Counted.new.text.items in
    let t3 = c.push_counted.new.text.items in
    subst (λ (a : Amount). OnOk c.push_counted.result (t3 ≡ front ++ amount_words (amount_shown a))) (sym c.in-Counted.is)
    (on_ok_weaker c.push_counted.result
    (three_counts front t1 t2 t3 (codes ", ") (count_text c.in-Counted.files (codes "file")) (count_text c.in-Counted.assignments (codes "assignment")) (count_text c.in-Counted.bytes (codes "byte"))
    c.in_ok-push_counted_and-in-Counted.ensures c.in_ok-push_counted_and-in-Counted-2.ensures) c.push_counted.ensures)
