use Rattle.std.proofs.Common.{Bool, Some, not, subst, sym}
use Rattle.hwdb_plan.specs.Lemmas.Update.{IsLostBy}
use Rattle.hwdb_spec_commands.specs.Emptied.{IsLost}
use Rattle.hwdb_databases.specs.Views.{amount_shown}
use Rattle.hwdb_tool.proofs.EmptyingLemmas.{lost_by, lost_of}
use Rattle.hwdb_tool.proofs.emptied.is_lost_of.Goals as goal

pub returns-clause-lost : goal.returns-clause-lost
returns-clause-lost c =
    subst (λ (b : Bool). IsLost (Some c.args.bytes.now) (not b)) (sym c.is_nothing.ensures)
    (lost_of c.law_one_tree.ensures c.args.bytes.now (amount_shown c.in_ok-amount.amount) c.in_ok-amount.ensures)

pub returns-clause-by : goal.returns-clause-by
returns-clause-by c =
    subst (λ (b : Bool). IsLostBy c.args.bytes.now (not b)) (sym c.is_nothing.ensures)
    (lost_by c.args.bytes.now (amount_shown c.in_ok-amount.amount) c.in_ok-amount.ensures)
