use Rattle.std.proofs.Common.{IfOk, List, Option, subst, sym, ℕ}
use Rattle.std.specs.Borrow.{Bor}
use Rattle.std.specs.Prelude.{option_map}
use Rattle.hwdb_spec.specs.Tree.{Map}
use Rattle.hwdb_spec.specs.Written.{IsDatabaseOf}
use Rattle.hwdb_spec_commands.specs.Status.{IsAmount, IsState}
use Rattle.hwdb_databases.specs.Views.{amount_shown, state_shown}
use Rattle.hwdb_databases.proofs.freshness.standing_of.Goals as goal

pub returns-in-Some-clause-state : goal.returns-in-Some-clause-state
returns-in-Some-clause-state c =
    subst (λ (o : Option (Bor (List ℕ))). IfOk c.standing_of_bytes.result (λ s. (m : Map) → IsDatabaseOf m c.args.made.now
    → IsState c.args.made.now m (option_map (λ b. b.now) o) (state_shown s.state))) (sym c.in-Some.is) c.standing_of_bytes.ensures.state

pub returns-in-Some-clause-holds : goal.returns-in-Some-clause-holds
returns-in-Some-clause-holds c =
    subst (λ (o : Option (Bor (List ℕ))). IfOk c.standing_of_bytes.result (λ s. IsAmount (option_map (λ b. b.now) o) (option_map amount_shown s.holds)))
    (sym c.in-Some.is) c.standing_of_bytes.ensures.holds
