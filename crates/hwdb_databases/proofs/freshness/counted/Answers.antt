use Rattle.std.proofs.Common.{◌≡◌, ◌<◌, ◌+◌, ◌^◌, [], IfOk, Some, length, subst, sym}
use Rattle.std.specs.Prelude.{option_map}
use Rattle.hwdb_spec_commands.specs.Differences.{differences}
use Rattle.hwdb_spec_commands.specs.Status.{amount_of, stale_by}
use Rattle.hwdb_spec_commands.specs.Summary.{summary_of}
use Rattle.hwdb_spec.specs.Tree.{IsTree, Tree, map_of, members_under}
use Rattle.hwdb_databases.specs.Views.{amount_shown, state_shown}
use Rattle.hwdb_databases.proofs.freshness.counted.Goals as goal

pub walked-requires-clause-old : goal.walked-requires-clause-old
walked-requires-clause-old c = subst (λ t. IsTree t) (sym c.root.ensures.root) c.requires.old

pub walked-requires-clause-new : goal.walked-requires-clause-new
walked-requires-clause-new c = subst (λ t. IsTree t) (sym c.root-2.ensures.root) c.requires.new

pub walked-requires-clause-few : goal.walked-requires-clause-few
walked-requires-clause-few c =
    subst (λ (g : Tree × Tree). length (members_under [] g.0) + length (members_under [] g.1) < 2 ^ 64)
    (sym (λ i. (c.root.ensures.root i, c.root-2.ensures.root i))) c.requires.few

pub returns-clause-state : goal.returns-clause-state
returns-clause-state c =
    subst (λ (g : Tree × Tree). IfOk c.walked.result (λ s. state_shown s.state ≡ stale_by (differences (map_of g.0) (map_of g.1))))
    (λ i. (c.root.ensures.root i, c.root-2.ensures.root i)) c.walked.ensures.state

pub returns-clause-holds : goal.returns-clause-holds
returns-clause-holds c =
    subst (λ (t : Tree). IfOk c.walked.result (λ s. option_map amount_shown s.holds ≡ Some (amount_of (summary_of c.args.size t))))
    c.root.ensures.root c.walked.ensures.holds
