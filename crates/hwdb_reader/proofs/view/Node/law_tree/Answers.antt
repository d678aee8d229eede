use Rattle.std.proofs.Common.{arith}
use Rattle.std.proofs.Math.Logic.{∥∥₁_elim}
use Rattle.std.specs.Coded.{le_prop}
use Rattle.hwdb_reader.specs.Views.{tree_of}
use Rattle.hwdb_reader.proofs.BoundLemmas.{node_room}
use Rattle.hwdb_reader.proofs.KeyOrderLemmas.{ascends, IsTree-prop}
use Rattle.hwdb_reader.proofs.view.Node.law_tree.Goals as goal

pub returns-clause-ascending : goal.returns-clause-ascending
unfolding tree_of
returns-clause-ascending c = ∥∥₁_elim c.args.self.now.placed (IsTree-prop _) (λ p. ascends _ _ _ p.from _ _ p.text)

pub returns-clause-nodes : goal.returns-clause-nodes
unfolding tree_of
returns-clause-nodes c =
    let n = c.args.self.now in
    ∥∥₁_elim n.placed le_prop (λ p.
    let room = node_room n.frame.sizes n.bytes.now n.frame.node_fields n.levels p.from n.offset _ p.text in
    let inside = p.inside in
    let small = p.small in
    omega (arith, room, inside, small))
