use Rattle.std.proofs.Math.Logic.{∥∥₁_elim}
use Rattle.hwdb_reader.specs.Views.{tree_of}
use Rattle.hwdb_reader.proofs.KeyOrderLemmas.{ascends, IsTree-prop}
use Rattle.hwdb_reader.proofs.view.Inside.law_ascending.Goals as goal

pub returns : goal.returns
unfolding tree_of
returns c = ∥∥₁_elim c.args.self.now.node.placed (IsTree-prop _) (λ p. ascends _ _ _ p.from _ _ p.text)
