use Rattle.std.proofs.Common.{◌≡◌, ◌++◌, List, ℕ, map}
use Rattle.hwdb_query.specs.Views.{assignment_of_answer}
use Rattle.hwdb_spec.specs.Tree.{Value}
use Rattle.hwdb_lookup.specs.Internal.Parts.{MayBeOf}
use Rattle.hwdb_lookup.specs.Internal.Heads.{AreValues, ValuesLeft, own_members}
use Rattle.hwdb_lookup.specs.Internal.Saids.{IsFit, StaySaid}
use Rattle.hwdb_lookup.proofs.descent.collect.Given as goal

abbrev pub invariant-loop-i : goal.invariant-loop-i
invariant-loop-i l = record {
  collected : (file : List ℕ) (values : List Value) → MayBeOf l.node.known file → AreValues file l.node values
      → (left : ValuesLeft file l.node l.i) × (map assignment_of_answer l.into.items ++ own_members l.pattern left.rest ≡ map assignment_of_answer l.fn.into.items ++ own_members l.pattern values);
  said : IsFit l.node → StaySaid l.node.known l.node.frame.sizes l.fn.into.items l.into.items;
}
