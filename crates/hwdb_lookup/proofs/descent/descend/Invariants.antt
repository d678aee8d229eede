use Rattle.std.proofs.Common.{◌≡◌, ◌+◌, [], List, ℕ, length}
use Rattle.hwdb_spec.specs.Tree.{Tree}
use Rattle.hwdb_spec.specs.Format.{IsDatabase, layout_of}
use Rattle.hwdb_lookup.specs.Internal.Parts.{MayBeOf}
use Rattle.hwdb_lookup.specs.Internal.Descents.{AllStand, Comes, stack_of, wanted_under}
use Rattle.hwdb_lookup.specs.Internal.Saids.{AllLaid, AreSaid}
use Rattle.hwdb_lookup.proofs.descent.descend.Given as goal

abbrev pub invariant-open : goal.invariant-open
invariant-open l = record {
  all : AllStand l.known (stack_of l.descent);
  comes : (file : List ℕ) (t : Tree) → MayBeOf l.known file → l.fn.frame.sizes ≡ layout_of file → IsDatabase file t → Comes file l.device l.descent (wanted_under l.device [] t);
  said : AreSaid l.known l.fn.frame.sizes l.descent.found.items;
  laid : AllLaid l.fn.frame.sizes (stack_of l.descent);
}

abbrev pub decreases-open : goal.decreases-open
decreases-open l = l.descent.left + length l.descent.stack.items
