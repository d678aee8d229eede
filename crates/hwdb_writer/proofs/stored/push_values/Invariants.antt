use Rattle.std.proofs.Common.{◌++◌, ◌+◌, ◌*◌, ◌≤◌, length, List, drop, take, map}
use Rattle.hwdb_spec.specs.Tree.{Value}
use Rattle.hwdb_writer.specs.Internal.Entries.{value_of}
use Rattle.hwdb_writer.specs.Internal.Membership.{SameMembers}
use Rattle.hwdb_writer.specs.Internal.Stored.{Grows, IsUnder, AreValues}
use Rattle.hwdb_writer.proofs.EmissionLemmas.{value_strings}
use Rattle.hwdb_writer.proofs.stored.push_values.Given as goal

abbrev pub invariant-loop-headed : goal.invariant-loop-headed
invariant-loop-headed l = record {
  few : length l.interner ≤ length l.initial.interner + 3 * l.headed-index;
  within : l.headed-index ≤ length l.entries;
  grows : Grows l.initial.interner l.interner;
  members : SameMembers (l.interner ++ value_strings (drop l.headed-index l.entries)) (l.initial.interner ++ value_strings l.entries);
  values : (xs : List Value) → AreValues (IsUnder l.initial.interner) l.initial.out.items xs → AreValues (IsUnder l.interner) l.out.items (xs ++ map value_of (take l.headed-index l.entries));
}
