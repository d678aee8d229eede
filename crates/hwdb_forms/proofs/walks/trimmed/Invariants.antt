use Rattle.std.proofs.Common.{◌≡◌, ◌≤◌, Bool, List, length, take}
use Rattle.hwdb_spec.specs.Patterns.{Token}
use Rattle.hwdb_forms.specs.Internal.{any_met}
use Rattle.hwdb_forms.proofs.walks.trimmed.Given as goal

abbrev pub invariant-loop-size : goal.invariant-loop-size
invariant-loop-size l = record {
  within : l.size ≤ length l.marks.items;
  met : (ls : List (List Token → Bool)) (us : List Token) → any_met (take l.size l.marks.items) ls us ≡ any_met l.marks.items ls us;
}

abbrev pub decreases-loop-size : goal.decreases-loop-size
decreases-loop-size l = l.size
