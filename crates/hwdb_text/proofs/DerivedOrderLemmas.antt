-- The order that is derived for faults is by line and then by number.
use Rattle.std.proofs.Common.{◌≡◌, List, refl, ap, ◌∙◌, sym, get_or, ◌+◌}
use Rattle.std.specs.List.Sorted.{IsSorted}
use Rattle.std.specs.Ordering.{nat_cmp, ordering_then, is_lt}
use Rattle.hwdb_spec.specs.contracts.FaultKindOrd.TheImpl as kinds
use Rattle.hwdb_spec.specs.contracts.FaultOrd.TheImpl.{ghosts}
use Rattle.hwdb_spec.specs.declared.Fault.{Fault}
use Rattle.hwdb_spec.specs.declared.FaultKind.{FaultKind}
use Rattle.hwdb_spec.specs.declared.FaultKind.TheVariants.{StrayProperty, NoProperty, StrayMatch, NoEquals, EmptyKey, ZeroByte, LongMatch}
use Rattle.hwdb_spec.specs.Records.{fault_number, fault_cmp}

by_number : (a b : FaultKind) → kinds.ghosts.cmp a b ≡ nat_cmp (fault_number a) (fault_number b)
by_number StrayProperty StrayProperty = refl
by_number StrayProperty NoProperty = refl
by_number StrayProperty StrayMatch = refl
by_number StrayProperty NoEquals = refl
by_number StrayProperty EmptyKey = refl
by_number StrayProperty ZeroByte = refl
by_number StrayProperty LongMatch = refl
by_number NoProperty StrayProperty = refl
by_number NoProperty NoProperty = refl
by_number NoProperty StrayMatch = refl
by_number NoProperty NoEquals = refl
by_number NoProperty EmptyKey = refl
by_number NoProperty ZeroByte = refl
by_number NoProperty LongMatch = refl
by_number StrayMatch StrayProperty = refl
by_number StrayMatch NoProperty = refl
by_number StrayMatch StrayMatch = refl
by_number StrayMatch NoEquals = refl
by_number StrayMatch EmptyKey = refl
by_number StrayMatch ZeroByte = refl
by_number StrayMatch LongMatch = refl
by_number NoEquals StrayProperty = refl
by_number NoEquals NoProperty = refl
by_number NoEquals StrayMatch = refl
by_number NoEquals NoEquals = refl
by_number NoEquals EmptyKey = refl
by_number NoEquals ZeroByte = refl
by_number NoEquals LongMatch = refl
by_number EmptyKey StrayProperty = refl
by_number EmptyKey NoProperty = refl
by_number EmptyKey StrayMatch = refl
by_number EmptyKey NoEquals = refl
by_number EmptyKey EmptyKey = refl
by_number EmptyKey ZeroByte = refl
by_number EmptyKey LongMatch = refl
by_number ZeroByte StrayProperty = refl
by_number ZeroByte NoProperty = refl
by_number ZeroByte StrayMatch = refl
by_number ZeroByte NoEquals = refl
by_number ZeroByte EmptyKey = refl
by_number ZeroByte ZeroByte = refl
by_number ZeroByte LongMatch = refl
by_number LongMatch StrayProperty = refl
by_number LongMatch NoProperty = refl
by_number LongMatch StrayMatch = refl
by_number LongMatch NoEquals = refl
by_number LongMatch EmptyKey = refl
by_number LongMatch ZeroByte = refl
by_number LongMatch LongMatch = refl

derived_is : (f g : Fault) → ghosts.cmp f g ≡ fault_cmp f g
derived_is f g = ap (ordering_then (nat_cmp f.line g.line)) (by_number f.kind g.kind)

pub sorted_by_number : (fs : List Fault) → IsSorted ghosts.cmp fs → IsSorted fault_cmp fs
sorted_by_number fs s k d l h = ap is_lt (sym (derived_is (get_or fs (k + 1) d) (get_or fs k d))) ∙ s k d l h
