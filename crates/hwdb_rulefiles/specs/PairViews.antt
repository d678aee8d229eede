-- What the types of pairs mean.
use Rattle.std.specs.Prelude.{List, ℕ, Option, Some, None}
use Rattle.std.proofs.Common.{Vec, Global}
use Rattle.std.specs.Borrow.{Bor}
use Rattle.hwdb_rulefiles.specs.RulePairs
use Rattle.hwdb_rulefiles.specs.declared.pairs.Pair.{Pair}
use Rattle.hwdb_rulefiles.specs.declared.pairs.Part.{Part}
use Rattle.hwdb_rulefiles.specs.declared.pairs.Part.TheVariants.{Broken, Read}
use Rattle.hwdb_rulefiles.specs.declared.pairs.Operated.{Operated}
use Rattle.hwdb_rulefiles.specs.declared.pairs.Marked.{Marked}

abbrev pub attribute_of : Option (Bor (List ℕ)) → Option (List ℕ)
attribute_of None = None
attribute_of (Some a) = Some a.now

abbrev pub read_of : Pair → RulePairs.Pair
read_of p = record { key = p.key.now; attribute = attribute_of p.attribute; operator = p.operator; folds = p.folds; value = p.value.items }

abbrev pub part_of : Part → RulePairs.Part
part_of (Broken kind) = RulePairs.Broken kind
part_of (Read p rest) = RulePairs.Read (read_of p) rest.now

abbrev pub operated_of : Option Operated → Option RulePairs.Operated
operated_of None = None
operated_of (Some o) = Some (record { operator = o.operator; rest = o.rest.now })

abbrev pub marked_of : Option Marked → Option RulePairs.Marked
marked_of None = None
marked_of (Some m) = Some (record { escaped = m.escaped; folds = m.folds; rest = m.rest.now })

abbrev pub value_view : Option (Vec ℕ Global) → Option (List ℕ)
value_view None = None
value_view (Some v) = Some v.items
