-- What the laws of the format say of faults. Our choice.
use Rattle.std.specs.Prelude.{List, ℕ, ◌+◌, ◌*◌, ◌<◌, ◌≡◌, ◌⊎◌}
use Rattle.hwdb_spec.specs.declared.Layout.{Layout}
use Rattle.hwdb_spec.specs.declared.DbFault.{DbFault}
use Rattle.hwdb_spec.specs.declared.DbFault.TheVariants.{Priority, StringOffset, KeyOrder, ChildOrder, Depth, Place, Lengths, RecordSizes, Short, Signature, Strings}
use Rattle.hwdb_spec.specs.Format.{HasLengths, HasSizes, IsField, IsHeader, IsLong, IsPlace, IsSigned, KeysFall, Visit, byte_before, child_byte, child_entry, children_count, file_priority, number_at, value_entries, values_count}

-- a fault of the header: B1 to B5
abbrev pub IsOfHeader : DbFault → Type 0
IsOfHeader Short = Unit {0}
IsOfHeader Signature = Unit {0}
IsOfHeader RecordSizes = Unit {0}
IsOfHeader Lengths = Unit {0}
IsOfHeader Strings = Unit {0}
IsOfHeader _ = ⊥

-- What is looked at before a fault is right. In this order: the number of bytes, the signature, the sizes of the
-- records, the lengths of the file and its parts, the strings. All of the header comes before any node.
abbrev pub IsRightBefore : List ℕ → DbFault → Type 0
IsRightBefore b Short = Unit {0}
IsRightBefore b Signature = IsLong b
IsRightBefore b RecordSizes = IsLong b × IsSigned b
IsRightBefore b Lengths = IsLong b × IsSigned b × HasSizes b
IsRightBefore b Strings = IsLong b × IsSigned b × HasSizes b × HasLengths b
IsRightBefore b _ = IsHeader b

-- the offset of value entry i of a node
abbrev pub value_entry : Layout → List ℕ → (off i : ℕ) → ℕ
value_entry l b off i = value_entries l b off + l.value_size * i

-- What is at fault is at the fault's offset. That is one of five:
-- - the record of the visited node;
-- - one of its child entries, whose byte isn't above the one before;
-- - a string offset of its own or of one of its value entries, which is no place of a string;
-- - one of its value entries, whose key isn't above the one before;
-- - one of its value entries, whose priority is 0.
abbrev pub IsThere : Layout → List ℕ → Visit → DbFault → Type 0
IsThere l b v (Place at) = at ≡ v.off
IsThere l b v (Depth at) = (at ≡ v.off) × (v.levels ≡ 0)
IsThere l b v (ChildOrder at) =
    (i : ℕ) × (i < children_count b v.off) × (at ≡ child_entry l v.off i) × ¬ (byte_before l b v.off i < child_byte b at)
IsThere l b v (StringOffset at) =
    ¬ IsPlace l b (number_at 8 at b)
    × ((at ≡ v.off) ⊎ ((i : ℕ) × (i < values_count b v.off) × IsField (value_entry l b v.off i) at))
IsThere l b v (KeyOrder at) =
    (i : ℕ) × (i + 1 < values_count b v.off) × (at ≡ value_entry l b v.off (i + 1)) × KeysFall l b (value_entry l b v.off i)
IsThere l b v (Priority at) =
    (i : ℕ) × (i < values_count b v.off) × (at ≡ value_entry l b v.off i) × (file_priority b at ≡ 0)
IsThere l b v _ = ⊥
