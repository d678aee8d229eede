-- What is known of a node's place.
use Rattle.std.specs.Prelude.{List, None, length, ℕ, ◌<◌, ◌^◌, ◌≤◌}
use Rattle.hwdb_spec.specs.declared.Layout.{Layout}
use Rattle.hwdb_spec.specs.Format.{NodeText, record_end, Visit, Fits, IsPlace, ValuesText, prefix_off, value_entries, values_count}
use Rattle.hwdb_reader.specs.Internal.Read.{tree_at, values_at}

-- the text of a tree of so many levels ends with the record at `off`
pub record Placed (l : Layout) (b : List ℕ) (levels off : ℕ) : Type 0 where
  pub from : ℕ
  pub text : NodeText l b levels from off (tree_at l b levels off)
  pub inside : record_end l b off ≤ length b
  pub small : length b < 2 ^ 64

-- the prefix and the values of the record at `off` are those of a node
abbrev pub FieldsAreSound : Layout → List ℕ → (off : ℕ) → Type 0
FieldsAreSound l b off =
    IsPlace l b (prefix_off b off) × ValuesText l b (value_entries l b off) None (values_at l b (value_entries l b off) (values_count b off))

-- the visited record fits, and the bytes before its end are the text of what is read there
abbrev pub IsSoundNode : Layout → List ℕ → Visit → Type 0
IsSoundNode l b v = Fits l b v × NodeText l b v.levels v.from v.off (tree_at l b v.levels v.off)

-- the visit with these numbers
abbrev pub visit : (levels from off limit : ℕ) → Visit
visit levels from off limit = record { levels = levels; from = from; off = off; limit = limit }
