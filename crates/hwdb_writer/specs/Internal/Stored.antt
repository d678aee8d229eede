-- Nodes and values with strings by number, and which nodes and values these are.
use Rattle.std.specs.Prelude.{List, [], true, false, ℕ, ◌+◌, ◌*◌, ◌-◌, ◌≤◌, ◌++◌, min, ◌∷◌, ◌^◌, ◌<◌, ◌≡◌, length, map, flat_map, slice_index_or}
use Rattle.byteorder.specs.Endian.{little_bytes}
use Rattle.std.specs.List.{AllZip}
use Rattle.hwdb_spec.specs.Assignment.{ascending}
use Rattle.hwdb_spec.specs.Tree.{Map, Tree, Value, map_of, values_under}
use Rattle.hwdb_spec.specs.Written.{padding, table_of, text_size, texts_size, section_of, place_of, value_text, strings_below, strings_of_value}
use Rattle.hwdb_writer.specs.Internal.Narrow.{IsNarrow}
use Rattle.hwdb_writer.specs.Internal.Membership.{SameMembers}
use Rattle.hwdb_writer.specs.Internal.PostOrder.{IsPostOrder, children_in, tree_of, trees_after, values_at}
use Rattle.hwdb_writer.specs.Internal.Entries.{placed}
use Rattle.hwdb_writer.specs.Internal.Storable.{IsSound}
use Rattle.hwdb_writer.specs.declared.entries.Setting.{Setting}
use Rattle.hwdb_writer.specs.declared.nodes.BuiltNode.{BuiltNode}
use Rattle.hwdb_writer.specs.declared.stored.Stored.{Stored}
use Rattle.hwdb_writer.specs.declared.stored.StoredNode.{StoredNode}
use Rattle.hwdb_writer.specs.declared.stored.StoredValue.{StoredValue}

-- the string has the number
pub record IsUnder (words : List (List ℕ)) (number : ℕ) (s : List ℕ) : Type 0 where
  pub known : number < length words
  pub is : slice_index_or words number [] ≡ s

-- each string keeps its number
abbrev pub Grows : List (List ℕ) → List (List ℕ) → Type 0
Grows old new = (number : ℕ) (s : List ℕ) → IsUnder old number s → IsUnder new number s

-- the string's offset is at the number
pub record IsAt (place : List ℕ → ℕ) (places : List ℕ) (number : ℕ) (s : List ℕ) : Type 0 where
  pub known : number < length places
  pub is : slice_index_or places number 0 ≡ place s

-- a stored value is this value, if `By` says which string a number means
pub record IsValue (By : ℕ → List ℕ → Type 0) (v : StoredValue) (x : Value) : Type 0 where
  pub key : By v.key x.key
  pub value : By v.value x.value
  pub path : By v.path x.path
  pub line : v.line ≡ x.line
  pub priority : v.priority ≡ x.priority

abbrev pub AreValues : (ℕ → List ℕ → Type 0) → List StoredValue → List Value → Type 0
AreValues By = AllZip (IsValue By)

-- a stored node is this node
pub record IsNode (By : ℕ → List ℕ → Type 0) (s : StoredNode) (n : BuiltNode) : Type 0 where
  pub prefix : By s.prefix n.prefix.now
  pub byte : s.byte ≡ n.byte
  pub count : s.count ≡ n.count
  pub children : s.children ≡ n.children

abbrev pub AreNodes : (ℕ → List ℕ → Type 0) → List StoredNode → List BuiltNode → Type 0
AreNodes By = AllZip (IsNode By)

-- the values of the nodes, one node's after another's
abbrev pub all_values : List Setting → List BuiltNode → List Value
all_values es ns = flat_map (values_at es) ns

-- the nodes with their strings by number, their values, and no string but theirs and the empty one
pub record AreStored (es : List Setting) (ns : List BuiltNode) (c : Stored) : Type 0 where
  pub nodes : AreNodes (IsUnder c.interner) c.nodes.items ns
  pub values : AreValues (IsUnder c.interner) c.values.items (all_values es ns)
  pub members : SameMembers c.interner (([] ∷ []) ++ strings_below (children_in (trees_after es [] ns)))
  pub few : length c.interner ≤ 1 + 3 * length (all_values es ns) + length ns

-- the nodes are closed, with so many bytes of records; they are stored, but for those that are too many
pub record AreKept (es : List Setting) (ns : List BuiltNode) (c : Stored) : Type 0 where
  pub sized : c.size ≡ min (texts_size (children_in (trees_after es [] ns))) (2 ^ 64 - 1)
  pub stored : c.is_full ≡ false → AreStored es ns c
  pub full : c.is_full ≡ true → 2 ^ 32 ≤ texts_size (children_in (trees_after es [] ns))

-- one more node is stored
pub record IsOneMore (es : List Setting) (n : BuiltNode) (old new : Stored) : Type 0 where
  pub nodes : (ns : List BuiltNode) → AreNodes (IsUnder old.interner) old.nodes.items ns → AreNodes (IsUnder new.interner) new.nodes.items (ns ++ n ∷ [])
  pub values : (xs : List Value) → AreValues (IsUnder old.interner) old.values.items xs → AreValues (IsUnder new.interner) new.values.items (xs ++ values_at es n)
  pub members : SameMembers new.interner (old.interner ++ n.prefix.now ∷ flat_map strings_of_value (values_at es n))
  pub few : length new.interner ≤ length old.interner + 3 * n.count + 1

-- one more node is closed: stored, or one too many
pub record IsKept (es : List Setting) (n : BuiltNode) (old new : Stored) : Type 0 where
  pub sized : new.size ≡ min (old.size + (24 + 16 * n.children + 32 * n.count)) (2 ^ 64 - 1)
  pub stored : new.is_full ≡ false → (old.is_full ≡ false) × IsOneMore es n old new
  pub full : old.is_full ≡ false → new.is_full ≡ true → 2 ^ 32 < length old.interner + 3 * n.count + 1

-- the closed nodes are those of a sound tree with the values of the entries
pub record IsTreeOf (es : List Setting) (c : Stored) : Type 0 where
  pub ns : List BuiltNode
  pub kept : AreKept es ns c
  pub order : IsPostOrder es ns
  pub sound : IsSound (tree_of es ns)
  pub values : values_under [] (tree_of es ns) ≡ map placed es

-- the nodes and values of entries, and their strings
pub record IsStored (es : List Setting) (ns : List BuiltNode) (s : Stored) : Type 0 where
  pub order : IsPostOrder es ns
  pub nodes : AreNodes (IsUnder s.interner) s.nodes.items ns
  pub values : AreValues (IsUnder s.interner) s.values.items (all_values es ns)
  pub strings : ascending s.interner ≡ table_of (tree_of es ns)
  pub sized : s.size ≡ text_size (tree_of es ns)

-- what the records of entries are made of
pub record AreRecords (place : List ℕ → ℕ) (places : List ℕ) (es : List Setting) (ns : List BuiltNode) (ss : List StoredNode) (vs : List StoredValue) : Type 0 where
  pub order : IsPostOrder es ns
  pub narrow : IsNarrow (tree_of es ns)
  pub nodes : AreNodes (IsAt place places) ss ns
  pub values : AreValues (IsAt place places) vs (all_values es ns)

-- the record of a node: the place of its prefix, how many children and values it has, its child entries, and its values
abbrev pub record_text : (place : List ℕ → ℕ) (prefix children values : ℕ) (entries : List ℕ) → List Value → List ℕ
record_text place prefix children values entries xs =
    little_bytes 8 prefix ++ children ∷ padding 7 ++ little_bytes 8 values ++ entries ++ flat_map (value_text place) xs

-- what a database is made of
pub record IsLaidOut (es : List Setting) (ns : List BuiltNode) (ss : List StoredNode) (vs : List StoredValue) (places : List ℕ) (size : ℕ) (section : List ℕ) : Type 0 where
  pub records : AreRecords (place_of (80 + size) (table_of (tree_of es ns))) places es ns ss vs
  pub is : section ≡ section_of (table_of (tree_of es ns))
  pub sized : size ≡ text_size (tree_of es ns)
  pub fits : 80 + size + length section < 2 ^ 64

-- a sound tree of the map
pub record IsMade (m : Map) (t : Tree) : Type 0 where
  pub sound : IsSound t
  pub same : map_of t ≡ m
