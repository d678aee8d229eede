-- The bytes that are written for a map: those of its tight tree (the records of systemd's hwdb-internal.h). Our choice
-- are the order of the nodes and that of the strings, and which of the trees with one map is written.
use Rattle.std.specs.Prelude.{List, [], ℕ, ◌∷◌, flat_map, ◌++◌, length, ◌+◌, ◌*◌, replicate, codes, IsSome, ◌-◌, ◌<◌, ◌≡◌}
use Rattle.std.specs.FinMap.Entries.{by_order}
use Rattle.byteorder.specs.Endian.{little_bytes}
use Rattle.hwdb_spec.specs.Tree.{Value, Children, Tree, count, key_of, IsTree, Map, map_of, prefix_of, map_of_files}
use Rattle.hwdb_spec.specs.Tree.Children.{Child, NoMore}
use Rattle.hwdb_spec.specs.Tree.Tree.{Node}
use Rattle.hwdb_spec.specs.Assignment.{text_cmp, ascending}
use Rattle.hwdb_spec.specs.Format.{IsDatabase, header_bytes, node_bytes, child_bytes, value_bytes}
use Rattle.hwdb_spec.specs.Folders.{AreAccepted, Source}

-- the strings of a tree, as often as they are in it
abbrev pub strings_of_value : Value → List (List ℕ)
strings_of_value v = v.key ∷ v.value ∷ v.path ∷ []

unfoldable mutual
  -- the strings of a node and of the nodes below it
  pub strings_of : Tree → List (List ℕ)
  strings_of (Node prefix values children) = prefix ∷ flat_map strings_of_value values ++ strings_below children

  -- the strings of children
  pub strings_below : Children → List (List ℕ)
  strings_below NoMore = []
  strings_below (Child byte tree more) = strings_of tree ++ strings_below more

-- the string section's strings, and its text
abbrev pub table_of : Tree → List (List ℕ)
table_of t = ascending ([] ∷ strings_of t)

-- a string with the byte 0 that ends it
abbrev pub ended : List ℕ → List ℕ
ended s = s ++ 0 ∷ []

-- the string section: each string of the table, ended
abbrev pub section_of : List (List ℕ) → List ℕ
section_of table = flat_map ended table

-- where a string of an ascending table is, the first of which is at `from`
unfoldable pub place_of : ℕ → List (List ℕ) → List ℕ → ℕ
place_of from [] s = from
place_of from (t ∷ ts) s = by_order (text_cmp s t) from from (place_of (from + length t + 1) ts s)

-- how long a node's record is, and its text
abbrev pub record_size : List Value → Children → ℕ
record_size values children = node_bytes + child_bytes * count children + value_bytes * length values

unfoldable mutual
  -- how long the text of a tree is
  pub text_size : Tree → ℕ
  text_size (Node prefix values children) = texts_size children + record_size values children

  -- how long the texts of children are
  pub texts_size : Children → ℕ
  texts_size NoMore = 0
  texts_size (Child byte tree more) = text_size tree + texts_size more

-- where the record of a tree is whose text begins at `from`
unfoldable pub record_at : ℕ → Tree → ℕ
record_at from (Node prefix values children) = from + texts_size children

-- so many bytes 0
abbrev pub padding : ℕ → List ℕ
padding n = replicate n 0

module _ (place : List ℕ → ℕ) where
  -- a value entry: the places of key, value and path, the line, the priority, and two bytes of padding
  abbrev pub value_text : Value → List ℕ
  value_text v =
      little_bytes 8 (place v.key) ++ little_bytes 8 (place v.value) ++ little_bytes 8 (place v.path) ++ little_bytes 4 v.line ++ little_bytes 2 v.priority ++ padding 2

  -- the child entries of children whose texts begin at `from`
  unfoldable pub entries_text : ℕ → Children → List ℕ
  entries_text from NoMore = []
  entries_text from (Child byte tree more) = byte ∷ padding 7 ++ little_bytes 8 (record_at from tree) ++ entries_text (from + text_size tree) more

  -- a node's text, from a place on: its children's texts, and then its record
  unfoldable mutual
    pub node_text : ℕ → Tree → List ℕ
    node_text from (Node prefix values children) =
        nodes_text from children
        ++ little_bytes 8 (place prefix) ++ count children ∷ padding 7 ++ little_bytes 8 (length values)
        ++ entries_text from children ++ flat_map value_text values

    -- the texts of children, one after another, from a place on
    pub nodes_text : ℕ → Children → List ℕ
    nodes_text from NoMore = []
    nodes_text from (Child byte tree more) = node_text from tree ++ nodes_text (from + text_size tree) more

-- the header: signature, tool version, file size, the sizes of the header and of the records, the root, the lengths
abbrev pub header_text : Tree → List ℕ
header_text t =
    let strings = length (section_of (table_of t)) in
    codes "KSLPHHRH" ++ flat_map (little_bytes 8)
    (1 ∷ (header_bytes + text_size t + strings) ∷ header_bytes ∷ node_bytes ∷ child_bytes ∷ value_bytes ∷ record_at header_bytes t ∷ text_size t ∷ strings ∷ [])

-- The database of a tree: records of 80, 24, 16 and 32 bytes, children first; each distinct string once, ascending; tool
-- version 1, padding 0.
unfoldable pub written : Tree → List ℕ
written t = header_text t ++ node_text (place_of (header_bytes + text_size t) (table_of t)) header_bytes t ++ section_of (table_of t)

-- every stored key begins with a space
abbrev pub AllKeys : List Value → Type 0
AllKeys [] = Unit {0}
AllKeys (v ∷ vs) = IsSome (key_of v.key) × AllKeys vs

unfoldable mutual
  -- every stored key begins with a space, and each node below has a value or two children
  pub IsTight : Tree → Type 0
  IsTight (Node prefix values children) = AllKeys values × AreTight children

  -- the same of children, each of which has a value or two children
  pub AreTight : Children → Type 0
  AreTight NoMore = Unit {0}
  AreTight (Child byte tree more) = IsForked tree × IsTight tree × AreTight more

  -- it has a value, or two children at least
  pub IsForked : Tree → Type 0
  IsForked (Node prefix values children) = 0 < length values + (count children - 1)

-- The tree has the map, the root has no prefix, and no node is there without need. Each other one has a value or at least
-- two children. A map has one such tree.
pub record IsTightTree (m : Map) (t : Tree) : Type 0 where
  pub ordered : IsTree t
  pub root : prefix_of t ≡ []
  pub tight : IsTight t
  pub same : map_of t ≡ m

-- the bytes are the written form of the map: `written` of its tight tree
abbrev pub IsWritten : Map → List ℕ → Type 0
IsWritten m bytes = (t : Tree) × IsTightTree m t × (bytes ≡ written t)

-- the written form of the map has more bytes than a limit
abbrev pub IsLonger : Map → ℕ → Type 0
IsLonger m most = (bytes : List ℕ) × IsWritten m bytes × (most < length bytes)

-- the bytes are a database of a tree with the map
abbrev pub IsDatabaseOf : Map → List ℕ → Type 0
IsDatabaseOf m bytes = (t : Tree) × IsDatabase bytes t × (map_of t ≡ m)

-- the written form of the map is longer than the limit
pub record IsTooLarge (etc usr : List Source) (max_bytes : ℕ) : Type 0 where
  pub accepted : AreAccepted etc usr
  pub longer : IsLonger (map_of_files etc usr) max_bytes

-- the bytes are a database of the files, as `compile` makes one
abbrev pub IsCompiled : (etc usr : List Source) → (bytes : List ℕ) → Type 0
IsCompiled etc usr bytes = IsDatabaseOf (map_of_files etc usr) bytes
