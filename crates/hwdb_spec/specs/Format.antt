-- When bytes are a database of a tree: the layout of systemd's hwdb-internal.h, under its names. Our choice is the order
-- of the nodes: a node's record is after its children's texts. And what is wrong with bytes that are none (our choice of
-- faults). Records may be longer than their known fields.
use Rattle.std.specs.Prelude.{List, drop, ℕ, slice_index, ◌+◌, ◌*◌, not, take_while, ◌==◌, length, ◌<◌, ◌≤◌, Option, Some, [], ◌∷◌, ◌≡◌, None, suc, zero, codes, take, ◌-◌, ◌⊎◌, ◌≢◌}
use Rattle.std.specs.declared.cmp.Ordering.TheVariants.{Less}
use Rattle.hwdb_spec.specs.Assignment.{text_cmp}
use Rattle.byteorder.specs.Endian.{little_number}
use Rattle.hwdb_spec.specs.declared.Layout.{Layout}
use Rattle.hwdb_spec.specs.Tree.{Value, IsAbove, Children, Tree, count}
use Rattle.hwdb_spec.specs.Tree.Children.{Child, NoMore}
use Rattle.hwdb_spec.specs.Tree.Tree.{Node}
use Rattle.hwdb_spec.specs.declared.DbFault.{DbFault}
use Rattle.hwdb_spec.specs.declared.DbFault.TheVariants.{Priority, StringOffset, KeyOrder, ChildOrder, Depth, Place, Lengths, RecordSizes, Short, Signature, Strings}

-- the number in the n bytes from place i, the lowest first
unfoldable pub number_at : ℕ → ℕ → List ℕ → ℕ
number_at n i b = little_number n (drop i b)

-- how many bytes the known fields of the header take
abbrev pub header_bytes : ℕ
header_bytes = 80

-- those of a node
abbrev pub node_bytes : ℕ
node_bytes = 24

-- those of a child entry
abbrev pub child_bytes : ℕ
child_bytes = 16

-- those of a value entry
abbrev pub value_bytes : ℕ
value_bytes = 32

-- the header's numbers, in order, after the signature and the tool's version
pub record Header : Type 0 where
  pub file_size : ℕ
  pub header_size : ℕ
  pub node_size : ℕ
  pub child_entry_size : ℕ
  pub value_entry_size : ℕ
  pub nodes_root_off : ℕ
  pub nodes_len : ℕ
  pub strings_len : ℕ

-- what the header says
abbrev pub header_of : List ℕ → Header
header_of b = record {
  file_size = number_at 8 16 b;
  header_size = number_at 8 24 b;
  node_size = number_at 8 32 b;
  child_entry_size = number_at 8 40 b;
  value_entry_size = number_at 8 48 b;
  nodes_root_off = number_at 8 56 b;
  nodes_len = number_at 8 64 b;
  strings_len = number_at 8 72 b;
}

-- the sizes of the records, and where the parts are, as the header says
unfoldable pub layout_of : List ℕ → Layout
layout_of b = record {
  node_size = (header_of b).node_size;
  child_size = (header_of b).child_entry_size;
  value_size = (header_of b).value_entry_size;
  nodes = (header_of b).header_size;
  root = (header_of b).nodes_root_off;
  strings = (header_of b).header_size + (header_of b).nodes_len;
}

-- where the record at `off` says that its prefix is
abbrev pub prefix_off : List ℕ → ℕ → ℕ
prefix_off b off = number_at 8 off b

-- how many children it says that it has
abbrev pub children_count : List ℕ → ℕ → ℕ
children_count b off = slice_index b (off + 8)

-- how many values it says that it has
abbrev pub values_count : List ℕ → ℕ → ℕ
values_count b off = number_at 8 (off + 16) b

-- where the child entry i of a node is
abbrev pub child_entry : Layout → ℕ → ℕ → ℕ
child_entry l off i = off + l.node_size + l.child_size * i

-- where its value entries begin
abbrev pub value_entries : Layout → List ℕ → ℕ → ℕ
value_entries l b off = child_entry l off (children_count b off)

-- where its record ends
unfoldable pub record_end : Layout → List ℕ → ℕ → ℕ
record_end l b off = value_entries l b off + l.value_size * values_count b off

-- the byte of a child entry
abbrev pub child_byte : List ℕ → ℕ → ℕ
child_byte b entry = slice_index b entry

-- where the record of a child entry's node is
abbrev pub child_off : List ℕ → ℕ → ℕ
child_off b entry = number_at 8 (entry + 8) b

-- the string that is at a place: up to the next byte 0
unfoldable pub text_at : List ℕ → ℕ → List ℕ
text_at b i = take_while (λ x. not (x == 0)) (drop i b)

-- a place in the string section
pub record IsPlace (l : Layout) (b : List ℕ) (i : ℕ) : Type 0 where
  pub above : l.strings ≤ i
  pub below : i < length b

-- where a value entry says that its key is
abbrev pub key_off : List ℕ → ℕ → ℕ
key_off b entry = number_at 8 entry b

-- where it says that its value is
abbrev pub value_off : List ℕ → ℕ → ℕ
value_off b entry = number_at 8 (entry + 8) b

-- where it says that its path is
abbrev pub filename_off : List ℕ → ℕ → ℕ
filename_off b entry = number_at 8 (entry + 16) b

-- the line that it says
abbrev pub line_number : List ℕ → ℕ → ℕ
line_number b entry = number_at 4 (entry + 24) b

-- the priority that it says
abbrev pub file_priority : List ℕ → ℕ → ℕ
file_priority b entry = number_at 2 (entry + 28) b

-- the value that a value entry gives
unfoldable pub value_at : List ℕ → ℕ → Value
value_at b entry = record {
  priority = file_priority b entry;
  line = line_number b entry;
  key = text_at b (key_off b entry);
  value = text_at b (value_off b entry);
  path = text_at b (filename_off b entry);
}

-- a value entry whose string offsets are places in the string section, and whose priority is above 0
pub record IsValue (l : Layout) (b : List ℕ) (entry : ℕ) : Type 0 where
  pub key : IsPlace l b (key_off b entry)
  pub value : IsPlace l b (value_off b entry)
  pub path : IsPlace l b (filename_off b entry)
  pub priority : 0 < file_priority b entry

-- The entries from `entry` on give the values, under keys above `before`.
unfoldable pub ValuesText : Layout → List ℕ → (entry : ℕ) → Option (List ℕ) → List Value → Type 0
ValuesText l b entry before [] = Unit {0}
ValuesText l b entry before (v ∷ vs) =
    IsValue l b entry × (v ≡ value_at b entry) × IsAbove before v.key × ValuesText l b (entry + l.value_size) (Some v.key) vs

unfoldable mutual
  -- From `from` to the end of the record at `off` the bytes are the text of a tree of at most so many levels. It is the
  -- texts of its children, in order, and then its record.
  pub NodeText : Layout → List ℕ → (levels from off : ℕ) → Tree → Type 0
  NodeText l b zero from off (Node prefix values children) = ⊥
  NodeText l b (suc levels) from off (Node prefix values children) =
      IsPlace l b (prefix_off b off)
      × (prefix ≡ text_at b (prefix_off b off))
      × (length values ≡ values_count b off)
      × ValuesText l b (value_entries l b off) None values
      × (count children ≡ children_count b off)
      × ChildrenText l b levels from (child_entry l off 0) 0 off children

  -- The entries from `entry` on name the children, under bytes above `byte`, and their texts are one
  -- after another from `from` to `end`.
  pub ChildrenText : Layout → List ℕ → (levels from entry byte end : ℕ) → Children → Type 0
  ChildrenText l b levels from entry byte end NoMore = from ≡ end
  ChildrenText l b levels from entry byte end (Child c tree more) =
      (byte < c)
      × (c ≡ child_byte b entry)
      × NodeText l b levels from (child_off b entry) tree
      × ChildrenText l b levels (record_end l b (child_off b entry)) (entry + l.child_size) c end more

-- how many levels of nodes a database may have: as many as the bytes of the longest pattern, and the root
abbrev pub max_levels : ℕ
max_levels = 4097

-- there are as many bytes as a header has
abbrev pub IsLong : List ℕ → Type 0
IsLong b = header_bytes ≤ length b

-- the first 8 bytes are the signature
abbrev pub IsSigned : List ℕ → Type 0
IsSigned b = take 8 b ≡ codes "KSLPHHRH"

-- the header and the records are as long as their known fields at least
pub record HasSizes (b : List ℕ) : Type 0 where
  pub header : header_bytes ≤ (header_of b).header_size
  pub node : node_bytes ≤ (header_of b).node_size
  pub child : child_bytes ≤ (header_of b).child_entry_size
  pub value : value_bytes ≤ (header_of b).value_entry_size

-- the file has the size that it says, and its parts add up to it
pub record HasLengths (b : List ℕ) : Type 0 where
  pub file : (header_of b).file_size ≡ length b
  pub parts : (header_of b).header_size + (header_of b).nodes_len + (header_of b).strings_len ≡ length b

-- there is a string, and the last byte ends one
pub record HasStrings (b : List ℕ) : Type 0 where
  pub some : 0 < (header_of b).strings_len
  pub ended : slice_index b (length b - 1) ≡ 0

-- The bytes begin with a header (`hwdb-internal.h`): signature, record sizes of at least 80, 24, 16 and 32, and lengths whose
-- sum is the file's. Its string section ends in byte 0.
pub record IsHeader (b : List ℕ) : Type 0 where
  pub long : IsLong b
  pub signed : IsSigned b
  pub sizes : HasSizes b
  pub lengths : HasLengths b
  pub strings : HasStrings b

-- The bytes are a database of the tree: the nodes section is exactly the root's text. A node's text is its children's
-- texts, in order, and then its record. Each record has the node's fields, each string offset is inside the string section,
-- no priority is 0, and no node is deeper than 4,097.
pub record IsDatabase (b : List ℕ) (t : Tree) : Type 0 where
  pub header : IsHeader b
  -- the nodes section is the root's text
  pub text : NodeText (layout_of b) b max_levels (layout_of b).nodes (layout_of b).root t
  pub whole : record_end (layout_of b) b (layout_of b).root ≡ (layout_of b).strings

-- one of the three string offsets of a value entry
abbrev pub IsField : ℕ → ℕ → Type 0
IsField entry at = (at ≡ entry) ⊎ ((at ≡ entry + 8) ⊎ (at ≡ entry + 16))

-- a fault of a value entry alone
abbrev pub EntryFault : Layout → List ℕ → ℕ → DbFault → Type 0
EntryFault l b entry (StringOffset at) = IsField entry at × ¬ IsPlace l b (number_at 8 at b)
EntryFault l b entry (Priority at) = (at ≡ entry) × (file_priority b entry ≡ 0)
EntryFault l b entry _ = ⊥

-- the key at an entry isn't above the one of the entry before
abbrev pub KeysFall : Layout → List ℕ → ℕ → Type 0
KeysFall l b entry =
    IsPlace l b (key_off b entry) × IsPlace l b (key_off b (entry + l.value_size))
    × (text_cmp (text_at b (key_off b entry)) (text_at b (key_off b (entry + l.value_size))) ≢ Less)

-- a fault of the n value entries from `first` on
abbrev pub ValuesFault : Layout → List ℕ → (first n : ℕ) → DbFault → Type 0
ValuesFault l b first n (KeyOrder at) =
    (i : ℕ) × (i + 1 < n) × (at ≡ first + l.value_size * (i + 1)) × KeysFall l b (first + l.value_size * i)
ValuesFault l b first n fault = (i : ℕ) × (i < n) × EntryFault l b (first + l.value_size * i) fault

-- A visit to a node: how many levels are left for it, where its text may begin, and where its record is. And where this
-- has to end.
pub record Visit : Type 0 where
  pub levels : ℕ
  pub from : ℕ
  pub off : ℕ
  pub limit : ℕ

-- the visit to the root
abbrev pub root_visit : Layout → Visit
root_visit l = record { levels = max_levels; from = l.nodes; off = l.root; limit = l.strings }

-- the record of the visited node lies between where its text may begin and where it has to end
abbrev pub Fits : Layout → List ℕ → Visit → Type 0
Fits l b v = (v.from ≤ v.off) × (record_end l b v.off ≤ v.limit)

-- where the text of child i of a node may begin: where the record of the one before it ends
unfoldable pub child_from : Layout → List ℕ → (from off i : ℕ) → ℕ
child_from l b from off zero = from
child_from l b from off (suc i) = record_end l b (child_off b (child_entry l off i))

-- the visit to child i of a visited node
abbrev pub child_visit : Layout → List ℕ → Visit → ℕ → Visit
child_visit l b v i =
    record { levels = v.levels - 1; from = child_from l b v.from v.off i; off = child_off b (child_entry l v.off i); limit = v.off }

-- each child before i fits
abbrev pub ChildrenFit : Layout → List ℕ → Visit → ℕ → Type 0
ChildrenFit l b v i = (j : ℕ) → j < i → Fits l b (child_visit l b v j)

-- The root is visited; and if a visited node fits and each of its children before i does, child i is.
pub data Visited (l : Layout) (b : List ℕ) : Visit → Type 0 where
  Root : Visited l b (root_visit l)
  Below : {v : Visit} (i : ℕ) → Visited l b v → 0 < v.levels → Fits l b v → i < children_count b v.off → ChildrenFit l b v i → Visited l b (child_visit l b v i)

-- the byte of the child before i, or 0
unfoldable pub byte_before : Layout → List ℕ → (off i : ℕ) → ℕ
byte_before l b off zero = 0
byte_before l b off (suc i) = child_byte b (child_entry l off i)

-- what is wrong with a visited node that fits
abbrev pub NodeFault : Layout → List ℕ → Visit → DbFault → Type 0
NodeFault l b v (Place at) =
    (at ≡ v.off) × ChildrenFit l b v (children_count b v.off) × (child_from l b v.from v.off (children_count b v.off) ≢ v.off)
NodeFault l b v (Depth at) = (at ≡ v.off) × (v.levels ≡ 0)
NodeFault l b v (ChildOrder at) =
    (i : ℕ) × (i < children_count b v.off) × (at ≡ child_entry l v.off i) × ¬ (byte_before l b v.off i < child_byte b at)
NodeFault l b v (StringOffset at) =
    ((at ≡ v.off) × ¬ IsPlace l b (prefix_off b at))
    ⊎ ValuesFault l b (value_entries l b v.off) (values_count b v.off) (StringOffset at)
NodeFault l b v fault = ValuesFault l b (value_entries l b v.off) (values_count b v.off) fault

-- the fault is that of a visited node, at the offset that it carries
unfoldable pub IsVisitFault : Layout → List ℕ → DbFault → Type 0
IsVisitFault l b fault =
    (v : Visit) × Visited l b v × ((Fits l b v × NodeFault l b v fault) ⊎ (¬ Fits l b v × (fault ≡ Place v.off)))

-- the first of the header's faults that applies
abbrev pub HeaderFault : List ℕ → DbFault → Type 0
HeaderFault b Short = ¬ IsLong b
HeaderFault b Signature = IsLong b × ¬ IsSigned b
HeaderFault b RecordSizes = IsLong b × IsSigned b × ¬ HasSizes b
HeaderFault b Lengths = IsLong b × IsSigned b × HasSizes b × ¬ HasLengths b
HeaderFault b Strings = IsLong b × IsSigned b × HasSizes b × HasLengths b × ¬ HasStrings b
HeaderFault b _ = ⊥

-- The fault B1 to B11 applies to the bytes, at its offset. In a database none does (`law_faultless`). Of B1 to B5 one at
-- most does (`law_header_faults`), and what is at fault is at the offset (`law_offsets`).
unfoldable pub Applies : List ℕ → DbFault → Type 0
Applies b fault =
    HeaderFault b fault
    ⊎ (IsHeader b × (IsVisitFault (layout_of b) b fault
    ⊎ ((fault ≡ Place (layout_of b).root) × (record_end (layout_of b) b (layout_of b).root ≢ (layout_of b).strings))))
