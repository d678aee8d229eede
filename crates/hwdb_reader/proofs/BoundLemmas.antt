-- How far the text of a tree reaches.
use Rattle.std.proofs.Common.{◌≤◌, ◌<◌, ℕ, zero, suc, ◌+◌, ◌*◌, List, arith}
use Rattle.std.proofs.lemmas.Nat.{mul-le}
use Rattle.hwdb_spec.specs.declared.Layout.{Layout}
use Rattle.hwdb_spec.specs.Tree.{Tree, Children}
use Rattle.hwdb_reader.specs.Views.{node_count, nodes_below}
use Rattle.hwdb_spec.specs.Tree.Tree.{Node}
use Rattle.hwdb_spec.specs.Tree.Children.{NoMore, Child}
use Rattle.hwdb_spec.specs.Format.{NodeText, ChildrenText, record_end, child_entry, children_count, child_off, value_entries, values_count}

-- a record has room for its fixed fields
pub record_fields : (l : Layout) (b : List ℕ) (off : ℕ) → 24 ≤ l.node_size → off + 24 ≤ record_end l b off
unfolding record_end
record_fields l b off big = omega arith

mutual
  unfolding NodeText node_count

  -- a tree's nodes have 24 bytes each in its text
  pub node_room : (l : Layout) (b : List ℕ) (big : 24 ≤ l.node_size) (levels from off : ℕ) (t : Tree) → NodeText l b levels from off t → from + 24 * node_count t ≤ record_end l b off
  node_room l b big zero from off (Node prefix values children) h = absurd h
  node_room l b big (suc levels) from off (Node prefix values children) h =
      omega (arith, children_room l b big levels from (child_entry l off 0) 0 off children h.5, record_fields l b off big)

  pub children_room : (l : Layout) (b : List ℕ) (big : 24 ≤ l.node_size) (levels from entry byte end : ℕ) (ks : Children) → ChildrenText l b levels from entry byte end ks → from + 24 * nodes_below ks ≤ end
  children_room l b big levels from entry byte end NoMore h = omega (arith, h)
  children_room l b big levels from entry byte end (Child c t more) h =
      omega (
        arith,
        node_room l b big levels from (child_off b entry) t h.2,
        children_room l b big levels (record_end l b (child_off b entry)) (entry + l.child_size) c end more h.3,
      )

-- a tree's text begins at its record or before
pub begins_before : (l : Layout) (b : List ℕ) (big : 24 ≤ l.node_size) (levels from off : ℕ) (t : Tree) → NodeText l b levels from off t → from ≤ off
unfolding NodeText
begins_before l b big zero from off (Node prefix values children) h = absurd h
begins_before l b big (suc levels) from off (Node prefix values children) h =
    omega (arith, children_room l b big levels from (child_entry l off 0) 0 off children h.5)

-- a child entry lies in its record
pub entry_room : (l : Layout) (b : List ℕ) (off i : ℕ) → i < children_count b off → child_entry l off i + l.child_size ≤ record_end l b off
unfolding record_end
entry_room l b off i h = let k : i + 1 ≤ children_count b off = omega arith in omega (arith, mul-le l.child_size (i + 1) l.child_size (children_count b off) (omega arith) k)

pub record_end_large : (l : Layout) (b : List ℕ) (off : ℕ) → off + l.node_size ≤ record_end l b off
unfolding record_end
record_end_large l b off = omega arith

-- so does a value entry
pub value_entry_room : (l : Layout) (b : List ℕ) (off i : ℕ) → i < values_count b off → value_entries l b off + l.value_size * i + l.value_size ≤ record_end l b off
unfolding record_end
value_entry_room l b off i h = let k : i + 1 ≤ values_count b off = omega arith in omega (arith, mul-le l.value_size (i + 1) l.value_size (values_count b off) (omega arith) k)
