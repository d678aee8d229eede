-- What is known of the values and children of a node of a checked database.
use Rattle.std.proofs.Common.{◌≡◌, ◌≤◌, ◌<◌, ◌-◌, ◌^◌, ℕ, zero, suc, ◌+◌, ◌*◌, List, length, Option, Some, refl, sym, ◌∙◌, ap, arith, subst, slice_get}
use Rattle.std.proofs.Math.Logic.{∥∥₁_elim, ∥∥₁_map}
use Rattle.std.specs.Coded.{le_prop}
use Rattle.hwdb_spec.specs.declared.Layout.{Layout}
use Rattle.hwdb_spec.specs.Tree.{Tree, prefix_of, values_of}
use Rattle.hwdb_reader.specs.Views.{list_of, children_of}
use Rattle.hwdb_reader.specs.Internal.Read.{values_at, children_at, tree_at}
use Rattle.hwdb_spec.specs.Format.{NodeText, ChildrenText, ValuesText, value_at, text_at, IsValue, child_entry, children_count, child_byte, child_off, value_entries, values_count, record_end, prefix_off}
use Rattle.hwdb_reader.specs.Internal.Placed.{Placed}
use Rattle.hwdb_reader.proofs.BoundLemmas.{children_room, record_end_large}
use Rattle.hwdb_reader.proofs.NodeLemmas.{node_open, no_levels}
use Rattle.hwdb_reader.proofs.StringLemmas.{text_within}

levels_some : (l : Layout) (b : List ℕ) (levels from off : ℕ) (t : Tree) → NodeText l b levels from off t → 0 < levels
levels_some l b zero from off t h = absurd (no_levels l b zero from off t refl h)
levels_some l b (suc levels) from off t h = omega arith

-- the parts of a placed node, from a fact that is only known to hold
module _ (l : Layout) (b : List ℕ) (levels off : ℕ) (h : ∥ Placed l b levels off ∥₁) where
  pub placed_levels : 0 < levels
  placed_levels = ∥∥₁_elim h le_prop (λ p. levels_some l b levels p.from off _ p.text)

  pub placed_inside : record_end l b off ≤ length b
  placed_inside = ∥∥₁_elim h le_prop (λ p. p.inside)

  pub placed_prefix : prefix_off b off < length b
  placed_prefix = ∥∥₁_elim h le_prop (λ p. (node_open l b levels p.from off placed_levels p.text).prefix.below)

-- the prefix, the values and the children of the tree that is read
pub tree_prefix : (l : Layout) (b : List ℕ) (levels off : ℕ) → 0 < levels → prefix_of (tree_at l b levels off) ≡ text_at b (prefix_off b off)
unfolding tree_at prefix_of
tree_prefix l b zero off h = absurd (omega arith)
tree_prefix l b (suc levels) off h = refl

pub tree_values : (l : Layout) (b : List ℕ) (levels off : ℕ) → 0 < levels → values_of (tree_at l b levels off) ≡ values_at l b (value_entries l b off) (values_count b off)
unfolding tree_at values_of
tree_values l b zero off h = absurd (omega arith)
tree_values l b (suc levels) off h = refl

pub tree_children : (l : Layout) (b : List ℕ) (levels off : ℕ) → 0 < levels → children_of (tree_at l b levels off) ≡ list_of (children_at (tree_at l b (levels - 1)) l b (child_entry l off 0) (children_count b off))
unfolding tree_at children_of
tree_children l b zero off h = absurd (omega arith)
tree_children l b (suc levels) off h =
    let k : levels ≡ suc levels - 1 = omega arith in
    ap (λ m. list_of (children_at (tree_at l b m) l b (child_entry l off 0) (children_count b off))) k

pub length-values : (l : Layout) (b : List ℕ) (e n : ℕ) → length (values_at l b e n) ≡ n
unfolding values_at
length-values l b e zero = refl
length-values l b e (suc n) = ap suc (length-values l b (e + l.value_size) n)

pub length-children : (read : ℕ → Tree) (l : Layout) (b : List ℕ) (e n : ℕ) → length (list_of (children_at read l b e n)) ≡ n
unfolding children_at list_of
length-children read l b e zero = refl
length-children read l b e (suc n) = ap suc (length-children read l b (e + l.child_size) n)

-- the value and the child at a place
pub value_number : (l : Layout) (b : List ℕ) (e n i : ℕ) → i < n → slice_get (values_at l b e n) i ≡ Some (value_at b (e + l.value_size * i))
unfolding values_at
value_number l b e zero i lt = absurd (omega arith)
value_number l b e (suc n) zero lt = let k : e + l.value_size * 0 ≡ e = omega arith in rw k refl
value_number l b e (suc n) (suc i) lt =
    let k : e + l.value_size + l.value_size * i ≡ e + l.value_size * suc i = omega arith in
    value_number l b (e + l.value_size) n i (omega arith) ∙ ap (λ m. Some (value_at b m)) k

pub child_number : (read : ℕ → Tree) (l : Layout) (b : List ℕ) (e n i : ℕ) → i < n → slice_get (list_of (children_at read l b e n)) i ≡ Some (child_byte b (e + l.child_size * i), read (child_off b (e + l.child_size * i)))
unfolding children_at list_of
child_number read l b e zero i lt = absurd (omega arith)
child_number read l b e (suc n) zero lt = let k : e + l.child_size * 0 ≡ e = omega arith in rw k refl
child_number read l b e (suc n) (suc i) lt =
    let k : e + l.child_size + l.child_size * i ≡ e + l.child_size * suc i = omega arith in
    child_number read l b (e + l.child_size) n i (omega arith) ∙ ap (λ m. Some (child_byte b m, read (child_off b m))) k

-- each value entry of a text is sound
pub value_sound : (l : Layout) (b : List ℕ) (e n i : ℕ) (before : Option (List ℕ)) → i < n → ValuesText l b e before (values_at l b e n) → IsValue l b (e + l.value_size * i)
unfolding ValuesText values_at
value_sound l b e zero i before lt h = absurd (omega arith)
value_sound l b e (suc n) zero before lt h = let k : e + l.value_size * 0 ≡ e = omega arith in rw k h.0
value_sound l b e (suc n) (suc i) before lt h =
    let k : e + l.value_size + l.value_size * i ≡ e + l.value_size * suc i = omega arith in
    subst (λ m. IsValue l b m) k (value_sound l b (e + l.value_size) n i _ (omega arith) h.3)

-- each child of a text is placed
pub child_sound : (l : Layout) (b : List ℕ) (big : 24 ≤ l.node_size) (levels from e byte end n i : ℕ) → i < n → end ≤ length b → length b < 2 ^ 64 → ChildrenText l b levels from e byte end (children_at (tree_at l b levels) l b e n) → Placed l b levels (child_off b (e + l.child_size * i))
unfolding ChildrenText children_at
child_sound l b big levels from e byte end zero i lt room small h = absurd (omega arith)
child_sound l b big levels from e byte end (suc n) zero lt room small h =
    let k : e + l.child_size * 0 ≡ e = omega arith in
    let r = children_room l b big levels (record_end l b (child_off b e)) (e + l.child_size) (child_byte b e) end (children_at (tree_at l b levels) l b (e + l.child_size) n) h.3 in
    rw k (record { from = from; text = h.2; inside = omega (arith, r); small = small })
child_sound l b big levels from e byte end (suc n) (suc i) lt room small h =
    let k : e + l.child_size + l.child_size * i ≡ e + l.child_size * suc i = omega arith in
    subst (λ m. Placed l b levels (child_off b m)) k (child_sound l b big levels (record_end l b (child_off b e)) (e + l.child_size) (child_byte b e) end n i (omega arith) room small h.3)

module _ (l : Layout) (b : List ℕ) (levels off : ℕ) (h : ∥ Placed l b levels off ∥₁) where
  pub children_number : length (children_of (tree_at l b levels off)) ≡ children_count b off
  children_number = ap length (tree_children l b levels off (placed_levels l b levels off h)) ∙ length-children _ l b _ _

  pub values_number : length (values_of (tree_at l b levels off)) ≡ values_count b off
  values_number = ap length (tree_values l b levels off (placed_levels l b levels off h)) ∙ length-values l b _ _

  pub prefix_read : text_at b (prefix_off b off) ≡ prefix_of (tree_at l b levels off)
  prefix_read = sym (tree_prefix l b levels off (placed_levels l b levels off h))

  -- and the prefix ends before the bytes do
  pub prefix_ends : prefix_off b off + length (prefix_of (tree_at l b levels off)) ≤ length b
  prefix_ends =
      let at : prefix_off b off < length b = placed_prefix l b levels off h in
      omega (arith, ap length prefix_read, text_within b (prefix_off b off) (omega (arith, at)))

  pub child_read : (i : ℕ) → i < children_count b off → slice_get (children_of (tree_at l b levels off)) i ≡ Some (child_byte b (child_entry l off i), tree_at l b (levels - 1) (child_off b (child_entry l off i)))
  child_read i lt =
      let k : child_entry l off 0 + l.child_size * i ≡ child_entry l off i = omega arith in
      ap (λ xs. slice_get xs i) (tree_children l b levels off (placed_levels l b levels off h))
      ∙ child_number (tree_at l b (levels - 1)) l b (child_entry l off 0) (children_count b off) i lt
      ∙ ap (λ m. Some (child_byte b m, tree_at l b (levels - 1) (child_off b m))) k

  pub value_read : (i : ℕ) → i < values_count b off → slice_get (values_of (tree_at l b levels off)) i ≡ Some (value_at b (value_entries l b off + l.value_size * i))
  value_read i lt =
      ap (λ xs. slice_get xs i) (tree_values l b levels off (placed_levels l b levels off h))
      ∙ value_number l b (value_entries l b off) (values_count b off) i lt

  pub child_placed : 24 ≤ l.node_size → (i : ℕ) → i < children_count b off → ∥ Placed l b (levels - 1) (child_off b (child_entry l off i)) ∥₁
  child_placed big i lt =
      ∥∥₁_map h (λ p.
      let k : child_entry l off 0 + l.child_size * i ≡ child_entry l off i = omega arith in
      let q = node_open l b levels p.from off (placed_levels l b levels off h) p.text in
      let inside = p.inside in
      let e = record_end_large l b off in
      subst (λ m. Placed l b (levels - 1) (child_off b m)) k
      (child_sound l b big (levels - 1) p.from (child_entry l off 0) 0 off (children_count b off) i lt (omega (arith, inside, e)) p.small q.children))

  pub value_placed : (i : ℕ) → i < values_count b off → ∥ IsValue l b (value_entries l b off + l.value_size * i) ∥₁
  value_placed i lt =
      ∥∥₁_map h (λ p. value_sound l b (value_entries l b off) (values_count b off) i _ lt (node_open l b levels p.from off (placed_levels l b levels off h) p.text).values)
