-- The nodes of a database, record by record.
use Rattle.std.proofs.Common.{◌≡◌, ◌≤◌, ◌<◌, ◌-◌, ℕ, zero, suc, ◌+◌, List, length, None, refl, sym, ap, arith, subst, inl, inr, add-one}
use Rattle.hwdb_spec.specs.declared.Layout.{Layout}
use Rattle.hwdb_spec.specs.declared.DbFault.{DbFault}
use Rattle.hwdb_spec.specs.declared.DbFault.TheVariants.{Short, Signature, RecordSizes, Lengths, Strings, Place, Depth, ChildOrder, StringOffset, KeyOrder, Priority}
use Rattle.hwdb_spec.specs.Tree.{Tree, count}
use Rattle.hwdb_spec.specs.Tree.Tree.{Node}
use Rattle.hwdb_spec.specs.Format.{NodeText, ChildrenText, ValuesText, IsPlace, child_entry, children_count, child_byte, child_off, value_entries, values_count, record_end, prefix_off, Fits, ChildrenFit, Visit, Visited, NodeFault, ValuesFault, child_from, IsVisitFault, byte_before}
use Rattle.hwdb_reader.specs.Internal.Read.{values_at, children_at, tree_at}
use Rattle.hwdb_spec.specs.Format.Visited.{Below}
use Rattle.hwdb_reader.specs.Internal.Placed.{visit}
use Rattle.hwdb_reader.proofs.BoundLemmas.{begins_before, children_room}

pub length-values_at : (l : Layout) (b : List ℕ) (e n : ℕ) → length (values_at l b e n) ≡ n
unfolding values_at
length-values_at l b e zero = refl
length-values_at l b e (suc n) = ap suc (length-values_at l b (e + l.value_size) n)

pub count-children_at : (read : ℕ → Tree) (l : Layout) (b : List ℕ) (e n : ℕ) → count (children_at read l b e n) ≡ n
unfolding children_at count
count-children_at read l b e zero = refl
count-children_at read l b e (suc n) = ap suc (count-children_at read l b (e + l.child_size) n)

-- a node with its fields and its children
pub record NodeParts (l : Layout) (b : List ℕ) (levels from off : ℕ) : Type 0 where
  pub prefix : IsPlace l b (prefix_off b off)
  pub values : ValuesText l b (value_entries l b off) None (values_at l b (value_entries l b off) (values_count b off))
  pub children : ChildrenText l b levels from (child_entry l off 0) 0 off (children_at (tree_at l b levels) l b (child_entry l off 0) (children_count b off))

module _ (l : Layout) (b : List ℕ) (levels from off : ℕ) (some : 0 < levels) where
  pub node_open : NodeText l b levels from off (tree_at l b levels off) → NodeParts l b (levels - 1) from off
  unfolding NodeText tree_at
  node_open h =
      let k : levels ≡ suc (levels - 1) = omega arith in
      let p = subst (λ m. NodeText l b m from off (tree_at l b m off)) k h in
      record { prefix = p.0; values = p.3; children = p.5 }

  pub node_close : NodeParts l b (levels - 1) from off → NodeText l b levels from off (tree_at l b levels off)
  unfolding NodeText tree_at
  node_close p =
      let k : levels ≡ suc (levels - 1) = omega arith in
      subst (λ m. NodeText l b m from off (tree_at l b m off)) (sym k)
      (p.prefix, refl, length-values_at l b _ _, p.values, count-children_at _ l b _ _, p.children)

-- a child with those after it
pub record ChildParts (l : Layout) (b : List ℕ) (levels from e byte end n : ℕ) : Type 0 where
  pub above : byte < child_byte b e
  pub child : NodeText l b levels from (child_off b e) (tree_at l b levels (child_off b e))
  pub more : ChildrenText l b levels (record_end l b (child_off b e)) (e + l.child_size) (child_byte b e) end (children_at (tree_at l b levels) l b (e + l.child_size) n)

module _ (l : Layout) (b : List ℕ) (levels from e byte end n i : ℕ) (lt : i < n) where
  pub child_open : ChildrenText l b levels from e byte end (children_at (tree_at l b levels) l b e (n - i)) → ChildParts l b levels from e byte end (n - (i + 1))
  unfolding ChildrenText children_at
  child_open h =
      let k : n - i ≡ suc (n - (i + 1)) = omega arith in
      let p = subst (λ m. ChildrenText l b levels from e byte end (children_at (tree_at l b levels) l b e m)) k h in
      record { above = p.0; child = p.2; more = p.3 }

  pub child_close : ChildParts l b levels from e byte end (n - (i + 1)) → ChildrenText l b levels from e byte end (children_at (tree_at l b levels) l b e (n - i))
  unfolding ChildrenText children_at
  child_close p =
      let k : n - i ≡ suc (n - (i + 1)) = omega arith in
      subst (λ m. ChildrenText l b levels from e byte end (children_at (tree_at l b levels) l b e m)) (sym k) (p.above, refl, p.child, p.more)

-- a child of a node fits
pub child_fits : (l : Layout) (b : List ℕ) (big : 24 ≤ l.node_size) (levels from e byte end n : ℕ) → ChildParts l b levels from e byte end n → Fits l b (visit levels from (child_off b e) end)
child_fits l b big levels from e byte end n p =
    let first = begins_before l b big levels from (child_off b e) (tree_at l b levels (child_off b e)) p.child in
    let after = children_room l b big levels (record_end l b (child_off b e)) (e + l.child_size) (child_byte b e) end (children_at (tree_at l b levels) l b (e + l.child_size) n) p.more in
    (omega arith, omega arith)

-- the child of a visited node that fits is visited, if all before it fit
pub child_visited : (l : Layout) (b : List ℕ) (v : Visit) (i : ℕ) → 0 < v.levels → Visited l b v → Fits l b v → i < children_count b v.off → ChildrenFit l b v i → Visited l b (visit (v.levels - 1) (child_from l b v.from v.off i) (child_off b (child_entry l v.off i)) v.off)
child_visited l b v i some r f lt fits = Below i r some f lt fits

-- a fault of a node's values is one of the node
pub values_fault : (l : Layout) (b : List ℕ) (v : Visit) (e : DbFault) → ValuesFault l b (value_entries l b v.off) (values_count b v.off) e → NodeFault l b v e
values_fault l b v Short h = h
values_fault l b v Signature h = h
values_fault l b v RecordSizes h = h
values_fault l b v Lengths h = h
values_fault l b v Strings h = h
values_fault l b v (Place at) h = absurd h.2
values_fault l b v (Depth at) h = absurd h.2
values_fault l b v (ChildOrder at) h = absurd h.2
values_fault l b v (StringOffset at) h = inr h
values_fault l b v (KeyOrder at) h = h
values_fault l b v (Priority at) h = h

-- a fault of a visited node that fits is one of the database
pub fault_stands : (l : Layout) (b : List ℕ) (v : Visit) (e : DbFault) → Visited l b v → Fits l b v → NodeFault l b v e → IsVisitFault l b e
unfolding IsVisitFault
fault_stands l b v e r f h = (v, r, inl (f, h))

-- so is the place of one that doesn't fit
pub place_stands : (l : Layout) (b : List ℕ) (v : Visit) → Visited l b v → ¬ Fits l b v → IsVisitFault l b (Place v.off)
unfolding IsVisitFault
place_stands l b v r f = (v, r, inr (f, refl))

-- after the last child its text ends
pub children_done : (l : Layout) (b : List ℕ) (levels from e byte end n i : ℕ) → n ≤ i → ChildrenText l b levels from e byte end (children_at (tree_at l b levels) l b e (n - i)) → from ≡ end
unfolding ChildrenText children_at
children_done l b levels from e byte end n i le h =
    let k : n - i ≡ 0 = omega arith in
    subst (λ m. ChildrenText l b levels from e byte end (children_at (tree_at l b levels) l b e m)) k h

pub children_end : (l : Layout) (b : List ℕ) (levels from e byte end n i : ℕ) → n ≤ i → from ≡ end → ChildrenText l b levels from e byte end (children_at (tree_at l b levels) l b e (n - i))
unfolding ChildrenText children_at
children_end l b levels from e byte end n i le h =
    let k : n - i ≡ 0 = omega arith in
    subst (λ m. ChildrenText l b levels from e byte end (children_at (tree_at l b levels) l b e m)) (sym k) h

pub no_levels : (l : Layout) (b : List ℕ) (levels from off : ℕ) (t : Tree) → levels ≡ 0 → NodeText l b levels from off t → ⊥
unfolding NodeText
no_levels l b zero from off (Node prefix values children) z h = h
no_levels l b (suc levels) from off (Node prefix values children) z h = absurd (omega arith)

pub child_from_next : (l : Layout) (b : List ℕ) (from off i : ℕ) → child_from l b from off (i + 1) ≡ record_end l b (child_off b (child_entry l off i))
unfolding child_from
child_from_next l b from off i = rw add-one refl

pub byte_before_next : (l : Layout) (b : List ℕ) (off i : ℕ) → byte_before l b off (i + 1) ≡ child_byte b (child_entry l off i)
unfolding byte_before
byte_before_next l b off i = rw add-one refl

-- the byte before is that of the entry before
pub byte_before_some : (l : Layout) (b : List ℕ) (off i : ℕ) → 0 < i → byte_before l b off i ≡ child_byte b (child_entry l off (i - 1))
unfolding byte_before
byte_before_some l b off zero lt = absurd (omega (arith, lt))
byte_before_some l b off (suc i) lt = ap (λ j. child_byte b (child_entry l off j)) (omega arith)

pub children_begin : (l : Layout) (b : List ℕ) (from off : ℕ) → from ≡ child_from l b from off 0
unfolding child_from
children_begin l b from off = refl

pub bytes_begin : (l : Layout) (b : List ℕ) (off : ℕ) → 0 ≡ byte_before l b off 0
unfolding byte_before
bytes_begin l b off = refl
