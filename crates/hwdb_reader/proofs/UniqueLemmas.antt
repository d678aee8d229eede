-- Bytes are the text of one tree at most.
use Rattle.std.proofs.Common.{◌≡◌, ℕ, zero, suc, ◌+◌, List, [], ◌∷◌, length, Option, Some, refl}
use Rattle.hwdb_spec.specs.declared.Layout.{Layout}
use Rattle.hwdb_spec.specs.Tree.{Value, Tree, Children, count}
use Rattle.hwdb_spec.specs.Tree.Tree.{Node}
use Rattle.hwdb_spec.specs.Tree.Children.{NoMore, Child}
use Rattle.hwdb_spec.specs.Format.{NodeText, ChildrenText, ValuesText, record_end, child_entry, child_off, value_entries}
use Rattle.hwdb_reader.specs.Internal.Read.{tree_at, children_at, values_at}

pub values_are : (l : Layout) (b : List ℕ) (entry : ℕ) (before : Option (List ℕ)) (vs : List Value) → ValuesText l b entry before vs → vs ≡ values_at l b entry (length vs)
unfolding ValuesText values_at
values_are l b entry before [] h = refl
values_are l b entry before (v ∷ vs) h =
    let rest = values_are l b (entry + l.value_size) (Some v.key) vs h.3 in
    let first = h.1 in
    cc

mutual
  unfolding NodeText tree_at children_at count

  pub tree_is : (l : Layout) (b : List ℕ) (levels from off : ℕ) (t : Tree) → NodeText l b levels from off t → t ≡ tree_at l b levels off
  tree_is l b zero from off (Node prefix values children) h = absurd h
  tree_is l b (suc levels) from off (Node prefix values children) h =
      let ks = children_are l b levels from (child_entry l off 0) 0 off children h.5 in
      let vs = values_are l b (value_entries l b off) _ values h.3 in
      let p = h.1 in let nv = h.2 in let nc = h.4 in
      cc

  pub children_are : (l : Layout) (b : List ℕ) (levels from entry byte end : ℕ) (ks : Children) → ChildrenText l b levels from entry byte end ks → ks ≡ children_at (tree_at l b levels) l b entry (count ks)
  children_are l b levels from entry byte end NoMore h = refl
  children_are l b levels from entry byte end (Child c t more) h =
      let first = tree_is l b levels from (child_off b entry) t h.2 in
      let rest = children_are l b levels (record_end l b (child_off b entry)) (entry + l.child_size) c end more h.3 in
      let byte_is = h.1 in
      cc
