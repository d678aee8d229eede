-- The tree of a text is a tree whose keys and bytes ascend.
use Rattle.std.proofs.Common.{ℕ, zero, suc, ◌+◌, List, [], ◌∷◌, Option, Some, None}
use Rattle.std.specs.Coded.{×_prop, Unit-prop}
use Rattle.std.proofs.Props.{props}
use Rattle.hwdb_spec.specs.declared.Layout.{Layout}
use Rattle.hwdb_spec.specs.Tree.{Value, Tree, Children, IsAbove, KeysAscend, IsTree, BytesAscend}
use Rattle.hwdb_spec.specs.Tree.Tree.{Node}
use Rattle.hwdb_spec.specs.Tree.Children.{NoMore, Child}
use Rattle.hwdb_spec.specs.Format.{NodeText, ChildrenText, ValuesText, child_entry, child_off, value_entries, record_end, layout_of, IsDatabase, max_levels}

keys_ascend : (l : Layout) (b : List ℕ) (entry : ℕ) (before : Option (List ℕ)) (vs : List Value) → ValuesText l b entry before vs → KeysAscend before vs
unfolding ValuesText
keys_ascend l b entry before [] h = tt
keys_ascend l b entry before (v ∷ vs) h = (h.2, keys_ascend l b (entry + l.value_size) (Some v.key) vs h.3)

mutual
  unfolding NodeText IsTree

  pub ascends : (l : Layout) (b : List ℕ) (levels from off : ℕ) (t : Tree) → NodeText l b levels from off t → IsTree t
  ascends l b zero from off (Node prefix values children) h = absurd h
  ascends l b (suc levels) from off (Node prefix values children) h =
      (keys_ascend l b (value_entries l b off) None values h.3, bytes_ascend l b levels from (child_entry l off 0) 0 off children h.5)

  pub bytes_ascend : (l : Layout) (b : List ℕ) (levels from entry byte end : ℕ) (ks : Children) → ChildrenText l b levels from entry byte end ks → BytesAscend byte ks
  bytes_ascend l b levels from entry byte end NoMore h = tt
  bytes_ascend l b levels from entry byte end (Child c t more) h =
      (h.0, ascends l b levels from (child_off b entry) t h.2, bytes_ascend l b levels (record_end l b (child_off b entry)) (entry + l.child_size) c end more h.3)

pub database_ascends : (b : List ℕ) (t : Tree) → IsDatabase b t → IsTree t
database_ascends b t h = ascends (layout_of b) b max_levels (layout_of b).nodes (layout_of b).root t h.text

IsAbove-prop : (before : Option (List ℕ)) (key : List ℕ) → IsProp (IsAbove before key)
IsAbove-prop None key = Unit-prop
IsAbove-prop (Some k) key = hlevel props

KeysAscend-prop : (before : Option (List ℕ)) (vs : List Value) → IsProp (KeysAscend before vs)
KeysAscend-prop before [] = Unit-prop
KeysAscend-prop before (v ∷ vs) = ×_prop (IsAbove-prop before v.key) (KeysAscend-prop (Some v.key) vs)

mutual
  unfolding IsTree

  pub IsTree-prop : (t : Tree) → IsProp (IsTree t)
  IsTree-prop (Node prefix values children) = ×_prop (KeysAscend-prop None values) (BytesAscend-prop 0 children)

  pub BytesAscend-prop : (before : ℕ) (ks : Children) → IsProp (BytesAscend before ks)
  BytesAscend-prop before NoMore = Unit-prop
  BytesAscend-prop before (Child c t more) = hlevel (props, IsTree-prop t, BytesAscend-prop c more)
