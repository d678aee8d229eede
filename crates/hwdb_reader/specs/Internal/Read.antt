-- What is read at a place, whatever the fields say.
use Rattle.std.specs.Prelude.{List, ℕ, zero, suc, [], ◌∷◌, ◌+◌}
use Rattle.hwdb_spec.specs.declared.Layout.{Layout}
use Rattle.hwdb_spec.specs.Tree.{Tree, Children, Value}
use Rattle.hwdb_spec.specs.Tree.Tree.{Node}
use Rattle.hwdb_spec.specs.Tree.Children.{NoMore, Child}
use Rattle.hwdb_spec.specs.Format.{value_at, value_entries, values_count, text_at, prefix_off, child_byte, child_off, child_entry, children_count}

-- the values that so many entries give
unfoldable pub values_at : Layout → List ℕ → (entry n : ℕ) → List Value
values_at l b entry zero = []
values_at l b entry (suc n) = value_at b entry ∷ values_at l b (entry + l.value_size) n

-- the children that so many entries name, each read by `read`
unfoldable pub children_at : (ℕ → Tree) → Layout → List ℕ → (entry n : ℕ) → Children
children_at read l b entry zero = NoMore
children_at read l b entry (suc n) =
    Child (child_byte b entry) (read (child_off b entry)) (children_at read l b (entry + l.child_size) n)

-- the tree that is read at `off`, down to so many levels
unfoldable pub tree_at : Layout → List ℕ → (levels off : ℕ) → Tree
tree_at l b zero off = Node [] [] NoMore
tree_at l b (suc levels) off =
    Node
    (text_at b (prefix_off b off))
    (values_at l b (value_entries l b off) (values_count b off))
    (children_at (tree_at l b levels) l b (child_entry l off 0) (children_count b off))
