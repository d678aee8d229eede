-- What contracts see of a checked database: the tree that its bytes are a database of. Our choice.
use Rattle.std.specs.Prelude.{option_map, List, ℕ, Option, [], ◌∷◌, ◌+◌}
use Rattle.hwdb_reader.specs.declared.view.Node.{Node}
use Rattle.hwdb_spec.specs.Tree.{Tree, Children, Value, key_of}
use Rattle.hwdb_reader.specs.Internal.Read.{tree_at}
use Rattle.hwdb_spec.specs.Tree.Tree.{Node as NodeOf}
use Rattle.hwdb_spec.specs.Tree.Children.{NoMore, Child}
use Rattle.hwdb_reader.specs.declared.view.Inside.{Inside}
use Rattle.hwdb_reader.specs.declared.view.Entry.{Entry}

-- children as a list, each with its byte
unfoldable pub list_of : Children → List (ℕ × Tree)
list_of NoMore = []
list_of (Child byte tree more) = (byte, tree) ∷ list_of more

-- the children of the root
unfoldable pub children_of : Tree → List (ℕ × Tree)
children_of (NodeOf prefix values children) = list_of children

-- how many nodes a tree has
unfoldable mutual
  pub node_count : Tree → ℕ
  node_count (NodeOf prefix values children) = 1 + nodes_below children

  -- how many nodes the trees of children have
  pub nodes_below : Children → ℕ
  nodes_below NoMore = 0
  nodes_below (Child byte tree more) = node_count tree + nodes_below more

-- a value as the view shows it: its key without the space, if it has one
pub record Shown : Type 0 where
  pub priority : ℕ
  pub line : ℕ
  pub key : Option (List ℕ)
  pub value : List ℕ
  pub path : List ℕ

-- a value, as the view shows it
abbrev pub shown : Value → Shown
shown v = record { priority = v.priority; line = v.line; key = key_of v.key; value = v.value; path = v.path }

-- the tree of a node
unfoldable pub tree_of : Node → Tree
tree_of n = tree_at n.frame.sizes n.bytes.now n.levels n.offset

-- the tree of the node that was entered
abbrev pub entered_tree : Inside → Tree
entered_tree i = tree_of i.node

-- what an entry shows of a value
abbrev pub entry_shows : Entry → Shown
entry_shows e = record { priority = e.priority; line = e.line; key = option_map (λ k. k.now) e.key; value = e.value.now; path = e.path.now }
