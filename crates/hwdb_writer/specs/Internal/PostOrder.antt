-- The tree of a list of nodes, each after its children.
use Rattle.std.specs.Prelude.{List, [], ℕ, ◌∷◌, ◌++◌, ◌+◌, ◌-◌, ◌≤◌, ◌≡◌, length, take, drop, map}
use Rattle.hwdb_spec.specs.Tree.Children.{Child, NoMore}
use Rattle.hwdb_spec.specs.Tree.{Children, Tree, Value}
use Rattle.hwdb_spec.specs.Tree.Tree.{Node}
use Rattle.hwdb_writer.specs.Internal.Entries.{value_of}
use Rattle.hwdb_writer.specs.declared.entries.Setting.{Setting}
use Rattle.hwdb_writer.specs.declared.nodes.BuiltNode.{BuiltNode as NodeRecord}

-- a tree under its byte
abbrev pub Sub : Type 0
Sub = ℕ × Tree

-- the children, each under its byte
abbrev pub children_in : List Sub → Children
children_in [] = NoMore
children_in (p ∷ ps) = Child p.0 p.1 (children_in ps)

-- the values of a node: so many entries, from its first on
abbrev pub values_at : List Setting → NodeRecord → List Value
values_at es n = map value_of (take n.count (drop n.first es))

-- how many of the trees so far stay, before a node with so many children
abbrev pub staying : List Sub → NodeRecord → ℕ
staying trees n = length trees - n.children

-- the node over the last of the trees, its children
abbrev pub over : List Setting → List Sub → NodeRecord → Tree
over es trees n = Node n.prefix.now (values_at es n) (children_in (drop (staying trees n) trees))

-- the trees after a node, which takes the place of its children
abbrev pub joined : List Setting → List Sub → NodeRecord → List Sub
joined es trees n = take (staying trees n) trees ++ (n.byte, over es trees n) ∷ []

-- the trees after nodes
unfoldable pub trees_after : List Setting → List Sub → List NodeRecord → List Sub
trees_after es trees [] = trees
trees_after es trees (n ∷ ns) = trees_after es (joined es trees n) ns

-- each node has its children before it, and its values among the entries
unfoldable pub AreWhole : List Setting → List Sub → List NodeRecord → Type 0
AreWhole es trees [] = Unit {0}
AreWhole es trees (n ∷ ns) = (n.children ≤ length trees) × (n.first + n.count ≤ length es) × AreWhole es (joined es trees n) ns

-- the first of the trees; an empty one if there is none
abbrev pub first_tree : List Sub → Tree
first_tree [] = Node [] [] NoMore
first_tree (p ∷ ps) = p.1

-- the tree of all nodes
abbrev pub tree_of : List Setting → List NodeRecord → Tree
tree_of es ns = first_tree (trees_after es [] ns)

-- the nodes are those of one tree, each after its children
pub record IsPostOrder (es : List Setting) (ns : List NodeRecord) : Type 0 where
  pub whole : AreWhole es [] ns
  pub one : length (trees_after es [] ns) ≡ 1
