-- The stack of a walk: what is still to come, and how many nodes are left. The list begins with the top.
use Rattle.std.specs.Prelude.{All, IfSome, List, ℕ, Option, None, Some, [], ◌∷◌, ◌++◌, ◌+◌, ◌<◌, ◌≤◌, ◌≡◌, ◌^◌, ◌⊎◌, suc, take, drop, length, max, reverse}
use Rattle.hwdb_spec.specs.Assignment.{Assignment}
use Rattle.hwdb_spec_commands.specs.Summary.{depth}
use Rattle.hwdb_spec.specs.Tree.{Tree, Children, Value, values_of}
use Rattle.hwdb_spec.specs.Tree.Tree.{Node}
use Rattle.hwdb_spec.specs.Tree.Children.{NoMore, Child}
use Rattle.hwdb_reader.specs.Views.{children_of, entered_tree, node_count}
use Rattle.hwdb_reader.specs.Unread.{file_in}
use Rattle.hwdb_reader.specs.declared.view.Inside.{Inside}
use Rattle.hwdb_query.specs.Internal.Members.{members_in, own_members}
use Rattle.hwdb_databases.specs.Internal.Trails.{IsSegmentIn, path_in}
use Rattle.hwdb_databases.specs.declared.trail.Segment.{Segment}
use Rattle.hwdb_databases.specs.declared.walk.OpenVisit.{OpenVisit}
use Rattle.hwdb_databases.specs.declared.walk.Walk.{Walk}
use Rattle.hwdb_query.specs.Internal.Live.{nodes_in}

-- the children of a node that aren't done
abbrev pub kids_of : OpenVisit → List (ℕ × Tree)
kids_of o = drop o.done (children_of (entered_tree o.inside))

-- the most nodes on one path of the trees of children
abbrev pub depth_in : List (ℕ × Tree) → ℕ
depth_in [] = 0
depth_in (k ∷ kids) = max (depth k.1) (depth_in kids)

-- what the children assign that aren't done, if this is the way to the last node
abbrev pub to_come : List Segment → List OpenVisit → List Assignment
to_come way [] = []
to_come way (o ∷ below) = members_in (path_in (take o.length way)) (kids_of o) ++ to_come (take o.length way) below

-- the way to each node begins with the way to the one below it in the stack
abbrev pub StandsOn : List Segment → List OpenVisit → Type 0
StandsOn way [] = Unit {0}
StandsOn way (o ∷ below) =
    (o.length ≤ length way) × (o.done ≤ length (children_of (entered_tree o.inside))) × StandsOn (take o.length way) below

-- how many nodes weren't entered
abbrev pub left : List OpenVisit → ℕ
left [] = 0
left (o ∷ below) = nodes_in (kids_of o) + left below

-- how many steps the walk takes at most
abbrev pub steps : List OpenVisit → ℕ
steps [] = 0
steps (o ∷ below) = suc (nodes_in (kids_of o) + nodes_in (kids_of o)) + steps below

-- one, if there is an assignment
abbrev pub some_of : List Assignment → ℕ
some_of [] = 0
some_of (f ∷ more) = 1

-- one, if a node with these values assigns something
unfoldable pub named_here : List Value → ℕ
named_here values = some_of (own_members [] values)

unfoldable mutual
  -- how many nodes of a tree assign something
  pub named : Tree → ℕ
  named (Node prefix values children) = named_here values + named_below children

  -- the same of the trees of children
  pub named_below : Children → ℕ
  named_below NoMore = 0
  named_below (Child byte tree more) = named tree + named_below more

abbrev pub named_in : List (ℕ × Tree) → ℕ
named_in [] = 0
named_in (k ∷ kids) = named k.1 + named_in kids

-- how many of the nodes that weren't entered assign something
abbrev pub named_left : List OpenVisit → ℕ
named_left [] = 0
named_left (o ∷ below) = named_in (kids_of o) + named_left below

-- the most nodes that will be on one path, those of the stack counted
abbrev pub deepest_to_come : List OpenVisit → ℕ
deepest_to_come [] = 0
deepest_to_come (o ∷ below) = max (suc (length below) + depth_in (kids_of o)) (deepest_to_come below)

-- one node was put on top, with none of its children done
pub record OnTop (before now : List OpenVisit) (t : Tree) (size : ℕ) : Type 0 where
  pub top : OpenVisit
  pub stands : now ≡ before ++ top ∷ []
  pub tree : entered_tree top.inside ≡ t
  pub none_done : top.done ≡ 0
  pub reach : top.length ≡ size

-- a node was entered: it was put on top, if it has children
abbrev pub Opened : (before now : List OpenVisit) (t : Tree) (size : ℕ) → Type 0
Opened before now t size = OnTop before now t size ⊎ ((now ≡ before) × (children_of t ≡ []))

-- ---- a walk

-- what the node assigns that a walk is at
abbrev pub own_of : List ℕ → Option Inside → List Assignment
own_of path None = []
own_of path (Some inside) = own_members path (values_of (entered_tree inside))

-- what the nodes assign that a walk hasn't entered
abbrev pub rest_of : Walk → List Assignment
rest_of w = to_come w.trail.segments.items (reverse w.stack.items)

-- one, if a walk is at a node
abbrev pub entered_one : Option Inside → ℕ
entered_one None = 0
entered_one (Some inside) = 1

-- one, if a walk is at a node that assigns something
abbrev pub named_at : Option Inside → ℕ
named_at None = 0
named_at (Some inside) = named_here (values_of (entered_tree inside))

-- how many nodes a walk hasn't entered
abbrev pub still_left : Walk → ℕ
still_left w = left (reverse w.stack.items)

-- a walk over a tree
pub record IsWalkOf (t : Tree) (w : Walk) : Type 0 where
  pub stands : StandsOn w.trail.segments.items (reverse w.stack.items)
  pub small : node_count t < 2 ^ 64
  pub counted : w.entered + left (reverse w.stack.items) ≡ node_count t
  pub deepest : max w.deepest (deepest_to_come (reverse w.stack.items)) ≡ depth t
  pub reached : length w.stack.items ≤ w.deepest

-- an open node is one of the database with these bytes
abbrev pub IsOpenIn : List ℕ → OpenVisit → Type 0
IsOpenIn file o = file_in o.inside ≡ file

-- so is the node that a walk is at, if it is at one
abbrev pub IsAtOne : List ℕ → Option Inside → Type 0
IsAtOne file at = IfSome at (λ inside. file_in inside ≡ file)

-- all nodes that a walk holds are
pub record IsOf (file : List ℕ) (w : Walk) : Type 0 where
  pub stack : All (IsOpenIn file) w.stack.items
  pub at : IsAtOne file w.at
  pub segments : All (IsSegmentIn file) w.trail.segments.items
