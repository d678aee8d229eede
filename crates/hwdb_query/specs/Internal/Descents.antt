-- A descent that is under way: what is still to come of the nodes that are open. Their list begins with the top.
use Rattle.std.specs.Prelude.{List, ℕ, Option, None, Some, true, [], ◌∷◌, ◌++◌, ◌+◌, ◌≤◌, ◌≡◌, ◌⊎◌, suc, take, drop, length, filter}
use Rattle.hwdb_pattern.specs.Views.{Reached, StandsFor}
use Rattle.hwdb_spec.specs.Assignment.{Assignment}
use Rattle.hwdb_spec.specs.Answers.{is_wanted}
use Rattle.hwdb_spec.specs.Tree.{Tree, prefix_of, IsLive, is_live}
use Rattle.hwdb_reader.specs.Views.{children_of, tree_of, entered_tree}
use Rattle.hwdb_query.specs.Internal.Members.{members_in}
use Rattle.hwdb_query.specs.Internal.Live.{live_in, nodes_in}
use Rattle.hwdb_query.specs.declared.descent.OpenNode.{OpenNode}
use Rattle.hwdb_query.specs.declared.descent.Live.{Live}
use Rattle.hwdb_query.specs.declared.descent.Seen.{Seen}

-- the children of a node that aren't done
abbrev pub kids_of : OpenNode → List (ℕ × Tree)
kids_of o = drop o.done (children_of (entered_tree o.inside))

-- what the trees of children assign to a device
abbrev pub wanted_in : (device path : List ℕ) → List (ℕ × Tree) → List Assignment
wanted_in device path kids = filter (is_wanted device) (members_in path kids)

-- what the children assign that aren't done, if the path begins with that of the top
abbrev pub to_come : (device path : List ℕ) → List OpenNode → List Assignment
to_come device path [] = []
to_come device path (o ∷ below) = wanted_in device (take o.length path) (kids_of o) ++ to_come device (take o.length path) below

-- how many live nodes there are at and below them
abbrev pub live_to_come : (device path : List ℕ) → List OpenNode → ℕ
live_to_come device path [] = 0
live_to_come device path (o ∷ below) = live_in device (take o.length path) (kids_of o) + live_to_come device (take o.length path) below

-- how many nodes there are at and below them
abbrev pub left : List OpenNode → ℕ
left [] = 0
left (o ∷ below) = nodes_in (kids_of o) + left below

-- how many steps the descent takes at most
abbrev pub steps : List OpenNode → ℕ
steps [] = 0
steps (o ∷ below) = suc (nodes_in (kids_of o) + nodes_in (kids_of o)) + steps below

-- the path begins with the node's, and the node's reach is the state of that
pub record StandsAt (device path : List ℕ) (o : OpenNode) : Type 0 where
  pub within : o.length ≤ length path
  pub reach : StandsFor o.reach (take o.length path)
  pub same_device : o.reach.device ≡ device

-- each node's path begins with the path of the one below it in the stack
abbrev pub StandsOn : (device path : List ℕ) → List OpenNode → Type 0
StandsOn device path [] = Unit {0}
StandsOn device path (o ∷ below) = StandsAt device path o × StandsOn device (take o.length path) below

-- the device of the top
abbrev pub device_of : List OpenNode → List ℕ
device_of [] = []
device_of (o ∷ below) = o.reach.device

-- the first children are passed over: nothing of their trees is wanted or live
pub record Passes (device path : List ℕ) (kids rest : List (ℕ × Tree)) : Type 0 where
  pub wanted : wanted_in device path kids ≡ wanted_in device path rest
  pub live : live_in device path kids ≡ live_in device path rest
  pub fewer : nodes_in rest ≤ nodes_in kids

-- the path is one and then more, and it is live
pub record IsFedTo (device path more now : List ℕ) (reach : Reached) : Type 0 where
  pub path_is : now ≡ path ++ more
  pub stands : StandsFor reach now
  pub same_device : reach.device ≡ device
  pub live : is_live now device ≡ true

-- what feeding more after a path shows
abbrev pub IsFed : (device path more now : List ℕ) → Option Seen → Type 0
IsFed device path more now None = IsLive (path ++ more) device → ⊥
IsFed device path more now (Some seen) = IsFedTo device path more (now ++ seen.tail.now) seen.reach

-- the path is that of a child, and it is live
pub record IsAt (device base : List ℕ) (k : ℕ × Tree) (path : List ℕ) (reach : Reached) : Type 0 where
  pub path_is : path ≡ (base ++ k.0 ∷ []) ++ prefix_of k.1
  pub stands : StandsFor reach path
  pub same_device : reach.device ≡ device
  pub live : is_live path device ≡ true

-- what a look at one child shows
abbrev pub IsSeen : (device base : List ℕ) (k : ℕ × Tree) (path : List ℕ) → Option Seen → Type 0
IsSeen device base k path None = Passes device base (k ∷ []) []
IsSeen device base k path (Some seen) = IsAt device base k (path ++ seen.tail.now) seen.reach

abbrev pub child_of : Live → ℕ × Tree
child_of l = (l.child.byte, tree_of l.child.node)

-- the next child whose path is live, whose end isn't copied yet, and those after it
abbrev pub IsFound : (device base : List ℕ) (kids rest : List (ℕ × Tree)) (path : List ℕ) → Option Live → Type 0
IsFound device base kids rest path None = Passes device base kids [] × (path ≡ base)
IsFound device base kids rest path (Some l) = Passes device base kids (child_of l ∷ rest) × IsAt device base (child_of l) (path ++ l.tail.now) l.reach

-- the next child whose path is live, and those after it
abbrev pub IsNext : (device base : List ℕ) (kids rest : List (ℕ × Tree)) (path : List ℕ) → Option Live → Type 0
IsNext device base kids rest path None = Passes device base kids [] × (path ≡ base)
IsNext device base kids rest path (Some l) = Passes device base kids (child_of l ∷ rest) × IsAt device base (child_of l) path l.reach

-- all but the count of the children that are done
pub record IsSameNode (before now : OpenNode) : Type 0 where
  pub inside : now.inside ≡ before.inside
  pub reach : now.reach ≡ before.reach
  pub size : now.length ≡ before.length

-- one node was put on top, with none of its children done
pub record OnTop (before now : List OpenNode) (t : Tree) (reach : Reached) (size : ℕ) : Type 0 where
  pub top : OpenNode
  pub stands : now ≡ before ++ top ∷ []
  pub tree : entered_tree top.inside ≡ t
  pub none_done : top.done ≡ 0
  pub reach_is : top.reach ≡ reach
  pub size_is : top.length ≡ size

-- a node was entered: it was put on top, if it has children
abbrev pub Opened : (before now : List OpenNode) (t : Tree) (reach : Reached) (size : ℕ) → Type 0
Opened before now t reach size = OnTop before now t reach size ⊎ ((now ≡ before) × (children_of t ≡ []))
