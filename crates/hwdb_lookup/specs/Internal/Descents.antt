-- A descent that is under way: what is still to come of the nodes that are open.
use Rattle.std.specs.Prelude.{List, ℕ, Option, None, Some, [], ◌∷◌, ◌++◌, ◌+◌, ◌≤◌, ◌≡◌, filter, flat_map, map, reverse}
use Rattle.hwdb_pattern.specs.Views.{Reached, StandsFor}
use Rattle.hwdb_spec.specs.declared.Layout.{Layout}
use Rattle.hwdb_spec.specs.Assignment.{Assignment}
use Rattle.hwdb_spec.specs.Answers.{is_wanted}
use Rattle.hwdb_spec.specs.Tree.{Tree, Children, Value, IsLive, members_under, values_below, assigned_at, key_of, count}
use Rattle.hwdb_spec.specs.Format.{NodeText, ChildrenText, record_end, child_entry}
use Rattle.hwdb_query.specs.Views.{assignment_of_answer}
use Rattle.hwdb_lookup.specs.Internal.Parts.{MayBeOf}
use Rattle.hwdb_lookup.specs.Internal.Heads.{IsHead, AreValues, own_members}
use Rattle.hwdb_lookup.specs.declared.parts.Parts.{Parts}
use Rattle.hwdb_lookup.specs.declared.lazy_node.LazyNode.{LazyNode}
use Rattle.hwdb_lookup.specs.declared.arrivals.OpenNode.{OpenNode}
use Rattle.hwdb_lookup.specs.declared.arrivals.Candidate.{Candidate}
use Rattle.hwdb_lookup.specs.declared.descent.Descent.{Descent}

-- what a tree assigns to a device, from a path on
abbrev pub wanted_under : (device path : List ℕ) → Tree → List Assignment
wanted_under device path t = filter (is_wanted device) (members_under path t)

-- what children assign to it
abbrev pub wanted_below : (device path : List ℕ) → Children → List Assignment
wanted_below device path ks = filter (is_wanted device) (flat_map (λ p. assigned_at p.0 p.1 (key_of p.1.key)) (values_below path ks))

-- the path is one and then more
pub record IsFedTo (device path more now : List ℕ) (reach : Reached) : Type 0 where
  pub path_is : now ≡ path ++ more
  pub same_device : reach.device ≡ device

-- what feeding more after a path shows
abbrev pub IsFed : (device path more now : List ℕ) → Option Reached → Type 0
IsFed device path more now None = IsLive (path ++ more) device → ⊥
IsFed device path more now (Some reach) = IsFedTo device path more now reach

-- none of the node's children is done
pub record Arrived (n : LazyNode) (levels : ℕ) (device : List ℕ) (o : OpenNode) : Type 0 where
  pub node : o.node ≡ n
  pub levels_are : o.levels ≡ levels
  pub none_done : o.done ≡ 0
  pub same_device : o.reach.device ≡ device
  pub stands : StandsFor o.reach o.path.items

abbrev pub IsArrival : LazyNode → (levels : ℕ) (device : List ℕ) → Option OpenNode → Type 0
IsArrival n levels device None = Unit {0}
IsArrival n levels device (Some o) = Arrived n levels device o

-- the node's path is one and then its prefix; without a node that path isn't live
abbrev pub HasCome : (device path prefix : List ℕ) → Option OpenNode → Type 0
HasCome device path prefix None = IsLive (path ++ prefix) device → ⊥
HasCome device path prefix (Some o) = o.path.items ≡ path ++ prefix

-- the node's children from number i on assign these, and their texts begin at `from` or after
pub record Rest (file : List ℕ) (o : OpenNode) (i from : ℕ) (assigned : List Assignment) : Type 0 where
  pub ks : Children
  pub begin : ℕ
  pub byte : ℕ
  pub head : IsHead file o.node
  pub after : from ≤ begin
  pub text : ChildrenText o.node.frame.sizes file o.levels begin (child_entry o.node.frame.sizes o.node.off i) byte o.node.off ks
  pub count : count ks + i ≡ o.node.children
  pub is : assigned ≡ wanted_below o.reach.device o.path.items ks

-- the next child that may be live, and those after it
pub record Next (file : List ℕ) (o : OpenNode) (from : ℕ) (assigned : List Assignment) (k : Candidate) : Type 0 where
  pub tree : Tree
  pub begin : ℕ
  pub after : from ≤ begin
  pub text : NodeText o.node.frame.sizes file o.levels begin k.off tree
  pub more : List Assignment
  pub rest : Rest file o k.done (record_end o.node.frame.sizes file k.off) more
  pub is : assigned ≡ wanted_under o.reach.device (o.path.items ++ k.byte ∷ []) tree ++ more

abbrev pub IsNext : List ℕ → OpenNode → ℕ → List Assignment → Option Candidate → Type 0
IsNext file o from assigned None = assigned ≡ []
IsNext file o from assigned (Some k) = Next file o from assigned k

-- each node is one of the file, and its reach is the state of its path
abbrev pub AllStand : Parts → List OpenNode → Type 0
AllStand known [] = Unit {0}
AllStand known (o ∷ below) = (o.node.known ≡ known) × StandsFor o.reach o.path.items × AllStand known below

-- an open node of the file: what its children assign that aren't done, and how many bytes their texts may have
pub record Opens (file device : List ℕ) (o : OpenNode) (assigned : List Assignment) (bytes : ℕ) : Type 0 where
  pub known : MayBeOf o.node.known file
  pub same_device : o.reach.device ≡ device
  pub from : ℕ
  pub rest : Rest file o o.done from assigned
  pub size : from + bytes ≡ o.node.off

-- what is still to come of open nodes, and how many bytes there may be
unfoldable pub ToCome : (file device : List ℕ) → List OpenNode → List Assignment → ℕ → Type 0
ToCome file device [] assigned bytes = assigned ≡ []
ToCome file device (o ∷ below) assigned bytes =
    (own : List Assignment) × (more : List Assignment) × (n : ℕ) × (m : ℕ) × Opens file device o own n × ToCome file device below more m
    × (assigned ≡ own ++ more) × (n + m ≤ bytes)

-- the open nodes, the top first
abbrev pub stack_of : Descent → List OpenNode
stack_of d = reverse d.stack.items

abbrev pub found_in : Descent → List Assignment
found_in d = map assignment_of_answer d.found.items

-- what was found and what is to come is all
pub record ComesOn (file device : List ℕ) (stack : List OpenNode) (found : List Assignment) (left : ℕ) (all : List Assignment) : Type 0 where
  pub rest : List Assignment
  pub to_come : ToCome file device stack rest left
  pub whole : found ++ rest ≡ all

abbrev pub Comes : (file device : List ℕ) → Descent → List Assignment → Type 0
Comes file device d all = ComesOn file device (stack_of d) (found_in d) d.left all

-- a tree is to come, and then the open nodes
pub record Enters (file : List ℕ) (l : Layout) (levels off : ℕ) (path device : List ℕ) (d : Descent) (all : List Assignment) : Type 0 where
  pub tree : Tree
  pub begin : ℕ
  pub text : NodeText l file levels begin off tree
  pub ends : record_end l file off ≤ l.strings
  pub rest : List Assignment
  pub own : ℕ
  pub below : ℕ
  pub size : begin + own ≡ record_end l file off
  pub few : own + below ≤ d.left
  pub to_come : ToCome file device (stack_of d) rest below
  pub whole : found_in d ++ (wanted_under device path tree ++ rest) ≡ all

-- the values of a node are to come, then its children, and then the open nodes
pub record Landing (file : List ℕ) (o : OpenNode) (d : Descent) (all : List Assignment) : Type 0 where
  pub values : List Value
  pub are : AreValues file o.node values
  pub own : List Assignment
  pub bytes : ℕ
  pub opens : Opens file o.reach.device o own bytes
  pub rest : List Assignment
  pub below : ℕ
  pub few : bytes + below ≤ d.left
  pub to_come : ToCome file o.reach.device (stack_of d) rest below
  pub whole : found_in d ++ (filter (is_wanted o.reach.device) (own_members o.path.items values) ++ (own ++ rest)) ≡ all

abbrev pub Lands : OpenNode → Descent → Descent → Type 0
Lands o before now =
    (file : List ℕ) (all : List Assignment) → MayBeOf o.node.known file → o.done ≡ 0 → Landing file o before all → Comes file o.reach.device now all
