-- The path of open nodes along which a tree is made, and what is closed on its left.
use Rattle.std.specs.Prelude.{List, [], ℕ, ◌∷◌, ◌++◌, ◌+◌, ◌-◌, ◌<◌, ◌≤◌, ◌≡◌, ◌≢◌, length, map, take, drop, reverse, get_or}
use Rattle.std.specs.declared.cmp.Ordering.TheVariants.{Less}
use Rattle.hwdb_spec.specs.Tree.{Tree, Value, IsTree, values_under}
use Rattle.hwdb_spec.specs.Tree.Tree.{Node as TreeNode}
use Rattle.hwdb_spec.specs.Written.{IsForked}
use Rattle.hwdb_writer.specs.Internal.Storable.{IsStorable, IsSound}
use Rattle.hwdb_writer.specs.Internal.Entries.{placed, by_place, IsStorableEntry}
use Rattle.hwdb_writer.specs.Internal.PostOrder.{Sub, children_in, values_at, trees_after, AreWhole, IsPostOrder, tree_of}
use Rattle.hwdb_writer.specs.declared.entries.Setting.{Setting}
use Rattle.hwdb_writer.specs.Internal.Stored.{AreKept, IsKept}
use Rattle.hwdb_writer.specs.declared.nodes.BuiltNode.{BuiltNode}
use Rattle.hwdb_writer.specs.declared.stored.Stored.{Stored}
use Rattle.hwdb_writer.specs.declared.builder.OpenBranch.{OpenBranch}
use Rattle.hwdb_writer.specs.declared.builder.Builder.{Builder}

-- an open node, with its children so far
pub record Frame : Type 0 where
  pub byte : ℕ
  pub prefix : List ℕ
  pub values : List Value
  pub done : List Sub

abbrev pub node_of : Frame → Tree
node_of f = TreeNode f.prefix f.values (children_in f.done)

-- Below, the frames of a path are in order from the lowest to the root.

-- the trees that are closed, from the left
unfoldable pub stack : List Frame → List Sub
stack [] = []
stack (f ∷ fs) = stack fs ++ f.done

-- the path to a child of the lowest under a byte; to the root if there is none
unfoldable pub under : List Frame → ℕ → List ℕ
under [] b = []
under (g ∷ gs) b = (under gs g.byte ++ g.prefix) ++ b ∷ []

-- the path to the end of the lowest
abbrev pub full_path : List Frame → List ℕ
full_path [] = []
full_path (f ∷ fs) = under fs f.byte ++ f.prefix

-- the values of all of them, each under its path
unfoldable pub spine_values : List Frame → List (List ℕ × Value)
spine_values [] = []
spine_values (f ∷ fs) = spine_values fs ++ values_under (under fs f.byte) (node_of f)

-- each byte is below that one
abbrev pub AllBelow : ℕ → List Sub → Type 0
AllBelow b [] = Unit {0}
AllBelow b (t ∷ ts) = (t.0 < b) × AllBelow b ts

-- the lowest has a value or a child, if it isn't the root
abbrev pub IsFilled : List Frame → Type 0
IsFilled [] = Unit {0}
IsFilled (f ∷ []) = Unit {0}
IsFilled (f ∷ g ∷ gs) = 0 < length f.values + length f.done

-- the lowest may be a node of a tight tree
abbrev pub IsForkedTop : List Frame → Type 0
IsForkedTop [] = Unit {0}
IsForkedTop (f ∷ []) = Unit {0}
IsForkedTop (f ∷ g ∷ gs) = IsForked (node_of f)

-- the lowest is the root, or its byte is above those of its parent's children
abbrev pub Hangs : Frame → List Frame → Type 0
Hangs f [] = f.prefix ≡ []
Hangs f (g ∷ gs) = (0 < f.byte) × (f.byte < 256) × AllBelow f.byte g.done × IsFilled (g ∷ gs)

-- each is a node of a tight tree that can be stored, but for what is still to come on its right
unfoldable pub IsSpine : List Frame → Type 0
IsSpine [] = Unit {0}
IsSpine (f ∷ fs) = IsTree (node_of f) × IsStorable (length (under fs f.byte)) (node_of f) × Hangs f fs × IsSpine fs

-- the open node has the parts of a frame
pub record StandsFor (es : List Setting) (o : OpenBranch) (f : Frame) : Type 0 where
  pub byte : o.node.byte ≡ f.byte
  pub prefix : o.node.prefix.now ≡ f.prefix
  pub in_range : o.node.first + o.node.count ≤ length es
  pub values : values_at es o.node ≡ f.values
  pub children : o.node.children ≡ length f.done

abbrev pub AreStanding : List Setting → List OpenBranch → List Frame → Type 0
AreStanding es [] [] = Unit {0}
AreStanding es [] (f ∷ fs) = ⊥
AreStanding es (o ∷ os) [] = ⊥
AreStanding es (o ∷ os) (f ∷ fs) = StandsFor es o f × (o.end ≡ length (full_path (f ∷ fs))) × AreStanding es os fs

abbrev pub opens : Builder → List OpenBranch
opens b = b.top ∷ reverse b.above.items

-- the builder's nodes are those of the frames
pub record IsOpen (es : List Setting) (b : Builder) (fs : List Frame) : Type 0 where
  pub entries : b.entries.now ≡ es
  -- the nodes that are closed
  pub closed : List BuiltNode
  pub kept : AreKept es closed b.closed
  pub whole : AreWhole es [] closed
  pub trees : trees_after es [] closed ≡ stack fs
  pub standing : AreStanding es (opens b) fs
  pub spine : IsSpine fs

-- the children of the lowest
abbrev pub lowest_done : List Frame → List Sub
lowest_done [] = []
lowest_done (f ∷ fs) = f.done

-- some of the nodes are closed or cut, and nothing else is changed
pub record IsClosed (old new : List Frame) : Type 0 where
  pub values : spine_values new ≡ spine_values old
  pub front : (rest : List ℕ) × (full_path old ≡ full_path new ++ rest)
  pub filled : IsFilled new
  pub same : full_path old ≡ full_path new → lowest_done new ≡ lowest_done old
  pub below : (c : ℕ) (rest : List ℕ) (b : ℕ) → full_path old ≡ full_path new ++ c ∷ rest → c < b → AllBelow b (lowest_done new)

-- a builder that may be closed
pub record IsClosable (es : List Setting) (b : Builder) (fs : List Frame) : Type 0 where
  pub nodes : IsOpen es b fs
  pub forked : IsForkedTop fs

-- closed or cut, though not all up to so many bytes
pub record IsClosing (es : List Setting) (at : ℕ) (old new : Builder) (fs gs : List Frame) : Type 0 where
  pub nodes : IsOpen es new gs
  pub closed : IsClosed fs gs
  pub within : at ≤ new.top.end
  pub forked : at < new.top.end → IsForkedTop gs
  pub path : new.path ≡ old.path

-- closed up to so many bytes
pub record IsClosedTo (es : List Setting) (at : ℕ) (old new : Builder) (fs gs : List Frame) : Type 0 where
  pub nodes : IsOpen es new gs
  pub closed : IsClosed fs gs
  pub end : new.top.end ≡ at
  pub path : new.path ≡ old.path

-- so many of the entries are added
pub record IsBuilt (es : List Setting) (n : ℕ) (b : Builder) (fs : List Frame) : Type 0 where
  pub nodes : IsOpen es b fs
  pub forked : IsForkedTop fs
  pub path : b.path.now ≡ full_path fs
  pub values : spine_values fs ≡ map placed (take n es)
  -- the path is the pattern of the last of them
  pub last : (before : List Setting) (d : Setting) → take n es ≡ before ++ d ∷ [] → full_path fs ≡ d.pattern.now
  pub none : take n es ≡ [] → full_path fs ≡ []
  pub fresh : lowest_done fs ≡ []
  pub counted : b.top.node.first + b.top.node.count ≡ n

-- two lists begin with the same bytes, so many, and no more
pub record MeetAt (n : ℕ) (xs ys : List ℕ) : Type 0 where
  pub alike : take n xs ≡ take n ys
  pub apart : n < length xs → n < length ys → get_or xs n 0 ≢ get_or ys n 0

-- the open node with one more child
abbrev pub one_more : OpenBranch → OpenBranch
one_more o = record {
  node = record { byte = o.node.byte; prefix = o.node.prefix; first = o.node.first; count = o.node.count; children = o.node.children + 1 };
  end = o.end;
}

-- the top node is closed
pub record Closes (old new : Builder) : Type 0 where
  pub entries : new.entries ≡ old.entries
  pub closed : IsKept old.entries.now old.top.node old.closed new.closed
  pub parent : (above : List OpenBranch) (g : OpenBranch) → old.above.items ≡ above ++ g ∷ [] → (new.above.items ≡ above) × (new.top ≡ one_more g)
  pub path : new.path ≡ old.path

-- a cut node: its byte, what comes after it, and the values and children of the whole
pub record IsBack (front : ℕ) (whole back : BuiltNode) : Type 0 where
  pub byte : back.byte ≡ get_or whole.prefix.now front 0
  pub prefix : back.prefix.now ≡ drop (front + 1) whole.prefix.now
  pub first : back.first ≡ whole.first
  pub count : back.count ≡ whole.count
  pub children : back.children ≡ whole.children

-- what is left of it: what is before the byte, without a value, with one child
pub record IsFront (front : ℕ) (whole left : BuiltNode) : Type 0 where
  pub byte : left.byte ≡ whole.byte
  pub prefix : left.prefix.now ≡ take front whole.prefix.now
  pub first : left.first ≡ 0
  pub count : left.count ≡ 0
  pub children : left.children ≡ 1

-- the top node is cut after so many bytes of its path
pub record Cuts (at : ℕ) (old new : Builder) : Type 0 where
  pub entries : new.entries ≡ old.entries
  pub back : BuiltNode
  pub closed : IsKept old.entries.now back old.closed new.closed
  pub is_back : IsBack (length old.top.node.prefix.now - (old.top.end - at)) old.top.node back
  pub is_front : IsFront (length old.top.node.prefix.now - (old.top.end - at)) old.top.node new.top.node
  pub end : new.top.end ≡ at
  pub above : new.above.items ≡ old.above.items
  pub path : new.path ≡ old.path

-- a node is opened below the top node
pub record Opens (pattern : List ℕ) (number : ℕ) (old new : Builder) : Type 0 where
  pub entries : new.entries ≡ old.entries
  pub closed : new.closed ≡ old.closed
  pub above : new.above.items ≡ old.above.items ++ old.top ∷ []
  pub path : new.path.now ≡ pattern
  pub end : new.top.end ≡ length pattern
  pub byte : new.top.node.byte ≡ get_or pattern old.top.end 0
  pub prefix : new.top.node.prefix.now ≡ drop (old.top.end + 1) pattern
  pub first : new.top.node.first ≡ number
  pub count : new.top.node.count ≡ 0
  pub children : new.top.node.children ≡ 0

-- the builder with one more value of its top node
pub record Counts (old new : Builder) : Type 0 where
  pub entries : new.entries ≡ old.entries
  pub closed : new.closed ≡ old.closed
  pub above : new.above.items ≡ old.above.items
  pub path : new.path ≡ old.path
  pub end : new.top.end ≡ old.top.end
  pub byte : new.top.node.byte ≡ old.top.node.byte
  pub prefix : new.top.node.prefix ≡ old.top.node.prefix
  pub first : new.top.node.first ≡ old.top.node.first
  pub count : new.top.node.count ≡ old.top.node.count + 1
  pub children : new.top.node.children ≡ old.top.node.children

-- what comes next: an entry after so many, in order, that can be stored
pub record IsNext (es : List Setting) (n : ℕ) (e : Setting) : Type 0 where
  pub in_range : n < length es
  pub taken : take (n + 1) es ≡ take n es ++ e ∷ []
  pub storable : IsStorableEntry e
  pub above : (before : List Setting) (d : Setting) → take n es ≡ before ++ d ∷ [] → by_place d e ≡ Less

-- the closed nodes are those of a tree that can be stored, with the values of the frames
pub record IsFinished (es : List Setting) (fs : List Frame) (c : Stored) : Type 0 where
  pub nodes : List BuiltNode
  pub kept : AreKept es nodes c
  pub order : IsPostOrder es nodes
  pub sound : IsSound (tree_of es nodes)
  pub values : values_under [] (tree_of es nodes) ≡ spine_values fs
