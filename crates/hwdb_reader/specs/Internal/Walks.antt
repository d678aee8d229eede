-- A walk over the nodes: what is known of the open ones, and what has to hold of the bytes that are to come. An open
-- node is its offset and how many of its children were entered; a list begins with the last.
use Rattle.std.specs.Prelude.{List, ℕ, suc, [], ◌∷◌, ◌+◌, ◌-◌, ◌≤◌, ◌<◌, ◌≡◌, ◌↔◌, length}
use Rattle.hwdb_spec.specs.declared.Layout.{Layout}
use Rattle.hwdb_spec.specs.Format.{ChildrenText, Visit, Visited, Fits, ChildrenFit, max_levels, record_end, child_entry, children_count, child_from, byte_before}
use Rattle.hwdb_reader.specs.Internal.Read.{children_at, tree_at}
use Rattle.hwdb_reader.specs.Internal.Placed.{visit, FieldsAreSound}

-- the visited record fits, is not too deep, and has a sound prefix and sound values
pub record IsSoundRecord (l : Layout) (b : List ℕ) (v : Visit) : Type 0 where
  pub fits : Fits l b v
  pub some : 0 < v.levels
  pub fields : FieldsAreSound l b v.off

-- an open node was visited with so many levels left, and the children that were entered fit
pub record IsOpen (l : Layout) (b : List ℕ) (levels : ℕ) (node : ℕ × ℕ) (begin : ℕ) : Type 0 where
  pub from : ℕ
  pub limit : ℕ
  pub visited : Visited l b (visit levels from node.0 limit)
  pub fits : Fits l b (visit levels from node.0 limit)
  pub inside : limit ≤ length b
  pub some : 0 < levels
  pub within : node.1 ≤ children_count b node.0
  pub fit : ChildrenFit l b (visit levels from node.0 limit) node.1
  pub begins : begin ≡ child_from l b from node.0 node.1

-- the nodes are open, and the next text begins at `begin`
abbrev pub AreOpen : Layout → List ℕ → List (ℕ × ℕ) → (begin : ℕ) → Type 0
AreOpen l b [] begin = Unit {0}
AreOpen l b (node ∷ above) begin = IsOpen l b (max_levels - length above) node begin × AreOpen l b above (record_end l b node.0)

-- from `begin` on come the texts of a node's children that weren't entered, of so many levels
abbrev pub ChildrenToCome : Layout → List ℕ → (levels : ℕ) → ℕ × ℕ → (begin : ℕ) → Type 0
ChildrenToCome l b levels node begin =
    ChildrenText l b levels begin (child_entry l node.0 node.1) (byte_before l b node.0 node.1) node.0 (children_at (tree_at l b levels) l b (child_entry l node.0 node.1) (children_count b node.0 - node.1))

-- so they do for each of the open nodes, after the record of the one below it
abbrev pub ToCome : Layout → List ℕ → List (ℕ × ℕ) → (begin : ℕ) → Type 0
ToCome l b [] begin = Unit {0}
ToCome l b (node ∷ above) begin = ChildrenToCome l b (max_levels - suc (length above)) node begin × ToCome l b above (record_end l b node.0)

-- the offset at which the record of the first of the open nodes ends
abbrev pub last_end : Layout → List ℕ → List (ℕ × ℕ) → (begin : ℕ) → ℕ
last_end l b [] begin = begin
last_end l b (node ∷ above) begin = last_end l b above (record_end l b node.0)

-- how many steps the walk takes at most
abbrev pub steps_left : List ℕ → List (ℕ × ℕ) → (begin : ℕ) → ℕ
steps_left b nodes begin = (length b - begin) + (max_levels - length nodes)

-- one step of the walk was taken
pub record GoesOn (l : Layout) (b : List ℕ) (before : List (ℕ × ℕ)) (begin : ℕ) (now : List (ℕ × ℕ)) (next : ℕ) : Type 0 where
  pub stand : AreOpen l b now next
  pub sound : ToCome l b now next ↔ ToCome l b before begin
  pub end : last_end l b now next ≡ last_end l b before begin
  pub fewer : steps_left b now next < steps_left b before begin
