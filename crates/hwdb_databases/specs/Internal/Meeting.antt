-- The assignments of two databases that are walked side by side.
use Rattle.std.specs.Prelude.{List, ℕ, Option, None, Some, [], ◌∷◌, ◌++◌, ◌≡◌, drop, IfNone, IfSome}
use Rattle.hwdb_spec.specs.Assignment.{Assignment}
use Rattle.hwdb_spec_commands.specs.Differences.{Change, change_between}
use Rattle.hwdb_spec_commands.specs.Differences.Change.{Came, Went}
use Rattle.hwdb_spec.specs.Tree.{Tree, values_of}
use Rattle.hwdb_reader.specs.Views.{entered_tree}
use Rattle.hwdb_reader.specs.Unread.{IsFrom, text_of}
use Rattle.hwdb_reader.specs.declared.unread.UnreadEntry.{UnreadEntry}
use Rattle.hwdb_reader.specs.declared.view.Inside.{Inside}
use Rattle.hwdb_query.specs.Internal.Members.{own_members}
use Rattle.hwdb_databases.specs.declared.members.Member.{Member}
use Rattle.hwdb_databases.specs.declared.members.Members.{Members}
use Rattle.hwdb_databases.specs.declared.meeting.Side.{Side}
use Rattle.hwdb_databases.specs.declared.meeting.Side.TheVariants.{Old, New, Both}
use Rattle.hwdb_databases.specs.Internal.Merging.{merged}
use Rattle.hwdb_databases.specs.Internal.Trails.{path_of}
use Rattle.hwdb_databases.specs.Internal.Walks.{IsOf, IsWalkOf, rest_of}

-- an assignment with this pattern
abbrev pub member_of : (pattern : List ℕ) → Member → Assignment
member_of pattern m = record {
  position = record { priority = m.priority; line = m.line; pattern = pattern; key = m.key.now };
  value = m.value.now;
  path = m.path.now;
}

-- one whose texts weren't read. Its stored key begins with a space
abbrev pub unread_of : (pattern : List ℕ) → UnreadEntry → Assignment
unread_of pattern e = record {
  position = record { priority = e.priority; line = e.line; pattern = pattern; key = drop 1 (text_of e.key) };
  value = text_of e.value;
  path = text_of e.path;
}

abbrev pub head_of : (pattern : List ℕ) → Option UnreadEntry → List Assignment
head_of pattern None = []
head_of pattern (Some m) = unread_of pattern m ∷ []

-- what the values of a node assign that weren't looked at
abbrev pub unlooked : (looked : ℕ) → (pattern : List ℕ) → Option Inside → List Assignment
unlooked looked pattern None = []
unlooked looked pattern (Some inside) = own_members pattern (drop looked (values_of (entered_tree inside)))

-- the assignments after the next one
abbrev pub after_next : Members → List Assignment
after_next m = unlooked m.looked (path_of m.walk.trail) m.walk.at ++ rest_of m.walk

-- those that are left
abbrev pub left_of : Members → List Assignment
left_of m = head_of (path_of m.walk.trail) m.next ++ after_next m

-- they come from a walk over a tree
pub record IsUnderWay (t : Tree) (m : Members) : Type 0 where
  pub walk : IsWalkOf t m.walk
  pub end : IfNone m.walk.at (m.walk.stack.items ≡ [])

-- the changes that are left
abbrev pub to_meet : Members → Members → List Change
to_meet old new = merged (left_of old) (left_of new)

-- what the old one has there, with its pattern
abbrev pub old_by : (pattern : List ℕ) → Side → List Assignment
old_by pattern (Old x) = unread_of pattern x ∷ []
old_by pattern (New y) = []
old_by pattern (Both x y) = unread_of pattern x ∷ []

-- what the new one has there
abbrev pub new_by : (pattern : List ℕ) → Side → List Assignment
new_by pattern (Old x) = []
new_by pattern (New y) = unread_of pattern y ∷ []
new_by pattern (Both x y) = unread_of pattern y ∷ []

abbrev pub old_at : Members → Side → List Assignment
old_at old side = old_by (path_of old.walk.trail) side

abbrev pub new_at : Members → Side → List Assignment
new_at new side = new_by (path_of new.walk.trail) side

-- what happened there, by the two patterns
abbrev pub changes_by : (old new : List ℕ) → Side → List Change
changes_by old new (Old x) = Went (unread_of old x) ∷ []
changes_by old new (New y) = Came (unread_of new y) ∷ []
changes_by old new (Both x y) = change_between (unread_of old x) (unread_of new y)

abbrev pub changes_at : (old new : Members) → Side → List Change
changes_at old new side = changes_by (path_of old.walk.trail) (path_of new.walk.trail) side

-- these are next
abbrev pub IsNext : (old new : Members) → Side → Type 0
IsNext old new (Old x) = old.next ≡ Some x
IsNext old new (New y) = new.next ≡ Some y
IsNext old new (Both x y) = (old.next ≡ Some x) × (new.next ≡ Some y)

-- what happened there comes before the changes of what is after it
abbrev pub IsMet : (old new : Members) → Side → Type 0
IsMet old new side =
    (xs ys : List Assignment) → left_of old ≡ old_at old side ++ xs → left_of new ≡ new_at new side ++ ys
    → to_meet old new ≡ changes_at old new side ++ merged xs ys

-- they come from the database with these bytes
pub record AreOf (file : List ℕ) (m : Members) : Type 0 where
  pub walk : IsOf file m.walk
  pub next : IfSome m.next (IsFrom file)

-- what is next comes from two databases with these bytes
abbrev pub AreFrom : (old new : List ℕ) → Side → Type 0
AreFrom old new (Old x) = IsFrom old x
AreFrom old new (New y) = IsFrom new y
AreFrom old new (Both x y) = IsFrom old x × IsFrom new y
