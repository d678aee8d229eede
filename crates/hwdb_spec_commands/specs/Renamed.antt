-- How `diff` tells changes by record, and a record whose patterns alone changed: a pattern that went, and the first that came with the same
-- properties. Our choice.
use Rattle.std.specs.Prelude.{Bool, true, false, List, ℕ, [], ◌∷◌, ◌++◌, None, Option, Some, flat_map, if◌then◌else◌}
use Rattle.hwdb_spec.specs.Assignment.{Assignment}
use Rattle.hwdb_spec.specs.Folders.{same}
use Rattle.hwdb_spec.specs.Lines.{byte}
use Rattle.hwdb_spec.specs.Texts.{place_text}
use Rattle.hwdb_spec_commands.specs.DeviceDifferences.{told_change, told_changes}
use Rattle.hwdb_spec_commands.specs.Differences.{Change, origin_text}
use Rattle.hwdb_spec_commands.specs.Differences.Change.{Came, Went, Changed}

-- the pattern of a change
abbrev pub changed_pattern : Change → List ℕ
changed_pattern (Came new) = new.position.pattern
changed_pattern (Went old) = old.position.pattern
changed_pattern (Changed old new) = old.position.pattern

-- a pattern, and its changes
pub record Group : Type 0 where
  pub pattern : List ℕ
  pub changes : List Change

-- a group of one change
abbrev pub group_of : Change → Group
group_of c = record { pattern = changed_pattern c; changes = c ∷ [] }

-- a change before some groups: it is in the first one, if that has its pattern
abbrev pub in_front : Change → List Group → List Group
in_front c [] = group_of c ∷ []
in_front c (g ∷ more) = if same g.pattern (changed_pattern c) then record g { changes = c ∷ g.changes } ∷ more else group_of c ∷ g ∷ more

-- changes by pattern, as they come
unfoldable pub groups : List Change → List Group
groups [] = []
groups (c ∷ more) = in_front c (groups more)

-- ---- properties that went, or that came

-- what came, or what went
abbrev pub sided : (came : Bool) → Change → Option Assignment
sided true (Came new) = Some new
sided false (Went old) = Some old
sided came change = None

-- a key and its value; no text of a database has a byte 0
abbrev pub pair_text : Assignment → List ℕ
pair_text f = f.position.key ++ 0 ∷ (f.value ++ 0 ∷ [])

-- a text before what is left, if something is
abbrev pub onto : List ℕ → Option (List ℕ) → Option (List ℕ)
onto front None = None
onto front (Some rest) = Some (front ++ rest)

-- a property before others, if it is there
abbrev pub with_property : Option Assignment → Option (List ℕ) → Option (List ℕ)
with_property None more = None
with_property (Some f) more = onto (pair_text f) more

-- the properties of changes that all came, or that all went; None of others
unfoldable pub properties : (came : Bool) → List Change → Option (List ℕ)
properties came [] = Some []
properties came (c ∷ more) = with_property (sided came c) (properties came more)

-- whether a text is told, and is this one
abbrev pub is_told : (text : List ℕ) → Option (List ℕ) → Bool
is_told text None = false
is_told text (Some own) = same own text

-- the first of some groups that came with these properties
unfoldable pub first_came : (text : List ℕ) → List Group → Option Group
first_came text [] = None
first_came text (g ∷ more) = if is_told text (properties true g.changes) then Some g else first_came text more

-- whether one of some groups went with these
unfoldable pub any_went : (text : List ℕ) → List Group → Bool
any_went text [] = false
any_went text (g ∷ more) = if is_told text (properties false g.changes) then true else any_went text more

-- ---- what is printed

-- a pattern on a line
abbrev pub pattern_line : (pattern : List ℕ) → List ℕ
pattern_line pattern = pattern ++ byte "\n" ∷ []

-- a pattern, and below it a line for each of its changes
abbrev pub group_text : Group → List ℕ
group_text g = pattern_line g.pattern ++ told_changes g.changes

-- the place of the first of some changes that came
abbrev pub first_place : List Change → List ℕ
first_place (Came new ∷ more) = place_text new.path new.position.line
first_place changes = []

-- the pattern that came for another one, and its place
abbrev pub new_line : Group → List ℕ
new_line g = byte ">" ∷ byte "\t" ∷ (g.pattern ++ byte "\t" ∷ (first_place g.changes ++ byte "\n" ∷ []))

-- a property that stayed, and where it was
abbrev pub kept_line : Change → List ℕ
kept_line (Went old) = byte "=" ∷ byte "\t" ∷ (origin_text old ++ byte "\n" ∷ [])
kept_line change = told_change change

-- a pattern that went, the one that came for it, and the properties that both have
abbrev pub renamed_text : (old new : Group) → List ℕ
renamed_text old new = pattern_line old.pattern ++ (new_line new ++ flat_map kept_line old.changes)

-- a pattern that went, with the one that came for it, if there is one
abbrev pub unless_renamed : (old : Group) → (new : Option Group) → List ℕ
unless_renamed old None = group_text old
unless_renamed old (Some new) = renamed_text old new

-- the first that came for a pattern that went is told there
abbrev pub unless_first : (new : Group) → (first : Option Group) → List ℕ
unless_first new None = group_text new
unless_first new (Some first) = if same first.pattern new.pattern then [] else group_text new

-- what is told of a pattern that didn't go whole: if it came with these properties, unless it is told where one went
abbrev pub came_text : (all : List Group) → Group → Option (List ℕ) → List ℕ
came_text all g None = group_text g
came_text all g (Some text) = if any_went text all then unless_first g (first_came text all) else group_text g

-- what is told of a pattern, by the properties with which it went whole, if it did
abbrev pub went_text : (all : List Group) → Group → Option (List ℕ) → List ℕ
went_text all g None = came_text all g (properties true g.changes)
went_text all g (Some text) = unless_renamed g (first_came text all)

-- what is told of a pattern among all
abbrev pub text_among : (all : List Group) → Group → List ℕ
text_among all g = went_text all g (properties false g.changes)

-- changes by record
abbrev pub grouped_text : List Change → List ℕ
grouped_text changes = flat_map (text_among (groups changes)) (groups changes)
