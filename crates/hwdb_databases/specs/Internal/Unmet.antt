-- The set of patterns that no device has met.
use Rattle.std.specs.Prelude.{◌&&◌, ◌≡◌, Bool, List, None, [], filter, flat_map, if◌then◌else◌, not, ℕ}
use Rattle.std.specs.BTreeSet.{BTreeSet, contains_by}
use Rattle.std.specs.Borrow.{Bor}
use Rattle.std.specs.List.{list_any}
use Rattle.hwdb_spec.specs.Assignment.{Assignment, text_cmp}
use Rattle.hwdb_spec.specs.Folders.{same}
use Rattle.hwdb_spec.specs.Tree.{Tree}
use Rattle.hwdb_spec_commands.specs.ChangeCounts.{no_stat, stat_form, with_changes}
use Rattle.hwdb_spec_commands.specs.ChangeForms.{changes_form}
use Rattle.hwdb_spec_commands.specs.Renamed.{changed_pattern}
use Rattle.hwdb_spec_commands.specs.Differences.{Change}
use Rattle.hwdb_spec_commands.specs.Json.{json_line}
use Rattle.hwdb_spec_commands.specs.Reviews.{Review}
use Rattle.hwdb_spec_commands.specs.Unmet.{is_met, is_pattern_in, left_object, left_text}

abbrev pub Set : Type 0
Set = BTreeSet (Bor (List ℕ))

-- whether a text is in a set
abbrev pub has_text : Set → (text : List ℕ) → Bool
has_text set text = contains_by (λ own. text_cmp text own.now) set

-- whether one of some changes has the pattern
abbrev pub is_named : List Change → (pattern : List ℕ) → Bool
is_named changes pattern = list_any (λ c. same pattern (changed_pattern c)) changes

-- the set has the patterns of these changes, and no others
abbrev pub AreNamed : List Change → Set → Type 0
AreNamed changes set = (text : List ℕ) → has_text set text ≡ is_named changes text

-- the patterns of these answers were taken out of a set, and no others
abbrev pub HasTaken : (before now : Set) → List Assignment → Type 0
HasTaken before now found = (text : List ℕ) → has_text now text ≡ (has_text before text && not (is_pattern_in found text))

-- all answers of some keys
abbrev pub answered : List (List ℕ × List Assignment) → List Assignment
answered list = flat_map (λ p. p.1) list

-- the set has the patterns of these changes that none of the devices meets
abbrev pub AreLeft : (devices : List (List ℕ)) (old new : Tree) → List Change → Set → Type 0
AreLeft devices old new changes set = (text : List ℕ) → has_text set text ≡ (is_named changes text && not (is_met devices old new text))

-- the changes whose pattern a set has
abbrev pub left_by : Set → List Change → List Change
left_by set changes = filter (λ c. has_text set (changed_pattern c)) changes

-- ---- what is printed
-- the changes of assignments, or how many there are
abbrev pub assigned_text : Review → List Change → List ℕ
assigned_text r changes = if r.stat then stat_form r.json None (with_changes no_stat changes) else changes_form r.json r.layout changes

-- what is said of those that are left
abbrev pub left_end : Review → (all : ℕ) → (left : List Change) → List ℕ
left_end r all left = if r.json then json_line (left_object r.verbose all left) else []

abbrev pub left_said : Review → (all devices : ℕ) → (left : List Change) → List ℕ
left_said r all devices left = if r.json then [] else left_text r.verbose all devices left
