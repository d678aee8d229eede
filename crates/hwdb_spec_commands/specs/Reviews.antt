-- How `diff` is asked to compare: in which form its answer is, and which changes count, by file and by pattern. Our choice.
--
-- A change counts if its old or its new assignment passes. So what a device gets is compared as it is, and an assignment that went from one
-- file to another isn't told as lost.
use Rattle.std.specs.Prelude.{◌&&◌, ◌==◌, ◌||◌, Bool, List, Option, codes, drop, false, filter, if◌then◌else◌, length, map, nat_eq, not, option_map, string_bytes, ℕ}
use Rattle.std.specs.List.{list_any, starts_with}
use Rattle.std.specs.Option.{option_map_or}
use Rattle.std.specs.Str.{bytes_eq}
use Rattle.hwdb_spec.specs.Answers.{is_match}
use Rattle.hwdb_spec.specs.Assignment.{Assignment}
use Rattle.hwdb_spec_commands.specs.Differences.{Change}
use Rattle.hwdb_spec_commands.specs.Differences.Change.{Came, Went, Changed}
use Rattle.hwdb_spec_commands.specs.Sides.{file_name, given_front}
use Rattle.hwdb_spec_commands.specs.declared.args.Layout.{Layout}
use Rattle.hwdb_spec_commands.specs.declared.args.Layout.TheVariants.{Grouped, Lines, Tables}
use Rattle.hwdb_spec_commands.specs.declared.args.ReviewArgs.{ReviewArgs}

-- whether as JSON and as counts, and how text is laid out; whether with the changes that no device meets, and of devices made of patterns; the
-- globs of files that count, and of those that don't; and what patterns that count begin with
pub record Review : Type 0 where
  pub json : Bool
  pub stat : Bool
  pub layout : Layout
  pub verbose : Bool
  pub samples : Bool
  pub only : List (List ℕ)
  pub without : List (List ℕ)
  pub prefixes : List (List ℕ)

-- the layout that a word names
abbrev pub layout_named : List ℕ → Layout
layout_named name = if bytes_eq name (codes "lines") then Lines else (if bytes_eq name (codes "markdown") then Tables else Grouped)

-- that of the word after `--format`; by record, if there is none
abbrev pub layout_of : Option (List ℕ) → Layout
layout_of format = option_map_or layout_named format Grouped

-- what words ask for
abbrev pub review_in : ReviewArgs → Review
review_in r = record {
  json = r.json;
  stat = r.stat;
  layout = layout_of (option_map string_bytes r.format);
  verbose = r.verbose;
  samples = r.samples;
  only = map string_bytes r.only.items;
  without = map string_bytes r.without.items;
  prefixes = map string_bytes r.prefixes.items;
}

-- ---- which changes count

-- some glob matches the name; globs are patterns, as match lines have them
abbrev pub is_among : (globs : List (List ℕ)) → (name : List ℕ) → Bool
is_among globs name = list_any (λ glob. is_match name glob) globs

-- whether a file counts: one of `--only`, if there are some, and none of `--not`
abbrev pub file_counts : Review → (name : List ℕ) → Bool
file_counts r name = (length r.only == 0 || is_among r.only name) && not (is_among r.without name)

-- whether a pattern does: it begins with one of the prefixes, if there are some
abbrev pub pattern_counts : Review → (pattern : List ℕ) → Bool
pattern_counts r pattern = length r.prefixes == 0 || list_any (λ prefix. starts_with nat_eq pattern prefix) r.prefixes

-- whether an assignment passes: with `--devices` its pattern is the device
abbrev pub passes : Review → Assignment → Bool
passes r f = file_counts r (file_name f.path) && pattern_counts r f.position.pattern

-- whether a change counts
abbrev pub change_counts : Review → Change → Bool
change_counts r (Came new) = passes r new
change_counts r (Went old) = passes r old
change_counts r (Changed old new) = passes r old || passes r new

-- ---- paths

-- The path of a file, as it was given: after the front that a text file of a side has. Any other one is told as it is stored.
abbrev pub given_path : (path : List ℕ) → List ℕ
given_path path = if starts_with nat_eq path given_front then drop (length given_front) path else path

-- an assignment with that path
abbrev pub as_given : Assignment → Assignment
as_given f = record { position = f.position; value = f.value; path = given_path f.path }

-- a change of such ones
abbrev pub given_change : Change → Change
given_change (Came new) = Came (as_given new)
given_change (Went old) = Went (as_given old)
given_change (Changed old new) = Changed (as_given old) (as_given new)

-- of some changes those that count, with the paths that were given
abbrev pub reviewed : Review → List Change → List Change
reviewed r changes = filter (change_counts r) (map given_change changes)
