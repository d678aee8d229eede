-- The devices that `diff --samples` asks about: they are made of the patterns of two databases, and each gets something else from the new
-- one. Also what it says of patterns of which it isn't known whether there is such a device. Our choice.
use Rattle.std.specs.Prelude.{◌++◌, ◌∷◌, Bool, List, Some, [], codes, flat_map, if◌then◌else◌, length, map, ℕ}
use Rattle.std.specs.Fmt.{decimal}
use Rattle.json.specs.Json.{Json}
use Rattle.hwdb_spec.specs.Assignment.{Assignment, ascending}
use Rattle.hwdb_spec.specs.Folders.{Source}
use Rattle.hwdb_spec.specs.Lines.{byte}
use Rattle.hwdb_spec.specs.Tree.{Tree}
use Rattle.hwdb_spec_commands.specs.Comparisons.{comparison_form, comparison_lines, comparison_said, devices_named, has_changed}
use Rattle.hwdb_spec_commands.specs.Dump.{dumped}
use Rattle.hwdb_spec_commands.specs.Json.{array_of, json_line, number_json, object_of, text_json}
use Rattle.hwdb_spec_commands.specs.Reviews.{Review}
use Rattle.hwdb_spec_commands.specs.SampleRules.{RuleTexts}
use Rattle.hwdb_spec_commands.specs.SamplesFound.{Found, KeyedRule, samples_by_key}
use Rattle.hwdb_spec_commands.specs.Unmet.{by_number}

-- an assignment as a rule, and as one of its key
abbrev pub assigned_texts : Assignment → RuleTexts
assigned_texts f = (f.position.pattern, f.value)

-- the same with its key
abbrev pub keyed_texts : Assignment → KeyedRule
keyed_texts f = (f.position.key, assigned_texts f)

-- the rules of a database, in the order in which they count: by priority, line, pattern and key
abbrev pub rules_in : Tree → List KeyedRule
rules_in t = map keyed_texts (dumped t)

-- what is found of each key
abbrev pub found_between : (old new : Tree) → List (List ℕ × Found)
found_between old new = samples_by_key (rules_in old) (rules_in new)

-- the devices of one key's samples, and its patterns that are undecided
abbrev pub devices_shown : List ℕ × Found → List (List ℕ)
devices_shown found = map (λ (s : List ℕ × List ℕ). s.1) found.1.shown

-- the patterns of one key that are undecided
abbrev pub left_undecided : List ℕ × Found → List (List ℕ)
left_undecided found = found.1.undecided

-- those of all keys, ascending, each once
abbrev pub sample_devices : (old new : Tree) → List (List ℕ)
sample_devices old new = ascending (flat_map devices_shown (found_between old new))

-- the patterns of all keys that are undecided, ascending, each once
abbrev pub undecided_patterns : (old new : Tree) → List (List ℕ)
undecided_patterns old new = ascending (flat_map left_undecided (found_between old new))

-- ---- what is said of the latter

-- how many there are
abbrev pub undecided_heading : ℕ → List ℕ
undecided_heading n =
    decimal n ++ by_number (codes " pattern may give devices something else:\n") (codes " patterns may give devices something else:\n") n

-- that, and a line for each; nothing of none
abbrev pub pattern_line : List ℕ → List ℕ
pattern_line pattern = codes "  " ++ (pattern ++ byte "\n" ∷ [])

-- a line with their number, and one for each; nothing of none
abbrev pub undecided_text : List (List ℕ) → List ℕ
undecided_text [] = []
undecided_text (p ∷ more) = undecided_heading (length (p ∷ more)) ++ flat_map pattern_line (p ∷ more)

-- the object of the last line, as JSON
abbrev pub undecided_members : List (List ℕ) → List (List ℕ × Json)
undecided_members patterns = (codes "undecided", array_of (map text_json patterns)) ∷ []

-- the object itself
abbrev pub undecided_object : List (List ℕ) → Json
undecided_object patterns = object_of (undecided_members patterns)

-- ---- the command

-- what standard output says of two databases: each device as `diff --devices` does. As JSON a last line has what is undecided.
abbrev pub samples_end : (json : Bool) → List (List ℕ) → List ℕ
samples_end json patterns = if json then json_line (undecided_object patterns) else []

-- what standard output says
abbrev pub samples_form : Review → (old new : Tree) → List ℕ
samples_form r old new = comparison_lines r (Some (sample_devices old new)) old new ++ samples_end r.json (undecided_patterns old new)

-- as text standard error says it
abbrev pub undecided_said : (json : Bool) → List (List ℕ) → List ℕ
undecided_said json patterns = if json then [] else undecided_text patterns

-- what standard error says
abbrev pub samples_said : Review → (old new : Tree) → List ℕ
samples_said r old new = undecided_said r.json (undecided_patterns old new)

-- whether a device gets something else that counts
abbrev pub samples_differ : Review → (old new : Tree) → Bool
samples_differ r old new = has_changed r (Some (sample_devices old new)) old new

-- the same of any words of `diff`: for devices that are made, or for those of some files, or of all that is assigned
abbrev pub told_form : Review → List Source → (old new : Tree) → List ℕ
told_form r sources old new = if r.samples then samples_form r old new else comparison_form r (devices_named sources) old new

-- what is said on standard error
abbrev pub told_said : Review → List Source → (old new : Tree) → List ℕ
told_said r sources old new = if r.samples then samples_said r old new else comparison_said r (devices_named sources) old new

-- whether something changed
abbrev pub told_changed : Review → List Source → (old new : Tree) → Bool
told_changed r sources old new = if r.samples then samples_differ r old new else has_changed r (devices_named sources) old new
