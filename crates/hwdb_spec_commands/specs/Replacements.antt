-- What `explain --text` says of a device that no database can: which assignments a later one with the same pattern and key replaced,
-- and which files aren't read, as others mask them (hwdb(7)). Its form is our choice.
use Rattle.std.specs.Prelude.{codes, Bool, List, ℕ, None, Option, Some, false, true, [], ◌∷◌, ◌++◌, filter, find, flat_map, map, reverse}
use Rattle.json.specs.Json.{Json}
use Rattle.hwdb_spec.specs.Answers.{is_same_place, is_wanted}
use Rattle.hwdb_spec.specs.Assignment.{Assignment}
use Rattle.hwdb_spec.specs.Explanations.{origin_line}
use Rattle.hwdb_spec.specs.Folders.{Source, all_assignments, chosen_of}
use Rattle.hwdb_spec_commands.specs.Json.{answer_members, json_line, object_of, text_json}
use Rattle.hwdb_spec_commands.specs.Once.{once}
use Rattle.hwdb_spec_commands.specs.Status.{masked_paths, said_line}
use Rattle.hwdb_spec.specs.Texts.{property_text}

-- an assignment, and the one that replaced it
pub record Replacement : Type 0 where
  pub old : Assignment
  pub new : Assignment

-- the last of some assignments that has the pattern and the key of one
abbrev pub last_like : Assignment → List Assignment → Option Assignment
last_like a more = find (is_same_place a) (reverse more)

-- an assignment is replaced if there is one that replaces it
abbrev pub replaced_by : Assignment → Option Assignment → List Replacement
replaced_by a None = []
replaced_by a (Some b) = record { old = a; new = b } ∷ []

-- The assignments that a later one of the list with the same pattern and key follows, in their order. Each is replaced by the last of
-- these, which counts (hwdb(7)).
unfoldable pub replacements : List Assignment → List Replacement
replacements [] = []
replacements (a ∷ more) = replaced_by a (last_like a more) ++ replacements more

-- those of the files' assignments whose pattern matches the device, by priority, line and match line, each once
abbrev pub replacements_for : (device : List ℕ) (etc usr : List Source) → List Replacement
replacements_for device etc usr = replacements (once (filter (is_wanted device) (all_assignments etc usr)))

-- the paths of the masked files
abbrev pub masked_files : (etc usr : List Source) → List (List ℕ)
masked_files etc usr = masked_paths (map (λ (s : Source). s.name) usr) (chosen_of etc usr)

-- ---- as lines

-- an assignment after a word: its `KEY=VALUE`, and below that where it comes from
abbrev pub assignment_text : (word : List ℕ) → Assignment → List ℕ
assignment_text word f = word ++ (property_text (f.position.key, f.value) ++ origin_line f)

-- what was replaced, and what replaced it
abbrev pub replacement_text : Replacement → List ℕ
replacement_text r = assignment_text (codes "replaced ") r.old ++ assignment_text (codes "  by ") r.new

-- ---- as lines of JSON

-- an assignment, and where it comes from
abbrev pub assignment_json : Assignment → Json
assignment_json f = object_of ((codes "key", text_json f.position.key) ∷ answer_members f)

-- what was replaced, and what replaced it, as an object
abbrev pub replacement_object : (device : List ℕ) → Replacement → Json
replacement_object device r =
    object_of ((codes "device", text_json device) ∷ (codes "replaced", assignment_json r.old) ∷ (codes "by", assignment_json r.new) ∷ [])

-- its line
abbrev pub replacement_json : (device : List ℕ) → Replacement → List ℕ
replacement_json device r = json_line (replacement_object device r)

-- the line of a masked file
abbrev pub masked_json : (path : List ℕ) → List ℕ
masked_json path = json_line (object_of ((codes "masked", text_json path) ∷ []))

-- ---- in either form

-- what was replaced, as text or with `--json`
abbrev pub replaced_form : (json : Bool) (device : List ℕ) → List Replacement → List ℕ
replaced_form false device = flat_map replacement_text
replaced_form true device = flat_map (replacement_json device)

-- a line for each masked file
abbrev pub masked_form : (json : Bool) → (paths : List (List ℕ)) → List ℕ
masked_form false = flat_map (said_line (codes "masked"))
masked_form true = flat_map masked_json

-- what is said of a device: what was replaced, and then which files are masked
abbrev pub replacements_form : (json : Bool) (device : List ℕ) (etc usr : List Source) → List ℕ
replacements_form json device etc usr =
    replaced_form json device (replacements_for device etc usr) ++ masked_form json (masked_files etc usr)
