-- How `diff` tells changes: of assignments by record, a line for each, as tables or as JSON; for a device, as text, a table or JSON. Our choice.
use Rattle.std.specs.Prelude.{Bool, true, false, List, ℕ, [], ◌∷◌, codes, flat_map, map}
use Rattle.json.specs.Json.{Json}
use Rattle.hwdb_spec.specs.Assignment.{Assignment}
use Rattle.hwdb_spec_commands.specs.DeviceDifferences.{device_changes_text}
use Rattle.hwdb_spec_commands.specs.Differences.{Change, changes_text}
use Rattle.hwdb_spec_commands.specs.Differences.Change.{Came, Went, Changed}
use Rattle.hwdb_spec_commands.specs.Renamed.{changed_pattern, grouped_text}
use Rattle.hwdb_spec_commands.specs.Tables.{device_table, tables_text}
use Rattle.hwdb_spec_commands.specs.declared.args.Layout.{Layout}
use Rattle.hwdb_spec_commands.specs.declared.args.Layout.TheVariants.{Grouped, Lines, Tables}
use Rattle.hwdb_spec_commands.specs.Json.{array_of, json_line, number_json, object_of, text_json}

-- ---- JSON

-- what an assignment gives, and where it comes from
abbrev pub given_json : Assignment → Json
given_json f = object_of ((codes "value", text_json f.value) ∷ (codes "path", text_json f.path) ∷ (codes "line", number_json f.position.line) ∷ [])

-- what happened, the key, and what was and what is there
abbrev pub change_members : Change → List (List ℕ × Json)
change_members (Came new) = (codes "change", text_json (codes "added")) ∷ (codes "key", text_json new.position.key) ∷ (codes "new", given_json new) ∷ []
change_members (Went old) = (codes "change", text_json (codes "removed")) ∷ (codes "key", text_json old.position.key) ∷ (codes "old", given_json old) ∷ []
change_members (Changed old new) =
    (codes "change", text_json (codes "changed")) ∷ (codes "key", text_json old.position.key) ∷ (codes "old", given_json old) ∷ (codes "new", given_json new) ∷ []

-- a change as an object: its pattern, and what happened
abbrev pub whole_object : Change → Json
whole_object change = object_of ((codes "pattern", text_json (changed_pattern change)) ∷ change_members change)

-- the line of a change
abbrev pub change_json : Change → List ℕ
change_json change = json_line (whole_object change)

-- the line of a device: its changes; no line if there is none
abbrev pub device_changes_json : (device : List ℕ) → List Change → List ℕ
device_changes_json device [] = []
device_changes_json device (change ∷ more) =
    json_line (object_of ((codes "device", text_json device) ∷ (codes "changes", array_of (map (λ c. object_of (change_members c)) (change ∷ more))) ∷ []))

-- ---- what is printed

-- the changes of assignments as text: by record, a line for each, or as tables
abbrev pub changes_lines : Layout → List Change → List ℕ
changes_lines Grouped changes = grouped_text changes
changes_lines Lines changes = changes_text changes
changes_lines Tables changes = tables_text changes

-- the same, or as JSON
abbrev pub changes_form : (json : Bool) → Layout → List Change → List ℕ
changes_form false layout changes = changes_lines layout changes
changes_form true layout changes = flat_map change_json changes

-- the changes for a device as text
abbrev pub device_changes_lines : Layout → (device : List ℕ) → List Change → List ℕ
device_changes_lines Grouped = device_changes_text
device_changes_lines Lines = device_changes_text
device_changes_lines Tables = device_table

-- the same, or as JSON
abbrev pub device_changes_form : (json : Bool) → Layout → (device : List ℕ) → List Change → List ℕ
device_changes_form false layout = device_changes_lines layout
device_changes_form true layout = device_changes_json
