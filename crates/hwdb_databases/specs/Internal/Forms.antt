-- What is written of changes as JSON, before it is a line.
use Rattle.std.specs.Prelude.{List, ℕ, [], ◌∷◌, codes, map}
use Rattle.json.specs.Json.{Json}
use Rattle.hwdb_spec_commands.specs.ChangeForms.{change_members}
use Rattle.hwdb_spec_commands.specs.Differences.{Change}
use Rattle.hwdb_spec_commands.specs.Json.{array_of, object_of, text_json}

-- a change as an object of its own
abbrev pub change_object : Change → Json
change_object change = object_of (change_members change)

-- the object of a device, also if nothing changed for it
abbrev pub changed_device : (device : List ℕ) → List Change → Json
changed_device device changes =
    object_of ((codes "device", text_json device) ∷ (codes "changes", array_of (map change_object changes)) ∷ [])
