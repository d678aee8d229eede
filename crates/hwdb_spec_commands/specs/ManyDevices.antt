-- What `explain` prints of several devices, and when a text of devices is too long. Our choice.
use Rattle.std.specs.Prelude.{List, ℕ, ◌<◌, Any, flat_map, length, map}
use Rattle.hwdb_spec.specs.Explanations.{explain_text, explained_text}
use Rattle.hwdb_spec.specs.Folders.{Source}
use Rattle.hwdb_spec_commands.specs.Json.{explain_json, explained_json}
use Rattle.hwdb_spec.specs.Texts.{devices_of, with_empty_lines}
use Rattle.hwdb_spec.specs.Tree.{Tree}

-- what a database gives each device, and where it comes from, as text
abbrev pub explains_text : List (List ℕ) → Tree → List ℕ
explains_text devices t = with_empty_lines (map (λ device. explain_text device t) devices)

-- the same, of what the files assign
abbrev pub explained_texts : (devices : List (List ℕ)) (etc usr : List Source) → List ℕ
explained_texts devices etc usr = with_empty_lines (map (λ device. explained_text device etc usr) devices)

-- what a database gives each device, and where it comes from, as JSON: each line says its device
abbrev pub explains_json : List (List ℕ) → Tree → List ℕ
explains_json devices t = flat_map (λ device. explain_json device t) devices

-- the same, of what the files assign
abbrev pub explained_lines_json : (devices : List (List ℕ)) (etc usr : List Source) → List ℕ
explained_lines_json devices etc usr = flat_map (λ device. explained_json device etc usr) devices

-- one of the devices that a text names has more bytes than a limit
abbrev pub HasLongLine : (most : ℕ) → List ℕ → Type 0
HasLongLine most text = Any (λ line. most < length line) (devices_of text)
