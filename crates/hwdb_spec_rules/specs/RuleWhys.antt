-- What `device --why` prints: of each line that has a lookup whether it asks, and what decides. Our choice.
use Rattle.std.specs.Prelude.{List, [], ◌∷◌, ◌++◌, Bool, true, false, if◌then◌else◌, ℕ, codes, flat_map, Option, Some, None}
use Rattle.json.specs.Json.{Json}
use Rattle.hwdb_spec.specs.Lines.{byte, is_none}
use Rattle.hwdb_spec_commands.specs.Json.{json_line, object_of, text_json}
use Rattle.hwdb_spec_commands.specs.declared.devices.DeviceForm.{DeviceForm}
use Rattle.hwdb_spec_commands.specs.declared.devices.DeviceForm.TheVariants as form

-- a line by its file's name and its number, whether it asks, and what decides; nothing if it asks
pub record Why : Type 0 where
  pub rule : List ℕ
  pub asks : Option Bool
  pub cause : List ℕ

-- whether it asks
abbrev pub asks_text : Option Bool → List ℕ
asks_text None = codes " may ask"
asks_text (Some true) = codes " asks"
asks_text (Some false) = codes " doesn't ask"

-- a cause after a colon
abbrev pub after_colon : List ℕ → List ℕ
after_colon cause = if is_none cause then [] else codes ": " ++ cause

-- a line of text
abbrev pub why_line : Why → List ℕ
why_line w = w.rule ++ (asks_text w.asks ++ (after_colon w.cause ++ byte "\n" ∷ []))

-- the same as a word of JSON
abbrev pub asks_word : Option Bool → List ℕ
asks_word None = codes "perhaps"
asks_word (Some true) = codes "yes"
asks_word (Some false) = codes "no"

-- a cause, if there is one
abbrev pub cause_member : List ℕ → List (List ℕ × Json)
cause_member cause = if is_none cause then [] else (codes "cause", text_json cause) ∷ []

-- a line of JSON
abbrev pub why_json : Why → Json
why_json w = object_of ((codes "rule", text_json w.rule) ∷ (codes "asks", text_json (asks_word w.asks)) ∷ cause_member w.cause)

-- what is printed, as text or as JSON
abbrev pub whys_form : DeviceForm → List Why → List ℕ
whys_form form.Json whys = flat_map (λ w. json_line (why_json w)) whys
whys_form f whys = flat_map why_line whys
