-- What the laws say of lines of JSON: nothing of a text is lost.
use Rattle.std.specs.Prelude.{◌≡◌, ◌++◌, ◌<◌, ◌^◌, ℕ, List, Some, All, codes, filter, not}
use Rattle.hex.specs.Hex.{IsBytes}
use Rattle.json.specs.Json.{Json, document}
use Rattle.hwdb_spec.specs.Assignment.{Assignment}
use Rattle.hwdb_spec_commands.specs.Json.{device_json, has_name, json_text, properties_in, text_at, text_in, text_json}

-- what is read of a text's value is the text
abbrev pub TextsAreReadBack : Type 0
TextsAreReadBack = (text : List ℕ) → IsBytes text → text_in (text_json text) ≡ text

-- the bytes of a key and of a value
abbrev pub ArePairBytes : List ℕ × List ℕ → Type 0
ArePairBytes p = IsBytes p.0 × IsBytes p.1

-- what is read of a device's line is the device, and each of its properties: first those whose keys are UTF-8
pub record DeviceIsReadBack (device : List ℕ) (properties : List (List ℕ × List ℕ)) : Type 0 where
  pub value : Json
  pub is_read : document (json_text (device_json device properties)) ≡ Some value
  pub device_is : text_at (codes "device") value ≡ device
  pub properties_are : properties_in value ≡ filter has_name properties ++ filter (λ p. not (has_name p)) properties

abbrev pub DevicesAreReadBack : Type 0
DevicesAreReadBack =
    (device : List ℕ) (properties : List (List ℕ × List ℕ)) → IsBytes device → All ArePairBytes properties → DeviceIsReadBack device properties

-- the bytes and the numbers of a hit
pub record AreHitBytes (f : Assignment) : Type 0 where
  pub priority : f.position.priority < 2 ^ 16
  pub line : f.position.line < 2 ^ 32
  pub pattern : IsBytes f.position.pattern
  pub key : IsBytes f.position.key
  pub value : IsBytes f.value
  pub path : IsBytes f.path
