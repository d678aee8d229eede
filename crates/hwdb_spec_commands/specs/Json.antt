-- The lines of JSON that `--json` prints: one object a line. Their form is our choice. What is JSON, and how it is written, is
-- defined by the kit's `json` (RFC 8259).
use Rattle.std.specs.Prelude.{codes, List, ℕ, Bool, true, false, not, ◌++◌, ◌∷◌, ◌==◌, ◌&&◌, [], flat_map, filter, get_or, map, None, Option, Some, if◌then◌else◌}
use Rattle.std.specs.Fmt.{decimal}
use Rattle.std.specs.Option.{option_map_or}
use Rattle.std.specs.Str.{is_utf8}
use Rattle.std.specs.Str.Parse.{digits_value}
use Rattle.hex.specs.Hex.{encode_lower}
use Rattle.json.specs.Json.{Json, string, number, array, object, Items, no_items, item, Members, no_members, member}
use Rattle.json.specs.Find.{get}
use Rattle.json.specs.Print.{print}
use Rattle.json.specs.Tree.{json_tokens}
use Rattle.hwdb_spec.specs.Assignment.{Position, Assignment}
use Rattle.hwdb_spec.specs.Lines.{byte}
use Rattle.hwdb_spec.specs.Patterns.{in_span}
use Rattle.hwdb_spec.specs.Folders.{Source, all_assignments}
use Rattle.hwdb_spec.specs.Tree.{Tree, answers, answers_after}
use Rattle.hwdb_spec.specs.Answers.{effective_of, last_assignments}
use Rattle.hwdb_spec.specs.Texts.{canonical, within_limit}
use Rattle.hwdb_spec.specs.Explanations.{explained}

-- ---- values

-- values as the items of an array
unfoldable pub items_of : List Json → Items
items_of [] = no_items
items_of (value ∷ more) = item value (items_of more)

-- values under names as the members of an object
unfoldable pub members_of : List (List ℕ × Json) → Members
members_of [] = no_members
members_of (m ∷ more) = member m.0 m.1 (members_of more)

-- an array of values
abbrev pub array_of : List Json → Json
array_of values = array (items_of values)

-- an object: under each name its value
abbrev pub object_of : List (List ℕ × Json) → Json
object_of members = object (members_of members)

-- a number
abbrev pub number_json : ℕ → Json
number_json n = number (decimal n)

-- a text: a string if it is UTF-8, else its bytes as numbers
abbrev pub text_json : List ℕ → Json
text_json text = if is_utf8 text then string text else array_of (map number_json text)

-- a character below U+0100, as JSON escapes it: `\u00` and two hexadecimal digits
abbrev pub escaped_code : ℕ → List ℕ
escaped_code c = codes "\\u00" ++ encode_lower (c ∷ [])

-- whether a character of U+0080 to U+009F begins with this byte, after which come others: UTF-8 has them as C2 and a byte from 80 to 9F
abbrev pub begins_control : ℕ → List ℕ → Bool
begins_control b more = (b == 0xc2) && in_span (get_or more 0 0) (0x80, 0x9f)

-- a byte of JSON's text: nothing if the escape of its character follows, DEL (7F) as its escape, any other as it is
abbrev pub escaped_byte : (follows : Bool) → ℕ → List ℕ
escaped_byte true b = []
escaped_byte false b = if b == 0x7f then escaped_code b else b ∷ []

-- JSON's text with DEL and U+0080 to U+009F escaped, which RFC 8259 leaves as they are and a terminal acts on (our choice). A
-- byte that is `second` is the second one of such a character.
unfoldable pub escaped_after : (second : Bool) → List ℕ → List ℕ
escaped_after second [] = []
escaped_after true (b ∷ more) = escaped_code b ++ escaped_after false more
escaped_after false (b ∷ more) = let follows = begins_control b more in escaped_byte follows b ++ escaped_after follows more

-- a text of JSON, as it is printed
abbrev pub escaped : List ℕ → List ℕ
escaped text = escaped_after false text

-- a value as text, without spaces
abbrev pub json_text : Json → List ℕ
json_text value = escaped (print (json_tokens value))

-- a value, and a newline
abbrev pub json_line : Json → List ℕ
json_line value = json_text value ++ byte "\n" ∷ []

-- ---- `query`

-- whether the key of a property is UTF-8, so that it may be the name of a member
abbrev pub has_name : List ℕ × List ℕ → Bool
has_name p = is_utf8 p.0

-- a property as a member: its value under its key
abbrev pub property_member : List ℕ × List ℕ → List ℕ × Json
property_member p = (p.0, text_json p.1)

-- a property as a pair of texts
abbrev pub pair_json : List ℕ × List ℕ → Json
pair_json p = array_of (text_json p.0 ∷ text_json p.1 ∷ [])

-- properties whose keys aren't UTF-8, as pairs under `raw`, if there are any
abbrev pub raw_members : List (List ℕ × List ℕ) → List (List ℕ × Json)
raw_members [] = []
raw_members (p ∷ more) = (codes "raw", array_of (map pair_json (p ∷ more))) ∷ []

-- a device and its properties
abbrev pub device_json : List ℕ → List (List ℕ × List ℕ) → Json
device_json device properties =
    object_of ((codes "device", text_json device) ∷ (codes "properties", object_of (map property_member (filter has_name properties)))
    ∷ raw_members (filter (λ p. not (has_name p)) properties))

-- what `query --json` prints: the properties that a database gives each of some devices, a line for each device
abbrev pub query_json : List (List ℕ) → Tree → List ℕ
query_json devices t = flat_map (λ device. json_line (device_json device (effective_of (answers device t)))) devices

-- the properties of `query --json`, said of the files' plain list: for each key the value of the last assignment among
-- those that match
abbrev pub last_values_json : (devices : List (List ℕ)) (etc usr : List Source) → List ℕ
last_values_json devices etc usr =
    flat_map (λ device. json_line (device_json device (effective_of (last_assignments device None (all_assignments etc usr))))) devices

-- ---- `list`

-- a hit: its position as `--after` takes it, and each part of it
abbrev pub hit_json : Assignment → Json
hit_json f =
    object_of ((codes "position", text_json (canonical f.position)) ∷ (codes "path", text_json f.path) ∷ (codes "line", number_json f.position.line)
    ∷ (codes "priority", number_json f.position.priority) ∷ (codes "pattern", text_json f.position.pattern) ∷ (codes "key", text_json f.position.key)
    ∷ (codes "value", text_json f.value) ∷ [])

-- a line for each hit
abbrev pub hits_json : List Assignment → List ℕ
hits_json hits = flat_map (λ f. json_line (hit_json f)) hits

-- what `list --json` prints: the first hits after a position
abbrev pub list_json : List ℕ → Option Position → Option ℕ → Tree → List ℕ
list_json device after limit t = hits_json (within_limit limit (answers_after device after t))

-- the lines of `list --json`, said of the files' plain list: the first of the last assignments after a position
abbrev pub last_lines_json : (device : List ℕ) (from : Option Position) (limit : Option ℕ) (etc usr : List Source) → List ℕ
last_lines_json device from limit etc usr = hits_json (within_limit limit (last_assignments device from (all_assignments etc usr)))

-- ---- `explain`

-- the value of an answer, and where it comes from
abbrev pub answer_members : Assignment → List (List ℕ × Json)
answer_members f =
    (codes "value", text_json f.value) ∷ (codes "path", text_json f.path) ∷ (codes "line", number_json f.position.line)
    ∷ (codes "pattern", text_json f.position.pattern) ∷ []

-- an answer that is overridden
abbrev pub overridden_json : Assignment → Json
overridden_json f = object_of (answer_members f)

-- a key, the answer that counts, and those that it overrides
abbrev pub explained_key_json : (device key : List ℕ) → Assignment → List Assignment → Json
explained_key_json device key f overridden =
    object_of ((codes "device", text_json device) ∷ (codes "key", text_json key)
    ∷ (answer_members f ++ (codes "overrides", array_of (map overridden_json overridden)) ∷ []))

-- the line of a key and its answers, the first of which counts
abbrev pub explanation_json : (device key : List ℕ) → List Assignment → List ℕ
explanation_json device key [] = []
explanation_json device key (f ∷ overridden) = json_line (explained_key_json device key f overridden)

-- a line for each key
abbrev pub explanations_json : List ℕ → List (List ℕ × List Assignment) → List ℕ
explanations_json device explanations = flat_map (λ p. explanation_json device p.0 p.1) explanations

-- what `explain --json` prints: what a database gives a device, and where it comes from
abbrev pub explain_json : List ℕ → Tree → List ℕ
explain_json device t = explanations_json device (explained (answers device t))

-- the lines of `explain --json`, said of the files' plain list
abbrev pub explained_json : (device : List ℕ) (etc usr : List Source) → List ℕ
explained_json device etc usr = explanations_json device (explained (last_assignments device None (all_assignments etc usr)))

-- ---- what is read of it

-- what is read of a value as a number; 0 if it is none
abbrev pub number_in : Json → ℕ
number_in (number digits) = digits_value 10 digits
number_in _ = 0

-- what is read of an array of numbers as bytes
abbrev pub bytes_in : Items → List ℕ
bytes_in no_items = []
bytes_in (item value more) = number_in value ∷ bytes_in more

-- what is read of a value as a text, as a string or as its bytes; an empty one if it is none
abbrev pub text_in : Json → List ℕ
text_in (string text) = text
text_in (array bytes) = bytes_in bytes
text_in _ = []

-- the properties that are there as members
abbrev pub members_in : Members → List (List ℕ × List ℕ)
members_in no_members = []
members_in (member key value more) = (key, text_in value) ∷ members_in more

-- the two texts of a pair
abbrev pub pair_in : Json → List ℕ × List ℕ
pair_in (array (item key (item value no_items))) = (text_in key, text_in value)
pair_in _ = ([], [])

-- the properties that are there as pairs
abbrev pub pairs_in : Items → List (List ℕ × List ℕ)
pairs_in no_items = []
pairs_in (item pair more) = pair_in pair ∷ pairs_in more

-- the properties of an object, if one is there
abbrev pub named_in : Option Json → List (List ℕ × List ℕ)
named_in (Some (object ms)) = members_in ms
named_in _ = []

-- those of an array of pairs, if one is there
abbrev pub raw_in : Option Json → List (List ℕ × List ℕ)
raw_in (Some (array pairs)) = pairs_in pairs
raw_in _ = []

-- the text under a name; an empty one if there is none
abbrev pub text_at : List ℕ → Json → List ℕ
text_at name value = option_map_or text_in (get name value) []

-- the properties of a device: those with names, and then those under `raw`
abbrev pub properties_in : Json → List (List ℕ × List ℕ)
properties_in value = named_in (get (codes "properties") value) ++ raw_in (get (codes "raw") value)
