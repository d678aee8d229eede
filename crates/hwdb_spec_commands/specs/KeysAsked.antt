-- What `keys` prints: the keys that the values of KEYBOARD_KEY_.. name, each with its code; and what it says if no key is asked for. Which keys there are is from
-- linux/input-event-codes.h. The form is our choice, and the status is grep's.
use Rattle.std.specs.Prelude.{Bool, true, false, ℕ, List, [], ◌∷◌, ◌++◌, codes, flat_map, if◌then◌else◌, length, map, take}
use Rattle.std.specs.List.{list_any}
use Rattle.hwdb_spec.specs.Folders.{same}
use Rattle.hwdb_spec.specs.Lines.{byte, is, is_none, pieces}
use Rattle.hwdb_spec.specs.Visible.{shown_name}
use Rattle.hwdb_spec_commands.specs.DeviceTree.{nearest_of}
use Rattle.hwdb_spec_commands.specs.Properties.{after_word, same_letters, without_key, word}
use Rattle.hwdb_spec_commands.specs.Refusals.{refusal_line}
use Rattle.hwdb_spec_commands.specs.declared.vocabulary.TheConstants.{KEY_NAMES, KEY_WORDS}

-- whether a part is somewhere in a text, but for the case of letters
abbrev pub has_part : (part text : List ℕ) → Bool
has_part part [] = is_none part
has_part part (b ∷ more) = if same_letters part (take (length part) (b ∷ more)) then true else has_part part more

-- whether the row of a name that people use is for a key
abbrev pub is_called : (key row : List ℕ) → Bool
is_called key row = list_any (same key) (pieces (is (byte " ")) (after_word row))

-- whether the row of a name that people use is for a key, and the name has a part
abbrev pub is_called_so : (part key row : List ℕ) → Bool
is_called_so part key row = if has_part part (word row) then is_called key row else false

-- whether a part is in a key's name, or in a name that people use for it
abbrev pub has_name : (key part : List ℕ) → Bool
has_name key part = if has_part part key then true else list_any (is_called_so part key) (pieces (is (byte "\n")) KEY_WORDS.now)

-- whether a word asks for a key; it may begin with `KEY_`, as the header has it
abbrev pub asks_for : (key given : List ℕ) → Bool
asks_for key given = has_name key (without_key given)

-- whether one of some words asks for a key; if there is none, all keys are asked for
abbrev pub is_key_asked : (words : List (List ℕ)) → (key : List ℕ) → Bool
is_key_asked words key = if is_none words then true else list_any (asks_for key) words

-- A key's line, by its row of the table: its name, a space and its code; or these as JSON. A name has digits, letters and `_` alone, so
-- that nothing is escaped.
abbrev pub key_line : (json : Bool) → (row : List ℕ) → List ℕ
key_line false row = row ++ codes "\n"
key_line true row = codes "{\"name\":\"" ++ (word row ++ (codes "\",\"code\":" ++ (after_word row ++ codes "}\n")))

-- the line of a key that is asked for, or nothing
abbrev pub asked_line : (json : Bool) (words : List (List ℕ)) (row : List ℕ) → List ℕ
asked_line json words row = if is_key_asked words (word row) then key_line json row else []

-- what is printed
unfoldable pub keys_text : (json : Bool) (words : List (List ℕ)) → List ℕ
keys_text json words = flat_map (asked_line json words) (pieces (is (byte "\n")) KEY_NAMES.now)

-- the status: 1 if no key is asked for
abbrev pub keys_status : (text : List ℕ) → ℕ
keys_status text = if is_none text then 1 else 0

-- ---- if no key is asked for

-- the names of a table's rows
abbrev pub names_of : (table : List ℕ) → List (List ℕ)
names_of table = map word (pieces (is (byte "\n")) table)

-- The key whose name is nearest to a word, as names of devices are; a name that people use for keys comes after these. Empty if none is near.
abbrev pub near_key : (keys others given : List ℕ) → List ℕ
near_key keys others given = nearest_of (without_key given) (nearest_of (without_key given) [] (names_of keys)) (names_of others)

-- what to do: to take what is near, or to look at the list
abbrev pub key_advice : (near : List ℕ) → List ℕ
key_advice [] = codes "'hwdb keys' lists all"
key_advice (b ∷ rest) = codes "there is " ++ b ∷ rest

-- the line of a word, of which this is near
abbrev pub unfound_line : (given near : List ℕ) → List ℕ
unfound_line given near = refusal_line (codes "no key: " ++ (shown_name given ++ (codes ": " ++ key_advice near)))

-- that of a word that asks for no key
unfoldable pub word_told : (given : List ℕ) → List ℕ
word_told given = unfound_line given (near_key KEY_NAMES.now KEY_WORDS.now given)

-- what is said of words for which this is printed: nothing if it is some key, and else a line for each
unfoldable pub keys_told : (words : List (List ℕ)) (text : List ℕ) → List ℕ
keys_told words [] = flat_map word_told words
keys_told words (b ∷ rest) = []
