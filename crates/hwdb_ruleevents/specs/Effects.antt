-- What is known of a token that is run. Our choice.
use Rattle.std.specs.Prelude.{List, [], ◌∷◌, ◌++◌, Bool, true, false, if◌then◌else◌, ℕ, nat_le, codes, length, Option, Some, None}
use Rattle.std.specs.List.{position_or_len}
use Rattle.std.specs.Prelude.{take}
use Rattle.hwdb_spec.specs.Lines.{byte, has, is_none}
use Rattle.hwdb_rulefiles.specs.RuleTokens.{Token, is_digit}
use Rattle.hwdb_rulefiles.specs.declared.pairs.Operator.{Operator}
use Rattle.hwdb_rulefiles.specs.declared.pairs.Operator.TheVariants.{Add}
use Rattle.hwdb_rulefiles.specs.declared.tokens.TokenKind.{TokenKind}
use Rattle.hwdb_rulefiles.specs.declared.tokens.TokenKind.TheVariants as Kinds
use Rattle.hwdb_rulerun.specs.Matching.{is_wild}
use Rattle.hwdb_rulerun.specs.Sights.{Entry, Known, Unknown, Missing, Text, Sight}
use Rattle.hwdb_ruleevents.specs.Changes.{Change, Open, by_sure}
use Rattle.hwdb_ruleevents.specs.Parents.{Chosen}

-- whether it succeeds, and what it changes
pub record Effect : Type 0 where
  pub succeeds : Option Bool
  pub changes : List Change

-- What is known of what builtins and programs do: by a token, the text of its command, if that is known, and what is known of properties
-- before it.
abbrev pub Commands : Type 0
Commands = Token → (text : Option (List ℕ)) → List Change → Effect

-- what is known of a device, of the parent that a line chose, of attributes of other devices, by the texts in braces that name them, and of
-- commands
pub record Knowledge : Type 0 where
  pub sight : Sight
  pub parent : Chosen
  pub others : List Entry
  pub commands : Commands

abbrev pub with_chosen : Knowledge → Chosen → Knowledge
with_chosen k c = record k { parent = c }

-- nothing is known
abbrev pub anything : Effect
anything = record { succeeds = None; changes = Open [] ∷ [] }

-- nothing changes
abbrev pub nothing : Effect
nothing = record { succeeds = None; changes = [] }

-- A command whose text isn't known may be too long. Then it isn't run, and changes nothing.
abbrev pub by_text : (text : Option (List ℕ)) → Effect → Effect
by_text None effect = record { succeeds = None; changes = by_sure false effect.changes }
by_text (Some text) effect = effect

-- the part of a pattern before its first *, ? or [
abbrev pub front : List ℕ → List ℕ
front pattern = take (position_or_len is_wild pattern) pattern

-- the properties whose names begin so may be set
abbrev pub opens : List ℕ → Effect
opens start = record { succeeds = None; changes = Open start ∷ [] }

-- the effect of an import that runs nothing, by its text
abbrev pub import_of : TokenKind → (text : List ℕ) → Effect
import_of Kinds.ImportDb text = opens text
import_of Kinds.ImportCmdline text = opens text
import_of Kinds.ImportParent text = opens (front text)
import_of kind text = anything

abbrev pub import_told : TokenKind → (text : Option (List ℕ)) → Effect
import_told kind None = anything
import_told kind (Some text) = import_of kind text

abbrev pub imports : TokenKind → Bool
imports Kinds.ImportDb = true
imports Kinds.ImportCmdline = true
imports Kinds.ImportParent = true
imports Kinds.ImportFile = true
imports kind = false

abbrev pub is_command : TokenKind → Bool
is_command Kinds.ImportBuiltin = true
is_command Kinds.ImportProgram = true
is_command kind = false

-- the effect of any other token: udev's own records change
abbrev pub plain_of : TokenKind → Effect
plain_of Kinds.Tag = record { succeeds = None; changes = Open (codes "TAGS") ∷ Open (codes "CURRENT_TAGS") ∷ [] }
plain_of Kinds.Devlink = record { succeeds = None; changes = Open (codes "DEVLINKS") ∷ [] }
plain_of kind = nothing

-- the effect of a token that runs no command, and sets no property by ENV
abbrev pub other_effect : TokenKind → (text : Option (List ℕ)) → Effect
other_effect kind text = if imports kind then import_told kind text else plain_of kind

-- the effect of a token that sets no property by ENV, by its text, if that is known
abbrev pub effect_of : Knowledge → List Change → Token → (text : Option (List ℕ)) → Effect
effect_of k cs t text = if is_command t.kind then by_text text (k.commands t text cs) else other_effect t.kind text

abbrev pub is_env : TokenKind → Bool
is_env Kinds.Env = true
is_env kind = false

abbrev pub is_add : Operator → Bool
is_add Add = true
is_add o = false

-- a text of no bytes is none (`device_add_property`)
abbrev pub some_text : List ℕ → Option (List ℕ)
some_text text = if is_none text then None else Some text

-- What += makes of a text: it comes after the old one and a blank.
abbrev pub added : (old : Option (List ℕ)) → (text : List ℕ) → Option (List ℕ)
added None text = some_text text
added (Some old) text = Some (old ++ (32 ∷ text))

-- What ENV makes of a property: a value of no bytes takes it away, or with += leaves it.
abbrev pub assigned : Operator → (value : List ℕ) → (text : List ℕ) → (old : Option (List ℕ)) → Option (List ℕ)
assigned o value text old =
    if is_none value then (if is_add o then old else None) else (if is_add o then added old text else some_text text)

-- a letter of ASCII
abbrev pub is_letter : ℕ → Bool
is_letter b =
    if nat_le (byte "a") b then nat_le b (byte "z") else (if nat_le (byte "A") b then nat_le b (byte "Z") else false)

-- what `string_escape=replace` leaves of a text as it is: letters, digits and #+-.:=@_ (`udev_replace_chars`)
abbrev pub stays : ℕ → Bool
stays b = if is_letter b then true else (if is_digit b then true else has b (codes "#+-.:=@_"))

abbrev pub all_stay : List ℕ → Bool
all_stay [] = true
all_stay (b ∷ more) = if stays b then all_stay more else false

-- a text that is set as it is, whatever OPTIONS came before; a longer one isn't followed
abbrev pub is_set_as_is : List ℕ → Bool
is_set_as_is text = if nat_le (length text) 511 then all_stay text else false

abbrev pub is_name_byte : ℕ → Bool
is_name_byte b = if is_letter b then true else (if is_digit b then true else has b (codes "_."))

-- a name that each release takes: letters, digits, `_` and `.`; systemd 262 sets no property of another name
abbrev pub is_name : List ℕ → Bool
is_name [] = true
is_name (b ∷ more) = if is_name_byte b then is_name more else false

-- what is known of a property that is set, by its name
abbrev pub known_as : (name : List ℕ) → Known → Known
known_as name value = if is_name name then value else Unknown

abbrev pub is_value_as_is : Option (List ℕ) → Bool
is_value_as_is None = true
is_value_as_is (Some text) = is_set_as_is text

abbrev pub known_value : Option (List ℕ) → Known
known_value None = Missing
known_value (Some text) = Text text

-- what is known of a value that is set
abbrev pub kept : Option (List ℕ) → Known
kept value = if is_value_as_is value then known_value value else Unknown

-- a text that comes after another one and a blank is never set as it is
abbrev pub added_told : (old : Known) → (text : List ℕ) → Known
added_told Unknown text = Unknown
added_told Missing text = kept (some_text text)
added_told (Text old) text = Unknown

abbrev pub set_told : Operator → (text : Option (List ℕ)) → (old : Known) → Known
set_told o None old = Unknown
set_told o (Some text) old = if is_add o then added_told old text else kept (some_text text)

-- what is known of what ENV makes of a property
abbrev pub assigned_told : Operator → (value : List ℕ) → (text : Option (List ℕ)) → (old : Known) → Known
assigned_told o value text old = if is_none value then (if is_add o then old else Missing) else set_told o text old
