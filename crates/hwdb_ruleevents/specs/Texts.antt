-- The texts of values, after udev(7), 'string substitutions', and `udev_event_apply_format` and `udev_event_subst_format` of udev-event.c
-- (systemd 257). And what is known of them.
use Rattle.std.specs.Prelude.{List, [], ◌∷◌, Bool, true, false, if◌then◌else◌, ℕ, nat_lt, take, length, codes, Option, Some, None}
use Rattle.hwdb_spec.specs.Lines.{byte, begins_with}
use Rattle.hwdb_spec_commands.specs.Sysfs.{written}
use Rattle.hwdb_rulefiles.specs.Escapes.{onto}
use Rattle.hwdb_rulefiles.specs.RuleTokens.{Token, is_digit}
use Rattle.hwdb_rulefiles.specs.declared.tokens.TokenKind.{TokenKind}
use Rattle.hwdb_rulefiles.specs.declared.tokens.TokenKind.TheVariants as Kinds
use Rattle.hwdb_rulerun.specs.Conditions.{attribute_size}
use Rattle.hwdb_rulerun.specs.Sights.{Known, Unknown, Missing, Text, attribute_of, entry_of}
use Rattle.hwdb_ruleevents.specs.Changes.{Change, value_in}
use Rattle.hwdb_ruleevents.specs.Effects.{Knowledge, is_env}
use Rattle.hwdb_ruleevents.specs.Parents.{Chosen, Anyone, Nobody, One}
use Rattle.hwdb_ruleevents.specs.Pieces.{Piece, Byte, Stands, pieces}
use Rattle.hwdb_ruleevents.specs.declared.pieces.Variable.{Variable}
use Rattle.hwdb_ruleevents.specs.declared.pieces.Variable.TheVariants as Variables

-- the text that each variable stands for, with what is in braces; None if it isn't followed, or isn't known
abbrev pub Meaning : Type 0
Meaning = Variable → (argument : List ℕ) → Option (List ℕ)

abbrev pub piece_text : Meaning → Piece → Option (List ℕ)
piece_text f (Byte b) = Some (b ∷ [])
piece_text f (Stands variable argument) = f variable argument

-- texts one after the other
abbrev pub joined : Option (List ℕ) → Option (List ℕ) → Option (List ℕ)
joined None rest = None
joined (Some front) rest = onto front rest

abbrev pub text_of : Meaning → List Piece → Option (List ℕ)
text_of f [] = Some []
text_of f (p ∷ more) = joined (piece_text f p) (text_of f more)

-- How many bytes a text may have: UDEV_NAME_SIZE less one for ENV, and UDEV_PATH_SIZE less one for what is run, or more. A longer one isn't
-- followed.
abbrev pub room : TokenKind → ℕ
room kind = if is_env kind then 511 else 1023

abbrev pub within : (room : ℕ) → Option (List ℕ) → Option (List ℕ)
within room None = None
within room (Some text) = if nat_lt room (length text) then None else Some text

-- IMPORT{db} and IMPORT{cmdline} take their value as it is
abbrev pub is_verbatim : TokenKind → Bool
is_verbatim Kinds.ImportDb = true
is_verbatim Kinds.ImportCmdline = true
is_verbatim kind = false

-- the text of a token's value, if all variables in it have a text
abbrev pub value_text : Meaning → TokenKind → (value : List ℕ) → Option (List ℕ)
value_text f kind value = if is_verbatim kind then Some value else within (room kind) (text_of f (pieces value))

-- an attribute's text as `$attr` writes it; a longer one isn't followed
abbrev pub attribute_text : List ℕ → Option (List ℕ)
attribute_text text = if nat_lt attribute_size (length text) then None else Some (written text)

-- `[subsystem/name]attribute` names an attribute of another device
abbrev pub names_other : (argument : List ℕ) → Bool
names_other argument = begins_with (byte "[") argument

-- an attribute of another device, which udev cuts (`udev_resolve_subsys_kernel`); without one it is empty
abbrev pub other_text : Option (List ℕ) → List ℕ
other_text None = []
other_text (Some text) = written (take attribute_size text)

abbrev pub all_digits : List ℕ → Bool
all_digits [] = true
all_digits (b ∷ rest) = if is_digit b then all_digits rest else false

abbrev pub last_digits : List ℕ → List ℕ
last_digits [] = []
last_digits (b ∷ rest) = if all_digits (b ∷ rest) then b ∷ rest else last_digits rest

-- the digits at the end of a name, which isn't all digits (`sd_device_get_sysnum`)
abbrev pub number : (name : List ℕ) → List ℕ
number name = if all_digits name then [] else last_digits name

-- what is known of a property's text; one that isn't there has none
abbrev pub known_text : Known → Option (List ℕ)
known_text Unknown = None
known_text Missing = Some []
known_text (Text text) = Some text

-- what is known of an attribute's text, and of another one that counts if the device has none
abbrev pub own_told : Known → (otherwise : Option (List ℕ)) → Option (List ℕ)
own_told Unknown otherwise = None
own_told Missing otherwise = otherwise
own_told (Text text) otherwise = attribute_text text

-- what is known of the texts of a parent: an attribute, the name and the driver; without a parent they are empty
abbrev pub parent_attribute_told : Chosen → (name : List ℕ) → Option (List ℕ)
parent_attribute_told Anyone name = None
parent_attribute_told Nobody name = Some []
parent_attribute_told (One s) name = own_told (attribute_of s name) (Some [])

abbrev pub parent_name_told : Chosen → Option (List ℕ)
parent_name_told Anyone = None
parent_name_told Nobody = Some []
parent_name_told (One s) = Some s.name

abbrev pub parent_driver_told : Chosen → Option (List ℕ)
parent_driver_told Anyone = None
parent_driver_told Nobody = Some []
parent_driver_told (One s) = known_text s.driver

abbrev pub other_told : Known → Option (List ℕ)
other_told Unknown = None
other_told Missing = Some (other_text None)
other_told (Text text) = Some (other_text (Some text))

abbrev pub attribute_told : Knowledge → (argument : List ℕ) → Option (List ℕ)
attribute_told k argument =
    if names_other argument then other_told (entry_of argument Unknown k.others) else own_told (attribute_of k.sight.own argument) (parent_attribute_told k.parent argument)

-- what is known of the text that a variable stands for
abbrev pub meaning_told : Knowledge → List Change → Meaning
meaning_told k cs Variables.Kernel argument = Some k.sight.own.name
meaning_told k cs Variables.Number argument = Some (number k.sight.own.name)
meaning_told k cs Variables.Devpath argument = Some k.sight.path
meaning_told k cs Variables.Env argument = known_text (value_in cs argument)
meaning_told k cs Variables.Attr argument = attribute_told k argument
meaning_told k cs Variables.Id argument = parent_name_told k.parent
meaning_told k cs Variables.Driver argument = parent_driver_told k.parent
meaning_told k cs Variables.Root argument = Some (codes "/dev")
meaning_told k cs Variables.Sys argument = Some (codes "/sys")
meaning_told k cs variable argument = None

-- the text of a token's value, if it is known
abbrev pub text_told : Knowledge → List Change → Token → Option (List ℕ)
text_told k cs t = value_text (meaning_told k cs) t.kind t.value
