-- What is known of what builtins and programs do to a device's properties, by what sysfs has and what a database gives: after
-- udev-builtin-hwdb.c, udev-builtin-input_id.c, udev-builtin-usb_id.c and udev-builtin-net_id.c (systemd 257). Of other commands the names are
-- known that they may set.
use Rattle.std.specs.Prelude.{List, [], ◌∷◌, ◌++◌, Bool, true, false, if◌then◌else◌, ℕ, codes, drop, find, flat_map, is_some, map, not, take, Option, Some, None}
use Rattle.hwdb_spec.specs.Assignment.{Assignment}
use Rattle.hwdb_spec.specs.Lines.{is_none}
use Rattle.hwdb_spec_commands.specs.Inputs.{Kinds, has_events, kinds_by_bits, no_kinds}
use Rattle.hwdb_spec_commands.specs.Lookups.{Lookup as Asked, Question, Told, address_rule, first_value, is_walked, made_of, strings_from}
use Rattle.hwdb_spec_commands.specs.Sysfs.{Ancestor, attribute, is_in, is_run, is_usb_device, some, uevent_is}
use Rattle.hwdb_rulefiles.specs.RuleTokens.{word_len}
use Rattle.hwdb_rulefiles.specs.RuleText.{unindented}
use Rattle.hwdb_rulefiles.specs.declared.tokens.TokenKind.{TokenKind}
use Rattle.hwdb_rulefiles.specs.declared.tokens.TokenKind.TheVariants as Tokens
use Rattle.hwdb_rulerun.specs.Asking.{is_net_id}
use Rattle.hwdb_rulerun.specs.Sights.{Known, Unknown, Missing, Text}
use Rattle.hwdb_ruleevents.specs.Changes.{Change, Open, Put, value_in}
use Rattle.hwdb_ruleevents.specs.Effects.{Commands, Effect, anything, known_as, known_value, some_text}
use Rattle.hwdb_ruleevents.specs.Telling.{alias_told}
use Rattle.hwdb_rulecommands.specs.Builtins.{builtin_of}
use Rattle.hwdb_rulecommands.specs.CommandWords.{words}
use Rattle.hwdb_rulecommands.specs.LookupCommands.{Lookup, lookup_of}
use Rattle.hwdb_rulecommands.specs.Settable.{may_set, program_may_set}
use Rattle.hwdb_rulecommands.specs.declared.builtins.Builtin.{Builtin}
use Rattle.hwdb_rulecommands.specs.declared.builtins.Builtin.TheVariants as Builtins

-- what a string gets
abbrev pub Tells : Type 0
Tells = List ℕ → Told

-- of a command the names are known that it may set
abbrev pub may : List (List ℕ) → Effect
may starts = record { succeeds = None; changes = map Open starts }

-- the same of names that are known, or aren't
abbrev pub may_by : Option (List (List ℕ)) → Effect
may_by None = anything
may_by (Some starts) = may starts

-- ---- hwdb

-- What is known of a device's own string, by what is known of its MODALIAS, which rules may set (`udev_builtin_hwdb_search`).
abbrev pub own_string : (alias : Known) → Ancestor → Known
own_string Unknown a = Unknown
own_string Missing a = known_value (made_of a)
own_string (Text text) a = Text text

-- the own string of a device that a walk looks at, and what its parents ask after it
abbrev pub own_first : (own : Known) → (prefix : List ℕ) → (without after_own : List Question) → Option (List Question)
own_first Unknown prefix without after_own = None
own_first Missing prefix without after_own = Some without
own_first (Text text) prefix without after_own = Some (record { parent = 0; text = prefix ++ text } ∷ after_own)

-- the strings of a device and its parents, if they are known; above a device on USB no more than one is asked
abbrev pub strings_by : (alias : Known) → (subsystem prefix : List ℕ) → List Ancestor → Option (List Question)
strings_by alias subsystem prefix [] = Some []
strings_by alias subsystem prefix (a ∷ parents) =
    if is_walked subsystem a
    then own_first (own_string alias a) prefix (strings_from subsystem prefix 1 (is_usb_device a) parents)
    (if is_usb_device a then [] else strings_from subsystem prefix 1 false parents)
    else Some (strings_from subsystem prefix 1 false parents)

-- a walk, unless udev doesn't run it
abbrev pub walked_in : List Ancestor → (alias : Known) → (subsystem prefix : List ℕ) → Option (List Question)
walked_in chain alias subsystem prefix = if is_run prefix then strings_by alias subsystem prefix chain else Some []

-- a walk; no parent is in a subsystem without a name
abbrev pub walked : List Ancestor → (alias : Known) → (subsystem : Option (List ℕ)) (prefix : List ℕ) → Option (List Question)
walked chain alias None prefix = walked_in chain alias [] prefix
walked chain alias (Some subsystem) prefix = if is_none subsystem then Some [] else walked_in chain alias subsystem prefix

-- the strings of a command, by its text; without one those of the device and its parents
abbrev pub asked_text : List Ancestor → (alias : Known) → Lookup → (text : Option (List ℕ)) → Option (List Question)
asked_text chain alias l None = walked chain alias l.subsystem l.prefix
asked_text chain alias l (Some text) = Some (record { parent = 0; text = l.prefix ++ text } ∷ [])

-- the strings that a command asks one after another, up to the first that has an answer, if they are known
abbrev pub asked_by : List Ancestor → (alias : Known) → Lookup → Option (List Question)
asked_by chain alias l = asked_text chain alias l l.text

-- the strings of a command whose words are followed
abbrev pub questions_by : List Ancestor → (alias : Known) → Option Lookup → Option (List Question)
questions_by chain alias None = None
questions_by chain alias (Some l) = asked_by chain alias l

-- what net_id asks for the owner of a device's address (`ieee_oui`)
abbrev pub address_strings : List Ancestor → List Question
address_strings [] = []
address_strings (own ∷ parents) = flat_map (λ (l : Asked). l.questions) (address_rule (record { own = own; chain = []; machine = [] }))

-- The strings of a command's text; None if its words aren't followed, or MODALIAS isn't known.
abbrev pub questions_of : List Ancestor → (alias : Known) → (text : List ℕ) → Option (List Question)
questions_of chain alias text = if is_net_id text then Some (address_strings chain) else questions_by chain alias (lookup_of (drop 1 (words text)))

-- the first answer
abbrev pub first_told : Tells → List Question → Told
first_told tells [] = []
first_told tells (q ∷ more) = if is_none (tells q.text) then first_told tells more else tells q.text

-- a property that an answer gives
abbrev pub given : List ℕ × List Assignment → Change
given t = Put t.0 (known_as t.0 (known_value (some_text (first_value t.1))))

-- an answer as what the command does: it fails without one
abbrev pub answered : Told → Effect
answered told = record { succeeds = Some (not (is_none told)); changes = map given told }

-- what strings do that are asked one after another, if they are known
abbrev pub asked_effect : Tells → Option (List Question) → Effect
asked_effect tells None = anything
asked_effect tells (Some questions) = answered (first_told tells questions)

-- what the builtin hwdb does, by what is known of MODALIAS and the text of its command
abbrev pub hwdb_effect : Tells → List Ancestor → (alias : Known) → (text : Option (List ℕ)) → Effect
hwdb_effect tells chain alias None = anything
hwdb_effect tells chain alias (Some text) = asked_effect tells (questions_of chain alias text)

-- ---- input_id

-- a property that is set to 1
abbrev pub put_one : (holds : Bool) → (name : List ℕ) → List Change
put_one holds name = if holds then Put name (Text (codes "1")) ∷ [] else []

-- of the other kinds nothing is known
abbrev pub other_kinds : List (List ℕ)
other_kinds =
    codes "ID_INPUT_KEY" ∷ codes "ID_INPUT_TABLET" ∷ codes "ID_INPUT_TOUCHSCREEN" ∷ codes "ID_INPUT_POINTINGSTICK" ∷ codes "ID_INPUT_SWITCH"
    ∷ codes "ID_INPUT_WIDTH_MM" ∷ codes "ID_INPUT_HEIGHT_MM" ∷ []

-- the kinds that are set
abbrev pub kinds_put : Kinds → List Change
kinds_put k =
    put_one k.mouse (codes "ID_INPUT_MOUSE") ++ (put_one k.touchpad (codes "ID_INPUT_TOUCHPAD")
    ++ (put_one k.joystick (codes "ID_INPUT_JOYSTICK") ++ put_one k.accelerometer (codes "ID_INPUT_ACCELEROMETER")))

-- what the builtin input_id does
abbrev pub input_effect : List Ancestor → Effect
input_effect chain =
    record {
      succeeds = Some true;
      changes = put_one (some has_events chain) (codes "ID_INPUT") ++ (kinds_put (kinds_by_bits no_kinds chain) ++ map Open other_kinds);
    }

-- ---- usb_id

-- an interface of a device on USB, that tells its class
abbrev pub is_interface : Ancestor → Bool
is_interface a = if is_in (codes "usb") a then uevent_is (codes "DEVTYPE=") (codes "usb_interface") a else false

-- the device on USB above the nearest interface, if that tells its class
abbrev pub above_interface : (parents : List Ancestor) → Option Ancestor
above_interface [] = None
above_interface (a ∷ more) =
    if is_interface a then (if is_some (attribute (codes "bInterfaceClass") a) then find is_usb_device more else None)
    else above_interface more

-- the device on USB of which usb_id tells: the device itself, or the one above its interface
abbrev pub usb_device_of : List Ancestor → Option Ancestor
usb_device_of [] = None
usb_device_of (own ∷ parents) = if is_usb_device own then Some own else above_interface parents

-- what it tells of its vendor and its product
abbrev pub numbers : Option Ancestor → Option (List ℕ) × Option (List ℕ)
numbers None = (None, None)
numbers (Some a) = (attribute (codes "idVendor") a, attribute (codes "idProduct") a)

-- the bus is set unless there is one
abbrev pub bus_put : Known → List Change
bus_put Unknown = Put (codes "ID_BUS") Unknown ∷ []
bus_put Missing = Put (codes "ID_BUS") (Text (codes "usb")) ∷ []
bus_put (Text bus) = []

-- the numbers are set with the bus
abbrev pub numbers_put : Known → (vendor product : List ℕ) → List Change
numbers_put Missing vendor product =
    Put (codes "ID_VENDOR_ID") (known_value (some_text vendor)) ∷ Put (codes "ID_MODEL_ID") (known_value (some_text product)) ∷ []
numbers_put bus vendor product = []

-- of the other properties nothing is known, nor of those that begin with ID_USB_
abbrev pub other_names : List (List ℕ)
other_names =
    codes "ID_INSTANCE" ∷ codes "ID_MODEL" ∷ codes "ID_MODEL_ENC" ∷ codes "ID_MODEL_ID" ∷ codes "ID_REVISION" ∷ codes "ID_SERIAL" ∷ codes "ID_SERIAL_SHORT"
    ∷ codes "ID_TYPE" ∷ codes "ID_VENDOR" ∷ codes "ID_VENDOR_ENC" ∷ codes "ID_VENDOR_ID" ∷ []

-- a property that may be set, or not
abbrev pub untold : List ℕ → Change
untold name = Put name Unknown

-- by what is known of the bus before it
abbrev pub usb_put : (bus : Known) → Option (List ℕ) × Option (List ℕ) → Effect
usb_put bus (Some vendor, Some product) =
    record { succeeds = Some true; changes = bus_put bus ++ ((Open (codes "ID_USB_") ∷ map untold other_names) ++ numbers_put bus vendor product) }
usb_put bus (Some vendor, None) = record { succeeds = Some false; changes = [] }
usb_put bus (None, product) = record { succeeds = Some false; changes = [] }

-- what the builtin usb_id does, by what is known of properties before it
abbrev pub usb_effect : List Ancestor → List Change → Effect
usb_effect chain cs = usb_put (value_in cs (codes "ID_BUS")) (numbers (usb_device_of chain))

-- ---- net_id

-- a property that an answer may give
abbrev pub may_give : List ℕ × List Assignment → Change
may_give t = untold t.0

-- what the builtin net_id does: it may set names of its own, and what the owner of the address gives
abbrev pub net_effect : Tells → List Ancestor → Effect
net_effect tells chain = record { succeeds = None; changes = map Open (may_set Builtins.NetId) ++ map may_give (first_told tells (address_strings chain)) }

-- ---- all commands

-- the first word of a command, as it is written
abbrev pub first_word : List ℕ → List ℕ
first_word command = take (word_len (unindented command)) (unindented command)

-- what a builtin does
abbrev pub builtin_effect : Tells → List Ancestor → Option Builtin → (text : Option (List ℕ)) → List Change → Effect
builtin_effect tells chain None text cs = anything
builtin_effect tells chain (Some Builtins.Hwdb) text cs = hwdb_effect tells chain (alias_told cs) text
builtin_effect tells chain (Some Builtins.InputId) text cs = input_effect chain
builtin_effect tells chain (Some Builtins.UsbId) text cs = usb_effect chain cs
builtin_effect tells chain (Some Builtins.NetId) text cs = net_effect tells chain
builtin_effect tells chain (Some builtin) text cs = may (may_set builtin)

-- what a program may do
abbrev pub program_effect : (command : List ℕ) → Effect
program_effect command = may_by (program_may_set command)

-- whether a token runs a program
abbrev pub is_program : TokenKind → Bool
is_program Tokens.ImportProgram = true
is_program kind = false

-- what is known of all commands of a device and its parents
abbrev pub commands : Tells → List Ancestor → Commands
commands tells chain t text cs =
    if is_program t.kind then program_effect t.value else builtin_effect tells chain (builtin_of (first_word t.value)) text cs
