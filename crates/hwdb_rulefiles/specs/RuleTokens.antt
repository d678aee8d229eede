-- What a pair says, after `parse_token` and `rule_line_add_token` of udev-rules.c (systemd 257). Whether an owner or a group is
-- there isn't asked: a line with one that isn't there is kept, unlike by udev. A priority is read as a decimal number.
use Rattle.std.specs.Prelude.{List, [], ◌∷◌, Bool, true, false, if◌then◌else◌, ℕ, ◌==◌, ◌+◌, nat_le, nat_eq, drop, take, length, codes, not, slice_index, Option, Some, None}
use Rattle.std.specs.List.{prefix_len, position_or_len, starts_with}
use Rattle.std.specs.Str.{bytes_eq}
use Rattle.hwdb_spec.specs.Lines.{byte, is_none}
use Rattle.hwdb_rulefiles.specs.RuleText.{is_white, unindented}
use Rattle.hwdb_rulefiles.specs.RulePairs.{Pair}
use Rattle.hwdb_rulefiles.specs.RuleKeys.{key_of, form_fault, or_else, compares, is_taken_as_set, operator_for}
use Rattle.hwdb_rulefiles.specs.declared.findings.FindingKind.{FindingKind}
use Rattle.hwdb_rulefiles.specs.declared.findings.FindingKind.TheVariants.{UnknownKey, FixedProperty, IdleName, UnknownBuiltin, WrongOption, UnknownOption}
use Rattle.hwdb_rulefiles.specs.declared.pairs.Operator.{Operator}
use Rattle.hwdb_rulefiles.specs.declared.keys.Key.{Key}
use Rattle.hwdb_rulefiles.specs.declared.keys.Key.TheVariants as Keys
use Rattle.hwdb_rulefiles.specs.declared.tokens.TokenKind.{TokenKind}
use Rattle.hwdb_rulefiles.specs.declared.tokens.TokenKind.TheVariants as Kinds

-- a token of a line: its type, what is in braces, the operator, whether capitals count not, and the value
pub record Token : Type 0 where
  pub kind : TokenKind
  pub attribute : List ℕ
  pub operator : Operator
  pub folds : Bool
  pub value : List ℕ

-- What a pair says. The line is left out, or the pair is; it adds a token, also with = in place of its operator; the line gets a name, or
-- jumps to one.
pub data Verdict : Type 0 where
  Refused : FindingKind → Verdict
  Ignored : FindingKind → Verdict
  Taken : Token → Verdict
  TakenAsSet : Token → Verdict
  Label : List ℕ → Verdict
  Goto : List ℕ → Verdict

-- properties of a device that udev sets itself
abbrev pub is_fixed_device : List ℕ → Bool
is_fixed_device text =
    if bytes_eq text (codes "DEVLINKS") then true else (if bytes_eq text (codes "DEVNAME") then true else (if bytes_eq text (codes "DEVPATH") then true else (if bytes_eq text (codes "DEVTYPE") then true else (if bytes_eq text (codes "DRIVER") then true else bytes_eq text (codes "IFINDEX")))))

-- properties of an event that udev sets itself
abbrev pub is_fixed_event : List ℕ → Bool
is_fixed_event text =
    if bytes_eq text (codes "ACTION") then true else (if bytes_eq text (codes "MAJOR") then true else (if bytes_eq text (codes "MINOR") then true else (if bytes_eq text (codes "SEQNUM") then true else (if bytes_eq text (codes "SUBSYSTEM") then true else bytes_eq text (codes "TAGS")))))

-- properties that no rule can set (`device_property_can_set`)
abbrev pub is_fixed : List ℕ → Bool
is_fixed name = if is_fixed_device name then true else is_fixed_event name

-- how long the first word of a text is
abbrev pub word_len : List ℕ → ℕ
word_len text = position_or_len is_white text

-- the text begins the name of a builtin (`builtins` of udev-builtin.c)
abbrev pub begins_early : List ℕ → Bool
begins_early text =
    if starts_with nat_eq (codes "blkid") text then true else (if starts_with nat_eq (codes "btrfs") text then true else (if starts_with nat_eq (codes "hwdb") text then true else (if starts_with nat_eq (codes "input_id") text then true else (if starts_with nat_eq (codes "keyboard") text then true else starts_with nat_eq (codes "kmod") text))))

-- more builtins
abbrev pub begins_late : List ℕ → Bool
begins_late text =
    if starts_with nat_eq (codes "net_driver") text then true else (if starts_with nat_eq (codes "net_id") text then true else (if starts_with nat_eq (codes "net_setup_link") text then true else (if starts_with nat_eq (codes "path_id") text then true else (if starts_with nat_eq (codes "usb_id") text then true else starts_with nat_eq (codes "uaccess") text))))

-- builtins that came after systemd 257
abbrev pub begins_new : List ℕ → Bool
begins_new text =
    if starts_with nat_eq (codes "dissect_image") text then true else (if starts_with nat_eq (codes "factory_reset") text then true else starts_with nat_eq (codes "tpm2_id") text)

-- Whether a command is one that udev has built in (`udev_builtin_lookup`): its first word may be shortened.
abbrev pub begins_builtin : List ℕ → Bool
begins_builtin word = if begins_early word then true else (if begins_late word then true else begins_new word)

abbrev pub is_builtin : List ℕ → Bool
is_builtin command = begins_builtin (take (word_len (unindented command)) (unindented command))

-- a level of messages, or `reset`
abbrev pub is_level_name : List ℕ → Bool
is_level_name text =
    if bytes_eq text (codes "reset") then true else (if bytes_eq text (codes "emerg") then true else (if bytes_eq text (codes "alert") then true else (if bytes_eq text (codes "crit") then true else bytes_eq text (codes "err"))))

-- a lower level
abbrev pub is_low_level_name : List ℕ → Bool
is_low_level_name text =
    if bytes_eq text (codes "warning") then true else (if bytes_eq text (codes "notice") then true else (if bytes_eq text (codes "info") then true else bytes_eq text (codes "debug")))

abbrev pub is_level_digit : List ℕ → Bool
is_level_digit text = if length text == 1 then (if nat_le (byte "0") (slice_index text 0) then nat_le (slice_index text 0) (byte "7") else false) else false

-- a level of messages, by its name or its number
abbrev pub is_level : List ℕ → Bool
is_level text = if is_level_name text then true else (if is_low_level_name text then true else is_level_digit text)

abbrev pub is_digit : ℕ → Bool
is_digit b = if nat_le (byte "0") b then nat_le b (byte "9") else false

abbrev pub digits_len : List ℕ → ℕ
digits_len text = prefix_len is_digit text

-- one to nine digits
abbrev pub is_count : List ℕ → Bool
is_count text = if digits_len text == length text then (if is_none text then false else nat_le (length text) 9) else false

-- a number with a sign or without
abbrev pub is_priority : List ℕ → Bool
is_priority text =
    if starts_with nat_eq text (codes "-") then is_count (drop 1 text) else (if starts_with nat_eq text (codes "+") then is_count (drop 1 text) else is_count text)

-- what is wrong with the value of OPTIONS
abbrev pub option_fault : List ℕ → Option FindingKind
option_fault value =
    if starts_with nat_eq value (codes "link_priority=") then (if is_priority (drop 14 value) then None else Some WrongOption)
    else (if starts_with nat_eq value (codes "log_level=") then (if is_level (drop 10 value) then None else Some WrongOption) else None)

-- the type of an option
abbrev pub option_kind : List ℕ → Option TokenKind
option_kind value =
    if bytes_eq value (codes "string_escape=none") then Some Kinds.EscapeNone
    else (if bytes_eq value (codes "string_escape=replace") then Some Kinds.EscapeReplace
    else (if bytes_eq value (codes "db_persist") then Some Kinds.DbPersist
    else (if bytes_eq value (codes "watch") then Some Kinds.Watch
    else (if bytes_eq value (codes "nowatch") then Some Kinds.Watch
    else (if starts_with nat_eq value (codes "static_node=") then Some Kinds.StaticNode
    else (if starts_with nat_eq value (codes "link_priority=") then Some Kinds.LinkPriority
    else (if starts_with nat_eq value (codes "log_level=") then Some Kinds.LogLevel
    else None)))))))

-- whether an attribute is a word
abbrev pub is_word : Option (List ℕ) → List ℕ → Bool
is_word None word = false
is_word (Some text) word = bytes_eq text word

-- the type of an IMPORT; a program whose name is a builtin's is that builtin
abbrev pub import_kind : Option (List ℕ) → (value : List ℕ) → TokenKind
import_kind attribute value =
    if is_word attribute (codes "file") then Kinds.ImportFile
    else (if is_word attribute (codes "db") then Kinds.ImportDb
    else (if is_word attribute (codes "cmdline") then Kinds.ImportCmdline
    else (if is_word attribute (codes "parent") then Kinds.ImportParent
    else (if is_builtin value then Kinds.ImportBuiltin
    else Kinds.ImportProgram))))

-- the type of a token that is compared
abbrev pub match_kind : Key → TokenKind
match_kind Keys.Action = Kinds.MatchAction
match_kind Keys.Devpath = Kinds.MatchDevpath
match_kind Keys.Kernel = Kinds.MatchKernel
match_kind Keys.Symlink = Kinds.MatchDevlink
match_kind Keys.Name = Kinds.MatchName
match_kind Keys.Env = Kinds.MatchEnv
match_kind Keys.Const = Kinds.MatchConst
match_kind Keys.Tag = Kinds.MatchTag
match_kind Keys.Subsystem = Kinds.MatchSubsystem
match_kind Keys.Driver = Kinds.MatchDriver
match_kind Keys.Attr = Kinds.MatchAttr
match_kind Keys.Sysctl = Kinds.MatchSysctl
match_kind Keys.Kernels = Kinds.ParentsKernel
match_kind Keys.Subsystems = Kinds.ParentsSubsystem
match_kind Keys.Drivers = Kinds.ParentsDriver
match_kind Keys.Attrs = Kinds.ParentsAttr
match_kind Keys.Tags = Kinds.ParentsTag
match_kind Keys.Test = Kinds.MatchTest
match_kind Keys.ProgramResult = Kinds.MatchResult
match_kind key = Kinds.MatchProgram

-- the type of a token that sets something
abbrev pub set_kind : Key → TokenKind
set_kind Keys.Symlink = Kinds.Devlink
set_kind Keys.Name = Kinds.Name
set_kind Keys.Env = Kinds.Env
set_kind Keys.Tag = Kinds.Tag
set_kind Keys.Attr = Kinds.Attr
set_kind Keys.Sysctl = Kinds.Sysctl
set_kind Keys.Owner = Kinds.Owner
set_kind Keys.Group = Kinds.Group
set_kind Keys.Mode = Kinds.Mode
set_kind Keys.Seclabel = Kinds.Seclabel
set_kind Keys.Program = Kinds.MatchProgram
set_kind key = Kinds.RunProgram

abbrev pub run_kind : Option (List ℕ) → TokenKind
run_kind attribute = if is_word attribute (codes "builtin") then Kinds.RunBuiltin else Kinds.RunProgram

-- the type of a token; None if it is an option that isn't known
abbrev pub kind_of : Key → (attribute : Option (List ℕ)) → Operator → (value : List ℕ) → Option TokenKind
kind_of Keys.Options attribute o value = option_kind value
kind_of Keys.Import attribute o value = Some (import_kind attribute value)
kind_of Keys.Run attribute o value = Some (run_kind attribute)
kind_of key attribute o value = if compares o then Some (match_kind key) else Some (set_kind key)

abbrev pub fixed_fault : Option (List ℕ) → Option FindingKind
fixed_fault None = None
fixed_fault (Some name) = if is_fixed name then Some FixedProperty else None

-- a property that udev sets itself is set
abbrev pub env_fault : Option (List ℕ) → Operator → Option FindingKind
env_fault attribute o = if compares o then None else fixed_fault attribute

-- a network interface gets no name, or the kernel's
abbrev pub name_fault : Operator → (value : List ℕ) → Option FindingKind
name_fault o value = if compares o then None else (if is_none value then Some IdleName else (if bytes_eq value (codes "%k") then Some IdleName else None))

-- a builtin isn't known
abbrev pub builtin_fault : Option (List ℕ) → (value : List ℕ) → Option FindingKind
builtin_fault attribute value = if is_word attribute (codes "builtin") then (if is_builtin value then None else Some UnknownBuiltin) else None

-- what is wrong with the value of a pair
abbrev pub value_fault : Key → Option (List ℕ) → Operator → (value : List ℕ) → Option FindingKind
value_fault Keys.Env attribute o value = env_fault attribute o
value_fault Keys.Name attribute o value = name_fault o value
value_fault Keys.Import attribute o value = builtin_fault attribute value
value_fault Keys.Run attribute o value = builtin_fault attribute value
value_fault Keys.Options attribute o value = option_fault value
value_fault key attribute o value = None

-- what is in braces, or no text
abbrev pub attribute_text : Option (List ℕ) → List ℕ
attribute_text None = []
attribute_text (Some text) = text

abbrev pub with_kind : Key → Pair → Option TokenKind → Verdict
with_kind key p None = Ignored UnknownOption
with_kind key p (Some kind) =
    let t : Token = record { kind = kind; attribute = attribute_text p.attribute; operator = operator_for key p.operator; folds = p.folds; value = p.value } in
    if is_taken_as_set key p.operator then TakenAsSet t else Taken t

-- the token of a pair of which nothing is wrong
abbrev pub token_for : Key → Pair → Verdict
token_for key p = with_kind key p (kind_of key p.attribute p.operator p.value)

-- what a pair says of which nothing is wrong
abbrev pub accepted : Key → Pair → Verdict
accepted Keys.Goto p = Goto p.value
accepted Keys.Label p = Label p.value
accepted key p = token_for key p

abbrev pub with_fault : Option FindingKind → Verdict → Verdict
with_fault (Some kind) v = Refused kind
with_fault None v = v

abbrev pub with_key : Pair → Option Key → Verdict
with_key p None = Refused UnknownKey
with_key p (Some key) =
    with_fault (or_else (form_fault key p.attribute p.operator p.folds) (value_fault key p.attribute p.operator p.value)) (accepted key p)

-- what a pair says
abbrev pub judge : Pair → Verdict
judge p = with_key p (key_of p.key)
