-- Worked rows of the command line: what is read of the words of each command, with each of its options, as SYNOPSIS of hwdb(8) has them, and
-- which words are refused. Words are read as getopt_long(3) reads them.
use Rattle.std.specs.Prelude.{◌∷◌, ◌≡◌, Bool, List, None, Option, Some, [], codes, false, map, true}
use Rattle.clap.specs.Faults.{fault_of}
use Rattle.clap.specs.Kinds.{Kinds}
use Rattle.clap.specs.Simple.{matches_of, subcommand_of}
use Rattle.clap.specs.declared.error.kind.ErrorKind.TheVariants.{ArgumentConflict, DisplayHelp, DisplayVersion, InvalidSubcommand, InvalidValue, MissingRequiredArgument, MissingSubcommand, UnknownArgument, ValueValidation}
use Rattle.clap.specs.Walk.{Row, Rule, Text, all_of}
use Rattle.hwdb_spec_commands.specs.CommandLine.{after_rule, count_rule, device_rule, hwdb_app, limit_rule}
use Rattle.hwdb_spec_commands.specs.Jobs.{has_flag, takes_number}

-- ---- what commands take

-- what is read of some words: the command, which of some options are there, and the values of each of some names
abbrev pub Reading : Type 0
Reading = Text × List Bool × List (Option (List Text))

abbrev pub read_of : (flags names : List Text) → Option (Text × List Row) → Reading
read_of flags names None = ([], [], [])
read_of flags names (Some found) = (found.0, map (λ id. has_flag id found.1) flags, map (λ id. all_of id found.1) names)

abbrev pub read : (words flags names : List Text) → Reading
read words flags names = read_of flags names (subcommand_of hwdb_app (codes "hwdb" ∷ words))

-- Options of all commands, in each spelling, and those of `update`.
abbrev pub UpdateRows : Type 0
UpdateRows =
    read (codes "update" ∷ codes "--usr" ∷ codes "-s" ∷ codes "--root=/r" ∷ codes "--color" ∷ codes "never" ∷ codes "--verbose" ∷ codes "--skip-unreadable" ∷ codes "--check" ∷ [])
    (codes "usr" ∷ codes "strict" ∷ codes "verbose" ∷ codes "skip-unreadable" ∷ codes "check" ∷ []) (codes "root" ∷ codes "color" ∷ [])
    ≡ (codes "update", true ∷ true ∷ true ∷ true ∷ true ∷ [], Some (codes "/r" ∷ []) ∷ Some (codes "never" ∷ []) ∷ [])

-- none of them
abbrev pub BareUpdateRows : Type 0
BareUpdateRows =
    read (codes "update" ∷ [])
    (codes "usr" ∷ codes "strict" ∷ codes "verbose" ∷ codes "skip-unreadable" ∷ codes "check" ∷ []) (codes "root" ∷ codes "color" ∷ [])
    ≡ (codes "update", false ∷ false ∷ false ∷ false ∷ false ∷ [], None ∷ None ∷ [])

-- several device strings; what comes after `--` is one
abbrev pub QueryRows : Type 0
QueryRows =
    read (codes "query" ∷ codes "--json" ∷ codes "a" ∷ codes "--text" ∷ codes "--reload" ∷ codes "--" ∷ codes "--b" ∷ [])
    (codes "json" ∷ codes "text" ∷ codes "reload" ∷ codes "usr" ∷ []) (codes "MODALIAS" ∷ [])
    ≡ (codes "query", true ∷ true ∷ true ∷ false ∷ [], Some (codes "a" ∷ codes "--b" ∷ []) ∷ [])

abbrev pub ExplainRows : Type 0
ExplainRows =
    read (codes "explain" ∷ codes "--text" ∷ codes "a" ∷ codes "--json" ∷ [])
    (codes "json" ∷ codes "text" ∷ []) (codes "MODALIAS" ∷ [])
    ≡ (codes "explain", true ∷ true ∷ [], Some (codes "a" ∷ []) ∷ [])

abbrev pub AskRows : Type 0
AskRows =
    read (codes "ask" ∷ codes "f" ∷ codes "-r/r" ∷ codes "a" ∷ [])
    (codes "strict" ∷ []) (codes "FILE" ∷ codes "MODALIAS" ∷ codes "root" ∷ [])
    ≡ (codes "ask", false ∷ [], Some (codes "f" ∷ []) ∷ Some (codes "a" ∷ []) ∷ Some (codes "/r" ∷ []) ∷ [])

abbrev pub ListRows : Type 0
ListRows =
    read (codes "list" ∷ codes "--after" ∷ codes "3:17::" ∷ codes "--limit=10" ∷ codes "--text" ∷ codes "--json" ∷ codes "a" ∷ [])
    (codes "json" ∷ codes "text" ∷ []) (codes "after" ∷ codes "limit" ∷ codes "MODALIAS" ∷ [])
    ≡ (codes "list", true ∷ true ∷ [], Some (codes "3:17::" ∷ []) ∷ Some (codes "10" ∷ []) ∷ Some (codes "a" ∷ []) ∷ [])

-- the last word is the device string, and those before it are files
abbrev pub NearRows : Type 0
NearRows =
    read (codes "near" ∷ codes "--limit" ∷ codes "7" ∷ codes "f" ∷ codes "--text" ∷ codes "g" ∷ codes "--json" ∷ codes "a" ∷ [])
    (codes "json" ∷ codes "text" ∷ []) (codes "limit" ∷ codes "MODALIAS" ∷ [])
    ≡ (codes "near", true ∷ true ∷ [], Some (codes "7" ∷ []) ∷ Some (codes "f" ∷ codes "g" ∷ codes "a" ∷ []) ∷ [])

abbrev pub DeviceRows : Type 0
DeviceRows =
    read (codes "device" ∷ codes "--strings" ∷ codes "--pattern" ∷ codes "--json" ∷ codes "--text" ∷ codes "event3" ∷ [])
    (codes "strings" ∷ codes "pattern" ∷ codes "json" ∷ codes "text" ∷ []) (codes "DEVICE" ∷ [])
    ≡ (codes "device", true ∷ true ∷ true ∷ true ∷ [], Some (codes "event3" ∷ []) ∷ [])

-- without one all devices are listed
abbrev pub BareDeviceRows : Type 0
BareDeviceRows =
    read (codes "device" ∷ [])
    (codes "strings" ∷ codes "pattern" ∷ codes "json" ∷ codes "text" ∷ []) (codes "DEVICE" ∷ [])
    ≡ (codes "device", false ∷ false ∷ false ∷ false ∷ [], None ∷ [])

-- a kind each time
abbrev pub CheckRows : Type 0
CheckRows =
    read (codes "check" ∷ codes "--allow" ∷ codes "unread" ∷ codes "f" ∷ codes "--allow=near-name" ∷ codes "--json" ∷ codes "g" ∷ [])
    (codes "json" ∷ []) (codes "allow" ∷ codes "FILE" ∷ [])
    ≡ (codes "check", true ∷ [], Some (codes "unread" ∷ codes "near-name" ∷ []) ∷ Some (codes "f" ∷ codes "g" ∷ []) ∷ [])

abbrev pub TestRows : Type 0
TestRows =
    read (codes "test" ∷ codes "--database" ∷ codes "d" ∷ codes "--text" ∷ codes "--json" ∷ codes "f" ∷ codes "g" ∷ [])
    (codes "json" ∷ codes "text" ∷ []) (codes "database" ∷ codes "FILE" ∷ [])
    ≡ (codes "test", true ∷ true ∷ [], Some (codes "d" ∷ []) ∷ Some (codes "f" ∷ codes "g" ∷ []) ∷ [])

-- a file of devices each time
abbrev pub DiffRows : Type 0
DiffRows =
    read (codes "diff" ∷ codes "--devices" ∷ codes "d" ∷ codes "--stat" ∷ codes "old" ∷ codes "--json" ∷ codes "--devices=e" ∷ codes "new" ∷ [])
    (codes "stat" ∷ codes "json" ∷ []) (codes "devices" ∷ codes "OLD" ∷ codes "NEW" ∷ [])
    ≡ (codes "diff", true ∷ true ∷ [], Some (codes "d" ∷ codes "e" ∷ []) ∷ Some (codes "old" ∷ []) ∷ Some (codes "new" ∷ []) ∷ [])

-- globs and prefixes, each as often as wanted
abbrev pub ReviewRows : Type 0
ReviewRows =
    read (codes "diff" ∷ codes "--only" ∷ codes "6*" ∷ codes "--not=20-*" ∷ codes "old" ∷ codes "--not" ∷ codes "30-*" ∷ codes "--prefix" ∷ codes "evdev:" ∷ codes "new" ∷ codes "--format" ∷ codes "lines" ∷ codes "--verbose" ∷ [])
    (codes "verbose" ∷ codes "stat" ∷ []) (codes "only" ∷ codes "not" ∷ codes "prefix" ∷ codes "format" ∷ codes "OLD" ∷ codes "NEW" ∷ [])
    ≡ (codes "diff", true ∷ false ∷ [], Some (codes "6*" ∷ []) ∷ Some (codes "20-*" ∷ codes "30-*" ∷ []) ∷ Some (codes "evdev:" ∷ []) ∷ Some (codes "lines" ∷ []) ∷ Some (codes "old" ∷ []) ∷ Some (codes "new" ∷ []) ∷ [])

abbrev pub VerifyRows : Type 0
VerifyRows =
    read (codes "verify" ∷ codes "--text" ∷ codes "d" ∷ [])
    (codes "text" ∷ []) (codes "DATABASE" ∷ [])
    ≡ (codes "verify", true ∷ [], Some (codes "d" ∷ []) ∷ [])

abbrev pub DumpRows : Type 0
DumpRows =
    read (codes "dump" ∷ codes "d" ∷ codes "--text" ∷ [])
    (codes "text" ∷ []) (codes "DATABASE" ∷ [])
    ≡ (codes "dump", true ∷ [], Some (codes "d" ∷ []) ∷ [])

abbrev pub StatusRows : Type 0
StatusRows =
    read (codes "status" ∷ codes "--json" ∷ codes "-s" ∷ codes "-r" ∷ codes "/r" ∷ [])
    (codes "json" ∷ codes "usr" ∷ codes "strict" ∷ []) (codes "root" ∷ [])
    ≡ (codes "status", true ∷ false ∷ true ∷ [], Some (codes "/r" ∷ []) ∷ [])

abbrev pub KeysRows : Type 0
KeysRows =
    read (codes "keys" ∷ codes "super" ∷ codes "--json" ∷ codes "f1" ∷ [])
    (codes "json" ∷ []) (codes "WORD" ∷ [])
    ≡ (codes "keys", true ∷ [], Some (codes "super" ∷ codes "f1" ∷ []) ∷ [])

-- A count is a value of its own, before the device or after it.
abbrev pub ScanRows : Type 0
ScanRows =
    read (codes "scan" ∷ codes "event4" ∷ codes "--count" ∷ codes "2" ∷ [])
    [] (codes "DEVICE" ∷ codes "count" ∷ [])
    ≡ (codes "scan", [], Some (codes "event4" ∷ []) ∷ Some (codes "2" ∷ []) ∷ [])

-- which options take a number: of `list` and `near` the limit, of `scan` the count
abbrev pub NumberRows : Type 0
NumberRows = map (λ (a : Rule). takes_number a.parser) (limit_rule ∷ count_rule ∷ after_rule ∷ device_rule ∷ []) ≡ true ∷ true ∷ false ∷ false ∷ []

-- Options before the command are its own too.
abbrev pub BeforeRows : Type 0
BeforeRows =
    map (λ id. has_flag id (matches_of hwdb_app (codes "hwdb" ∷ codes "--usr" ∷ codes "-r" ∷ codes "/r" ∷ codes "status" ∷ []))) (codes "usr" ∷ codes "strict" ∷ [])
    ≡ true ∷ false ∷ []

-- ---- what is refused

-- what is wrong with some words
abbrev pub wrong : (words : List Text) → Kinds
wrong words = fault_of hwdb_app (codes "hwdb" ∷ words)

-- no command, one that isn't there, a word that is missing or too many, an option that isn't there, one twice, and a value that is missing
-- or no number. A word that is no command may be told as one of two kinds.
abbrev pub WrongRows : Type 0
WrongRows =
    map wrong
    ([] ∷ (codes "frob" ∷ []) ∷ (codes "query" ∷ []) ∷ (codes "ask" ∷ codes "f" ∷ []) ∷ (codes "status" ∷ codes "x" ∷ []) ∷ (codes "status" ∷ codes "--text" ∷ [])
    ∷ (codes "status" ∷ codes "--json" ∷ codes "--json" ∷ []) ∷ (codes "status" ∷ codes "--root" ∷ []) ∷ (codes "list" ∷ codes "--limit" ∷ codes "x" ∷ codes "a" ∷ []) ∷ [])
    ≡ (MissingSubcommand ∷ []) ∷ (UnknownArgument ∷ InvalidSubcommand ∷ []) ∷ (MissingRequiredArgument ∷ []) ∷ (MissingRequiredArgument ∷ []) ∷ (UnknownArgument ∷ []) ∷ (UnknownArgument ∷ [])
    ∷ (ArgumentConflict ∷ []) ∷ (InvalidValue ∷ []) ∷ (ValueValidation ∷ []) ∷ []

-- Nothing is wrong with words that ask, and help and the version are asked for.
abbrev pub RightRows : Type 0
RightRows =
    map wrong ((codes "status" ∷ []) ∷ (codes "query" ∷ codes "-" ∷ []) ∷ (codes "list" ∷ codes "--limit" ∷ codes "18446744073709551615" ∷ codes "a" ∷ []) ∷ (codes "--version" ∷ []) ∷ (codes "diff" ∷ codes "-h" ∷ []) ∷ [])
    ≡ [] ∷ [] ∷ [] ∷ (DisplayVersion ∷ []) ∷ (DisplayHelp ∷ []) ∷ []
