-- Worked rows of `--text`: which commands take it, which of their words don't fit it, and what is said of these.
use Rattle.std.specs.Prelude.{◌∷◌, ◌≡◌, List, None, Option, Some, [], codes, map}
use Rattle.clap.specs.Simple.{subcommand_of}
use Rattle.clap.specs.Walk.{Row, Text}
use Rattle.hwdb_spec_commands.specs.CommandLine.{hwdb_app}
use Rattle.hwdb_spec_commands.specs.Jobs.{text_taker}

-- what the command of some words is to `--text`
abbrev pub found_taker : Option (Text × List Row) → Option (Option Text)
found_taker None = None
found_taker (Some found) = text_taker found.0 found.1

abbrev pub taker : (words : List Text) → Option (Option Text)
taker words = found_taker (subcommand_of hwdb_app (codes "hwdb" ∷ words))

-- what doesn't fit
abbrev pub files : Option (Option Text)
files = Some (Some (codes "--text and FILE are two sources: leave out one of them"))

abbrev pub database : Option (Option Text)
database = Some (Some (codes "--text and DATABASE are two sources: leave out one of them"))

-- A path of a database beside `--text` is a second source, whatever it is, and none is fine.
abbrev pub VerifyRows : Type 0
VerifyRows = taker (codes "verify" ∷ codes "-" ∷ []) ∷ taker (codes "verify" ∷ []) ∷ [] ≡ database ∷ Some None ∷ []

abbrev pub DumpRows : Type 0
DumpRows = taker (codes "dump" ∷ codes "hwdb.bin" ∷ []) ∷ taker (codes "dump" ∷ []) ∷ [] ≡ database ∷ Some None ∷ []

abbrev pub TestRows : Type 0
TestRows =
    taker (codes "test" ∷ codes "f" ∷ codes "--database=b" ∷ []) ∷ taker (codes "test" ∷ codes "f" ∷ [])
    ∷ [] ≡ Some (Some (codes "--text and --database are two sources: leave out one of them")) ∷ Some None ∷ []

-- The last word of `near` is the device, and no file.
abbrev pub NearRows : Type 0
NearRows = taker (codes "near" ∷ codes "f" ∷ codes "a" ∷ []) ∷ taker (codes "near" ∷ codes "a" ∷ []) ∷ [] ≡ files ∷ Some None ∷ []

-- `device` needs a device: a list asks no database
abbrev pub DeviceRows : Type 0
DeviceRows =
    taker (codes "device" ∷ codes "--json" ∷ []) ∷ taker (codes "device" ∷ codes "event3" ∷ []) ∷ taker (codes "device" ∷ codes "--all" ∷ codes "--strings" ∷ [])
    ∷ [] ≡ Some (Some (codes "--text needs DEVICE or --all: a list of devices asks no database")) ∷ Some None ∷ Some None ∷ []

-- what takes `--text` asks a database; the others don't
abbrev pub TakenRows : Type 0
TakenRows =
    map taker
    ((codes "query" ∷ codes "a" ∷ codes "b" ∷ []) ∷ (codes "explain" ∷ codes "a" ∷ []) ∷ (codes "list" ∷ codes "a" ∷ []) ∷ (codes "status" ∷ []) ∷ (codes "update" ∷ []) ∷ (codes "ask" ∷ codes "f" ∷ codes "a" ∷ [])
    ∷ (codes "check" ∷ []) ∷ (codes "diff" ∷ codes "a" ∷ codes "b" ∷ []) ∷ (codes "keys" ∷ []) ∷ (codes "scan" ∷ codes "-" ∷ []) ∷ [])
    ≡ Some None ∷ Some None ∷ Some None ∷ None ∷ None ∷ None ∷ None ∷ None ∷ None ∷ None ∷ []
