-- What is told of words that ask for nothing, by the kinds of error that `clap` may give at them.
use Rattle.std.specs.Prelude.{⊤, ◌≡◌, ◌≢◌, ◌⊎◌, List, [], string_bytes}
use Rattle.clap.specs.declared.error.kind.ErrorKind.TheVariants.{DisplayHelp, DisplayVersion, OutOfMemory}
use Rattle.clap.specs.declared.error.kind.ErrorKind.{ErrorKind}
use Rattle.clap.specs.Kinds.{IsAmong, Kinds}
use Rattle.clap.specs.Walk.{Text}
use Rattle.clap.specs.Faults.{fault_of}
use Rattle.hwdb_spec_commands.specs.declared.job.WordsFault.TheVariants.{Help, Memory, Usage}
use Rattle.hwdb_spec_commands.specs.declared.job.WordsFault.{WordsFault}
use Rattle.hwdb_spec_commands.specs.CommandLine.{hwdb_app}

-- help or the version is told if it was asked for, and usage at any other error of the words; the text isn't empty
abbrev pub IsToldOf : ErrorKind → WordsFault → Type 0
IsToldOf kind (Help text) = ((kind ≡ DisplayHelp) ⊎ (kind ≡ DisplayVersion)) × (string_bytes text ≢ [])
IsToldOf kind (Usage text) = ((kind ≢ DisplayHelp) × (kind ≢ DisplayVersion) × (kind ≢ OutOfMemory)) × (string_bytes text ≢ [])
IsToldOf kind Memory = ⊤

-- the same, of one of the kinds that may come
abbrev pub IsToldOfOne : Kinds → WordsFault → Type 0
IsToldOfOne kinds (Help text) = (IsAmong DisplayHelp kinds ⊎ IsAmong DisplayVersion kinds) × (string_bytes text ≢ [])
IsToldOfOne kinds (Usage text) = ((kind : ErrorKind) × (kind ≢ DisplayHelp) × (kind ≢ DisplayVersion) × IsAmong kind kinds) × (string_bytes text ≢ [])
IsToldOfOne kinds Memory = ⊤

-- the command doesn't take the words, and they ask neither for help nor for the version
abbrev pub AreWrong : List Text → Type 0
AreWrong words = (fault_of hwdb_app words ≢ []) × (IsAmong DisplayHelp (fault_of hwdb_app words) → ⊥) × (IsAmong DisplayVersion (fault_of hwdb_app words) → ⊥)
