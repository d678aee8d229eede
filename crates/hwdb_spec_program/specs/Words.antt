-- What words ask for.
use Rattle.std.specs.Prelude.{List, ◌⊎◌}
use Rattle.clap.specs.declared.error.kind.ErrorKind.TheVariants.{DisplayHelp, DisplayVersion}
use Rattle.clap.specs.Kinds.{IsAmong}
use Rattle.clap.specs.Walk.{Text}
use Rattle.clap.specs.Faults.{fault_of}
use Rattle.clap.specs.Simple.{matches_of, subcommand_of}
use Rattle.hwdb_spec_commands.specs.declared.job.Job.{Job}
use Rattle.hwdb_spec_commands.specs.Jobs.{IsJobOf}
use Rattle.hwdb_spec_commands.specs.WordFaults.{IsToldOfOne}
use Rattle.hwdb_spec_commands.specs.declared.job.WordsFault.{WordsFault}
use Rattle.hwdb_spec_commands.specs.CommandLine.{hwdb_app}

-- the words, the first of which is the program's name, ask for the job
abbrev pub AskFor : List Text → Job → Type 0
AskFor words = IsJobOf (matches_of hwdb_app words) (subcommand_of hwdb_app words)

-- they ask for help, or for the version: by the options, or by the word `help` and after it a command or nothing
abbrev pub AskForText : List Text → Type 0
AskForText words = IsAmong DisplayHelp (fault_of hwdb_app words) ⊎ IsAmong DisplayVersion (fault_of hwdb_app words)

-- they ask for no job, and this is told of them
abbrev pub AreToldBy : List Text → WordsFault → Type 0
AreToldBy words = IsToldOfOne (fault_of hwdb_app words)
