-- Which errors end a task, and when each comes. What it leaves: the files, standard output, and what standard error had taken
-- before the error's line. Our choice.
use Rattle.std.specs.Prelude.{◌≡◌, ◌≢◌, ◌⊎◌, ℕ, true, List, [], Some, option_map, string_bytes, codes}
use Rattle.clap.specs.Faults.{fault_of}
use Rattle.hwdb_spec_commands.specs.CommandLine.{hwdb_app}
use Rattle.hwdb_spec_program.specs.Words.{AskFor, AskForText, AreToldBy}
use Rattle.hwdb_spec_commands.specs.declared.job.Job.{Job}
use Rattle.hwdb_spec_commands.specs.declared.job.Task.TheVariants.{Check, Diff}
use Rattle.hwdb_spec_commands.specs.declared.job.Task.{Task}
use Rattle.hwdb_spec_commands.specs.declared.job.WordsFault.TheVariants as words_fault
use Rattle.hwdb_spec_commands.specs.declared.job.WordsFault.{WordsFault}
use Rattle.hwdb_spec.specs.Failures.{IsOneLine}
use Rattle.hwdb_spec_commands.specs.Runs.{AreKept, Told, WasCut, World}
use Rattle.hwdb_spec.specs.declared.errors.ToolError.TheVariants.{Memory, Write}
use Rattle.hwdb_spec_program.specs.Program.{IsTold, looks_below_root}
use Rattle.hwdb_spec_commands.specs.Refusals.{HasReason, IsAt, IsUnentered, Refused, refusal_line, refusal_text}
use Rattle.hwdb_spec_commands.specs.declared.refusals.Refusal.TheVariants.{Plain}
use Rattle.hwdb_spec_commands.specs.declared.refusals.Refusal.{Refusal}

-- the status of an error: 2 of `diff` and `check`, whose 1 says that something changed or was found; else 1
abbrev pub refused_status : Task → ℕ
refused_status (Diff d) = 2
refused_status (Check c) = 2
refused_status _ = 1

-- what is said of an error: if standard output fails and the system tells why, that it can't be written
abbrev pub IsSaidOf : (refusal said : Refusal) → Type 0
IsSaidOf refusal said = (said ≡ refusal) ⊎ ((refusal ≡ Plain Write) × IsAt Write (codes "standard output") said)

-- standard error took the line of an error, or, if it failed, a prefix of it; the words of its cause are on that line
pub record IsSaid (refusal : Refusal) (before now : Told) : Type 0 where
  pub said : Refusal
  pub of : IsSaidOf refusal said
  pub words : List ℕ
  pub one_line : IsOneLine words
  pub line : Refused (refusal_line (refusal_text said words)) before.bytes now.bytes before.failures now.failures

-- what a run leaves but for standard error, on which a line comes yet
abbrev pub with_err : Told → World → World
with_err err world = record { files = world.files; input = world.input; out = world.out; err = err; devices = world.devices }

-- what is told of words that ask for no job; help and the version are told, but standard output failed
abbrev pub IsWordsTold : WordsFault → (before now : World) → Type 0
IsWordsTold (words_fault.Help text) before now = WasCut (string_bytes text) before.out now.out × IsSaid (Plain Write) before.err now.err
IsWordsTold (words_fault.Usage text) before now =
    Refused (string_bytes text) before.err.bytes now.err.bytes before.err.failures now.err.failures × (now.out ≡ before.out)
IsWordsTold words_fault.Memory before now = IsSaid (Plain Memory) before.err now.err × (now.out ≡ before.out)

-- the words ask for no job, the status is 1, and the files are as they were
pub record AreRefused (words : List (List ℕ)) (status : ℕ) (before now : World) : Type 0 where
  pub fault : WordsFault
  pub of : AreToldBy words fault
  pub told : IsWordsTold fault before now
  pub kept : AreKept before.files now.files
  pub says : status ≡ 1

-- The words ask for help or the version, and while it was written the reader of standard output went away. Nothing is said of it.
pub record IsTextCutShort (gone : Type 0) (words : List (List ℕ)) (before now : World) : Type 0 where
  pub asked : AskForText words
  pub text : List ℕ
  pub some : text ≢ []
  pub cut : WasCut text before.out now.out
  pub kept : AreKept before.files now.files
  pub err : now.err ≡ before.err
  pub reader : gone

-- the words have a fault, as the command line has it: they are wrong, or they ask for help or the version
abbrev pub AreFaulty : (words : List (List ℕ)) → Type 0
AreFaulty words = fault_of hwdb_app words ≢ []

-- Their status is 0: help or the version was told. Or the reader of standard output went away while it was.
abbrev pub AreTold : (gone : Type 0) (words : List (List ℕ)) → (before now : World) → Type 0
AreTold gone words before now = IsTold words before now ⊎ IsTextCutShort gone words before now

-- the root that was given, below which the task looks for files, can't be read
abbrev pub IsRootUnread : Job → Refusal → Type 0
IsRootUnread job refusal = (root : List ℕ) × (option_map string_bytes job.root ≡ Some root) × (looks_below_root job.task ≡ true) × IsUnentered root refusal

-- the words ask for a job below such a root: the status is an error's, the files are as they were, standard error took the line
pub record IsRootRefused (words : List (List ℕ)) (status : ℕ) (before now : World) : Type 0 where
  pub job : Job
  pub asked : AskFor words job
  pub faultless : fault_of hwdb_app words ≡ []
  pub refusal : Refusal
  pub unread : IsRootUnread job refusal
  pub reason : HasReason before.files.fails ⊥ before.files.seen refusal
  pub kept : AreKept before.files now.files
  pub said : IsSaid refusal before.err now.err
  pub out : now.out ≡ before.out
  pub says : status ≡ refused_status job.task
