-- What the program does with a file system, by the job that its words ask for: `update` and `query` as systemd-hwdb(8) has them.
-- The other commands are our choice.
use Rattle.std.specs.Prelude.{◌≡◌, ◌≢◌, ◌⊎◌, ◌==◌, ◌&&◌, ℕ, Bool, true, false, not, is_some, length, List, [], ◌∷◌, map, option_map, string_bytes}
use Rattle.std.specs.Option.{option_map_or}
use Rattle.clap.specs.Faults.{fault_of}
use Rattle.hwdb_spec_commands.specs.CommandLine.{hwdb_app}
use Rattle.hwdb_spec_program.specs.Words.{AskFor, AskForText}
use Rattle.hwdb_spec_commands.specs.Given.{is_dash, any_dash, is_input}
use Rattle.hwdb_spec_program.specs.GivenDatabases.{names_input}
use Rattle.hwdb_spec_commands.specs.Runs.{AreKept, HasTaken, World}
use Rattle.hwdb_spec.specs.Store.{Contents, Outcomes}
use Rattle.hwdb_spec_commands.specs.declared.job.Task.TheVariants.{Ask, Check, Device, Diff, Dump, Explain, Keys, Near, Query, Record, Scan, Test, Update, Verify}
use Rattle.hwdb_spec_commands.specs.declared.job.Task.{Task}
use Rattle.hwdb_spec_commands.specs.declared.job.Job.{Job}
use Rattle.hwdb_spec_commands.specs.declared.args.UpdateArgs.{UpdateArgs}
use Rattle.hwdb_spec_commands.specs.Done.{IsLeftByUpdateLess}

-- the root in front of each path; nothing if none was given
abbrev pub root_of : Job → List ℕ
root_of job = option_map_or string_bytes job.root []

-- the task looks for files below the root: it is one that isn't told by name which it reads
abbrev pub looks_below_root : Task → Bool
looks_below_root (Ask a) = false
looks_below_root (Diff d) = false
looks_below_root (Check c) = length c.files.items == 0
looks_below_root (Near n) = length n.files.items == 0
looks_below_root (Verify v) = not (is_some v.database)
looks_below_root (Dump d) = not (is_some d.database)
looks_below_root (Test t) = not (is_some t.database)
looks_below_root (Record r) = not (is_some r.database)
looks_below_root (Keys k) = false
looks_below_root (Scan s) = not (is_dash (string_bytes s.device))
looks_below_root _ = true

-- the task answers the devices that standard input names, each as it comes
abbrev pub streams : Task → Bool
streams (Query q) = is_input (map string_bytes q.devices.items)
streams (Explain e) = is_input (string_bytes e.device ∷ [])
streams _ = false

-- the task is an update
abbrev pub is_update : Task → Bool
is_update (Update u) = true
is_update _ = false

-- a job answers from the text files: it has `--text`, and is no update
abbrev pub asks_text : Job → Bool
asks_text job = job.text && not (is_update job.task)

-- the words ask for help or the version, a text that standard output took; nothing else changed
pub record IsTold (words : List (List ℕ)) (before now : World) : Type 0 where
  pub asked : AskForText words
  pub text : List ℕ
  pub some : text ≢ []
  pub printed : HasTaken text before.out now.out
  pub err : now.err ≡ before.err
  pub kept : AreKept before.files now.files

-- the task reads standard input
abbrev pub reads_input : Task → Bool
reads_input (Query q) = is_input (map string_bytes q.devices.items)
reads_input (Explain e) = is_dash (string_bytes e.device)
reads_input (Ask a) = is_dash (string_bytes a.file)
reads_input (Check c) = any_dash (map string_bytes c.files.items)
reads_input (Near n) = any_dash (map string_bytes n.files.items)
reads_input (Test t) = any_dash (map string_bytes t.files.items)
reads_input (Record r) = is_input (map string_bytes r.devices.items)
reads_input (Diff d) = any_dash (string_bytes d.old ∷ string_bytes d.new ∷ map string_bytes d.devices.items)
reads_input (Verify v) = names_input (option_map string_bytes v.database)
reads_input (Dump d) = names_input (option_map string_bytes d.database)
reads_input (Scan s) = true
reads_input (Device d) = names_input (option_map string_bytes d.from)
reads_input _ = false

-- the task is an update
abbrev pub IsUpdate : Task → Type 0
IsUpdate task = (u : UpdateArgs) × (task ≡ Update u)

-- it leaves out what can't be read
abbrev pub skips : Task → Bool
skips (Update u) = u.skip_unreadable
skips _ = false

-- during a job: only an update leaves anything new
abbrev pub OldOrDone : (MayFail : (path : List ℕ) → Type 0) → Job → (old : Contents) (outcomes : Outcomes) → Outcomes
OldOrDone MayFail job old outcomes p v = outcomes p v ⊎ (IsUpdate job.task × IsLeftByUpdateLess MayFail (root_of job) job.usr (skips job.task) old p v)

-- during a run of the program with these words
abbrev pub OldOrAskedFor : (MayFail : (path : List ℕ) → Type 0) (words : List (List ℕ)) (old : Contents) (outcomes : Outcomes) → Outcomes
OldOrAskedFor MayFail words old outcomes p v =
    outcomes p v ⊎ ((job : Job) × AskFor words job × (fault_of hwdb_app words ≡ []) × OldOrDone MayFail job old outcomes p v)
