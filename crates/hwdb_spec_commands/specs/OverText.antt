-- `--text`: a command answers from the text files of both folders, as an update would compile them now. It is done over the files
-- as they are, but that the database of /etc has the bytes that the update would write. The option is our choice.
use Rattle.std.specs.Prelude.{Bool, List, Some, false, [], if◌then◌else◌, string_bytes, true, ℕ}
use Rattle.std.specs.Str.{bytes_eq}
use Rattle.hwdb_spec_commands.specs.Asked.{database_path}
use Rattle.hwdb_spec.specs.Folders.{Source}
use Rattle.hwdb_spec_commands.specs.Given.{is_dash}
use Rattle.hwdb_spec_commands.specs.Replacements.{replacements_form}
use Rattle.hwdb_spec_commands.specs.Runs.{Files, Told, World}
use Rattle.hwdb_spec.specs.Store.{Contents, database_file}
use Rattle.hwdb_spec_commands.specs.declared.job.Task.TheVariants.{Explain}
use Rattle.hwdb_spec_commands.specs.declared.job.Task.{Task}

-- the files as they are, but that the database of /etc below a root, which is asked first, has these bytes
unfoldable pub with_database : (root bytes : List ℕ) → Contents → Contents
with_database root bytes contents path = if bytes_eq path (database_path false root) then Some (database_file bytes) else contents path

-- a store of files with that database
abbrev pub files_over : (root bytes : List ℕ) → Files → Files
files_over root bytes files = record { seen = with_database root bytes files.seen; fails = files.fails; left = files.left; failures = files.failures }

-- what a run sees or leaves, with that database
abbrev pub world_over : (root bytes : List ℕ) → World → World
world_over root bytes world = record { files = files_over root bytes world.files; input = world.input; out = world.out; err = world.err; devices = world.devices }

-- the same, but that standard output took this
abbrev pub with_out : Told → World → World
with_out out world = record { files = world.files; input = world.input; out = out; err = world.err; devices = world.devices }

-- what is said besides of one device, unless standard input names it
abbrev pub said_besides : (dash : Bool) → (text : List ℕ) → List ℕ
said_besides true text = []
said_besides false text = text

-- what a task prints after what it prints of the database: `explain` says what the files have and the database has not
abbrev pub text_besides : Task → (etc usr : List Source) → List ℕ
text_besides (Explain e) etc usr =
    let device = string_bytes e.device in
    said_besides (is_dash device) (replacements_form e.json device etc usr)
text_besides task etc usr = []
