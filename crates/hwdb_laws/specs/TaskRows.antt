-- Worked rows of tasks: which of them read standard input, look below the root, take `--text`, or leave files out, as COMMANDS of hwdb(8) has
-- them; the status of an error; and what `explain --text` says besides.
use Rattle.std.specs.Prelude.{◌+◌, ◌++◌, ◌∷◌, ◌≡◌, Bool, List, None, Option, Some, String, Vec, [], codes, false, length, map, string_bytes, true, ℕ}
use Rattle.std.specs.declared.alloc.Global.{Global}
use Rattle.hwdb_plan.specs.Folders.{Texts, with_texts}
use Rattle.hwdb_plan.specs.OverText.{replaced_of}
use Rattle.hwdb_spec.specs.Folders.{Source}
use Rattle.hwdb_spec_commands.specs.OverText.{text_besides, with_out, world_over}
use Rattle.hwdb_spec_program.specs.Program.{asks_text, looks_below_root, reads_input, root_of, skips, streams}
use Rattle.hwdb_spec_commands.specs.Replacements.{replacements_form}
use Rattle.hwdb_spec_commands.specs.Runs.{Files, Told, World, files_by, told_by, world_by}
use Rattle.hwdb_spec_commands.specs.DeviceTree.{Sight}
use Rattle.hwdb_spec.specs.Store.{Contents, database_file}
use Rattle.hwdb_spec_program.specs.TaskRefusals.{refused_status, with_err}
use Rattle.hwdb_spec_commands.specs.declared.job.Job.{Job}
use Rattle.hwdb_spec_commands.specs.declared.job.Task.{Task}
use Rattle.hwdb_spec_commands.specs.declared.args.ReviewArgs.{ReviewArgs}
use Rattle.hwdb_spec_commands.specs.declared.job.Task.TheVariants.{Ask, Check, Device, Diff, Dump, Explain, Keys, List as ListHits, Near, Query, Record, Scan, Status, Test, Update, Verify}

-- ---- tasks, by what their words ask for

abbrev pub update : (verbose skip : Bool) → Task
update verbose skip = Update (record { verbose = verbose; skip_unreadable = skip })

abbrev pub query : Vec (String Global) Global → (json : Bool) → Task
query devices json = Query (record { devices = devices; json = json })

abbrev pub explain : String Global → (json : Bool) → Task
explain device json = Explain (record { device = device; json = json })

abbrev pub ask : (file device : String Global) → Task
ask file device = Ask (record { file = file; device = device })

abbrev pub list_all : String Global → Task
list_all device = ListHits (record { after = None; limit = None; device = device; json = false })

abbrev pub check : (files allowed : Vec (String Global) Global) → Task
check files allowed = Check (record { files = files; rules = false; allowed = allowed; json = false; format = None; diff = false; name = None; baseline = None })

abbrev pub near : Vec (String Global) Global → String Global → Task
near files device = Near (record { files = files; device = device; limit = None; json = false })

abbrev pub test : Vec (String Global) Global → Option (String Global) → Task
test files database = Test (record { files = files; database = database; json = false })

abbrev pub recording : Vec (String Global) Global → Option (String Global) → Task
recording devices database = Record (record { devices = devices; database = database; json = false })

abbrev pub devices : Task
devices = Device (record { path = None; strings = false; json = false; pattern = false; all = false; from = None; udev = None; why = false })

-- globs are no files, whatever they are
abbrev pub reviewing : (globs : Vec (String Global) Global) → ReviewArgs
reviewing globs = record { json = false; stat = false; format = None; verbose = false; samples = false; only = globs; without = globs; prefixes = globs }

abbrev pub diff : (old new : String Global) → Vec (String Global) Global → Task
diff old new given = Diff (record { old = old; new = new; devices = given; review = reviewing given })

abbrev pub verify : Option (String Global) → Task
verify database = Verify (record { database = database })

abbrev pub dump : Option (String Global) → Task
dump database = Dump (record { database = database })

abbrev pub status : Task
status = Status (record { json = false })

abbrev pub keys : Vec (String Global) Global → Task
keys words = Keys (record { words = words; json = false })

abbrev pub scan : String Global → Task
scan device = Scan (record { device = device; count = None })

-- ---- tasks that name no file

abbrev pub PlainRows : Type 0
PlainRows =
    (map looks_below_root (update true false ∷ status ∷ verify None ∷ dump None ∷ devices ∷ []) ≡ true ∷ true ∷ true ∷ true ∷ true ∷ [])
    × (map reads_input (update true false ∷ status ∷ verify None ∷ dump None ∷ devices ∷ []) ≡ false ∷ false ∷ false ∷ false ∷ false ∷ [])
    × (map streams (update true false ∷ verify None ∷ []) ≡ false ∷ false ∷ [])
    × (map skips (update true true ∷ update true false ∷ verify None ∷ []) ≡ true ∷ false ∷ false ∷ [])
    × (map refused_status (update true true ∷ verify None ∷ []) ≡ 1 ∷ 1 ∷ [])

-- ---- tasks with a word

-- The word is `-`: who takes it reads standard input. `query` and `explain` answer its lines as they come.
abbrev pub DashRows : Type 0
DashRows =
    (word other : String Global) (words : Vec (String Global) Global) → string_bytes word ≡ codes "-" → string_bytes other ≡ codes "f" → map string_bytes words.items ≡ codes "-" ∷ []
    → reads_input (query words false) ∷ reads_input (explain word false) ∷ reads_input (ask word other) ∷ reads_input (ask other word) ∷ reads_input (list_all word) ∷ reads_input (check words words)
    ∷ reads_input (near words other) ∷ reads_input (test words None) ∷ reads_input (recording words None) ∷ reads_input (verify (Some word)) ∷ reads_input (dump (Some word)) ∷ streams (query words true) ∷ streams (explain word true)
    ∷ streams (ask word other) ∷ []
    ≡ true ∷ true ∷ true ∷ false ∷ false ∷ true ∷ true ∷ true ∷ true ∷ true ∷ true ∷ true ∷ true ∷ false ∷ []

-- Of `scan` the device below the root is read in place of standard input. With `-` it is none below the root.
abbrev pub ScanRows : Type 0
ScanRows =
    (word other : String Global) → string_bytes word ≡ codes "-" → string_bytes other ≡ codes "f"
    → looks_below_root (scan word) ∷ looks_below_root (scan other) ∷ reads_input (scan word) ∷ reads_input (scan other) ∷ streams (scan word) ∷ [] ≡ false ∷ true ∷ true ∷ true ∷ false ∷ []

-- It is another one.
abbrev pub OtherRows : Type 0
OtherRows =
    (word : String Global) (words : Vec (String Global) Global) → string_bytes word ≡ codes "f" → map string_bytes words.items ≡ codes "f" ∷ codes "g" ∷ []
    → reads_input (query words false) ∷ reads_input (explain word false) ∷ reads_input (ask word word) ∷ reads_input (check words words) ∷ reads_input (near words word)
    ∷ reads_input (test words None) ∷ reads_input (recording words None) ∷ reads_input (diff word word words) ∷ reads_input (verify (Some word)) ∷ reads_input (dump (Some word)) ∷ streams (query words true) ∷ streams (explain word true) ∷ []
    ≡ false ∷ false ∷ false ∷ false ∷ false ∷ false ∷ false ∷ false ∷ false ∷ false ∷ false ∷ false ∷ []

-- Each of the three of `diff` may be it.
abbrev pub DiffRows : Type 0
DiffRows =
    (word other : String Global) (words others : Vec (String Global) Global) → string_bytes word ≡ codes "-" → string_bytes other ≡ codes "f" → map string_bytes words.items ≡ codes "g" ∷ codes "-" ∷ [] → map string_bytes others.items ≡ []
    → reads_input (diff word other others) ∷ reads_input (diff other word others) ∷ reads_input (diff other other words) ∷ reads_input (diff other other others) ∷ []
    ≡ true ∷ true ∷ true ∷ false ∷ []

-- Files and databases that are named are no files below the root, and `keys` reads none. Of `diff` an error has status 2.
abbrev pub NamedRows : Type 0
NamedRows =
    (word : String Global) (words none : Vec (String Global) Global) → length words.items ≡ 1 → length none.items ≡ 0
    → (looks_below_root (check words words) ∷ looks_below_root (check none words) ∷ looks_below_root (near words word) ∷ looks_below_root (near none word)
    ∷ looks_below_root (test words (Some word)) ∷ looks_below_root (test words None) ∷ looks_below_root (recording words (Some word)) ∷ looks_below_root (recording words None) ∷ looks_below_root (verify (Some word)) ∷ looks_below_root (dump (Some word)) ∷ looks_below_root (ask word word)
    ∷ looks_below_root (diff word word words) ∷ looks_below_root (keys words) ∷ looks_below_root (query words false) ∷ [])
    ≡ false ∷ true ∷ false ∷ true ∷ false ∷ true ∷ false ∷ true ∷ false ∷ false ∷ false ∷ false ∷ false ∷ true ∷ []

abbrev pub StatusRows : Type 0
StatusRows =
    (word : String Global) (words : Vec (String Global) Global)
    → refused_status (diff word word words) ∷ refused_status (check words words) ∷ refused_status (query words false) ∷ [] ≡ 2 ∷ 2 ∷ 1 ∷ []

-- ---- jobs

-- what words ask for: a task, with `--text` or without, below a root or not
abbrev pub job_of : (text : Bool) → Option (String Global) → Task → Job
job_of text root task = record { usr = false; strict = false; text = text; misfit = None; reload = false; root = root; color = None; task = task }

-- `--text` counts, but at an update. Without a root nothing is in front of a path.
abbrev pub JobRows : Type 0
JobRows =
    (root : String Global) → string_bytes root ≡ codes "/r"
    → (asks_text (job_of true None (verify None)) ∷ asks_text (job_of false None (verify None)) ∷ asks_text (job_of true None (update false false)) ∷ [] ≡ true ∷ false ∷ false ∷ [])
    × (root_of (job_of false (Some root) (verify None)) ∷ root_of (job_of false None (verify None)) ∷ [] ≡ codes "/r" ∷ [] ∷ [])

-- ---- explain --text

-- A file of /etc masks one of /usr/lib, and a later file replaces what the first gave.
abbrev pub of_etc : List Source
of_etc = record { name = codes "2.hwdb"; bytes = codes "a\n K=2\n" } ∷ record { name = codes "1.hwdb"; bytes = codes "a\n K=1\n" } ∷ []

abbrev pub of_usr : List Source
of_usr = record { name = codes "1.hwdb"; bytes = codes "a\n K=0\n" } ∷ []

-- what was replaced, by what, and which file isn't read
abbrev pub ReplacedRows : Type 0
ReplacedRows =
    replacements_form false (codes "a") of_etc of_usr ∷ replacements_form true (codes "a") of_etc of_usr ∷ replacements_form false (codes "b") of_etc [] ∷ []
    ≡ codes "replaced K=1\n    /etc/udev/hwdb.d/1.hwdb:2  a\n  by K=2\n    /etc/udev/hwdb.d/2.hwdb:2  a\nmasked: /usr/lib/udev/hwdb.d/1.hwdb\n"
    ∷ (codes "{\"device\":\"a\",\"replaced\":{\"key\":\"K\",\"value\":\"1\",\"path\":\"/etc/udev/hwdb.d/1.hwdb\",\"line\":2,\"pattern\":\"a\"},"
    ++ codes "\"by\":{\"key\":\"K\",\"value\":\"2\",\"path\":\"/etc/udev/hwdb.d/2.hwdb\",\"line\":2,\"pattern\":\"a\"}}\n{\"masked\":\"/usr/lib/udev/hwdb.d/1.hwdb\"}\n")
    ∷ [] ∷ []

-- the same files as they are read: of the one that isn't, the name alone is known
abbrev pub as_read : Texts
as_read =
    with_texts (codes "1.hwdb" ∷ [])
    (record { from_etc = true; name = codes "1.hwdb"; priority = 1 } ∷ record { from_etc = true; name = codes "2.hwdb"; priority = 2 } ∷ [])
    (codes "a\n K=1\n" ∷ codes "a\n K=2\n" ∷ [])

-- so says the plan
abbrev pub ReadRows : Type 0
ReadRows =
    replaced_of false (codes "a") as_read ∷ replaced_of true (codes "b") as_read ∷ []
    ≡ codes "replaced K=1\n    /etc/udev/hwdb.d/1.hwdb:2  a\n  by K=2\n    /etc/udev/hwdb.d/2.hwdb:2  a\nmasked: /usr/lib/udev/hwdb.d/1.hwdb\n"
    ∷ codes "{\"masked\":\"/usr/lib/udev/hwdb.d/1.hwdb\"}\n" ∷ []

-- It is said of one device, and not of those that standard input names. No other task says anything besides.
abbrev pub BesidesRows : Type 0
BesidesRows =
    (device dash : String Global) → string_bytes device ≡ codes "a" → string_bytes dash ≡ codes "-"
    → text_besides (explain device false) [] of_usr ∷ text_besides (explain dash false) of_etc of_usr ∷ text_besides (verify None) of_etc of_usr ∷ text_besides (explain device true) of_etc of_usr ∷ []
    ≡ [] ∷ [] ∷ [] ∷ replacements_form true (codes "a") of_etc of_usr ∷ []

-- ---- what a run sees

-- a device of which so many calls failed
abbrev pub failed : ℕ → Told
failed n = told_by (λ (n : ℕ). Some (n ∷ [])) (λ n. n + 1) n

-- a store with these files, of which five calls failed
abbrev pub some_files : Contents → Files
some_files seen = files_by (λ (d : ℕ). seen) (λ d path. Unit {0}) (λ d path file. file ≡ seen path) (λ d. d) 5

-- a run over such a store
abbrev pub some_world : Sight → Contents → World
some_world sight seen = world_by (λ (d : ℕ). sight) (λ d. some_files seen) failed failed failed 0 1 2 3

-- Each part tells its own.
abbrev pub ToldRows : Type 0
ToldRows =
    (sight : Sight) (seen : Contents)
    → ((some_world sight seen).input ≡ record { bytes = Some (1 ∷ []); failures = 2 }) × ((some_world sight seen).out ≡ failed 2) × ((some_world sight seen).err ≡ failed 3)
    × ((some_world sight seen).devices ≡ sight) × ((some_world sight seen).files.seen ≡ seen) × ((some_world sight seen).files.failures ≡ 5)

-- `--text` changes the database of /etc alone.
abbrev pub OverRows : Type 0
OverRows =
    (sight : Sight) (seen : Contents)
    → ((world_over (codes "/r") (codes "new") (some_world sight seen)).files.seen (codes "/r/etc/udev/hwdb.bin") ≡ Some (database_file (codes "new")))
    × ((world_over (codes "/r") (codes "new") (some_world sight seen)).files.seen (codes "/etc/udev/hwdb.bin") ≡ seen (codes "/etc/udev/hwdb.bin"))
    × ((world_over (codes "/r") (codes "new") (some_world sight seen)).files.failures ≡ 5) × ((world_over (codes "/r") (codes "new") (some_world sight seen)).input ≡ failed 1)
    × ((world_over (codes "/r") (codes "new") (some_world sight seen)).out ≡ failed 2) × ((world_over (codes "/r") (codes "new") (some_world sight seen)).err ≡ failed 3)
    × ((world_over (codes "/r") (codes "new") (some_world sight seen)).devices ≡ sight)

-- What standard output took, or standard error, is that alone.
abbrev pub TakenRows : Type 0
TakenRows =
    (sight : Sight) (seen : Contents)
    → ((with_out (failed 9) (some_world sight seen)).out ≡ failed 9) × ((with_out (failed 9) (some_world sight seen)).err ≡ failed 3) × ((with_out (failed 9) (some_world sight seen)).input ≡ failed 1)
    × ((with_err (failed 9) (some_world sight seen)).err ≡ failed 9) × ((with_err (failed 9) (some_world sight seen)).out ≡ failed 2) × ((with_err (failed 9) (some_world sight seen)).input ≡ failed 1)
    × ((with_out (failed 9) (some_world sight seen)).files.seen ≡ seen) × ((with_err (failed 9) (some_world sight seen)).files.seen ≡ seen)
    × ((with_out (failed 9) (some_world sight seen)).devices ≡ sight) × ((with_err (failed 9) (some_world sight seen)).devices ≡ sight)
