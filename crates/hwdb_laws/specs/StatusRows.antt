-- Worked rows of what `status` says, and of what `update` says if there are no text files: whole reports, in each state, the command that
-- is told, and how a shell reads it (POSIX, Shell Command Language, 2.2).
use Rattle.std.specs.Prelude.{◌++◌, ◌∷◌, ◌≡◌, Bool, List, None, Option, Some, [], codes, false, map, true, ℕ}
use Rattle.hwdb_spec_commands.specs.Commands.{removing_words, shell_word, update_words}
use Rattle.hwdb_spec_commands.specs.Emptied.{loss_text}
use Rattle.hwdb_spec.specs.Folders.{Choice}
use Rattle.hwdb_spec_commands.specs.Status.{Amount, Report, ignored_paths, is_bare, masked_paths, path_asked, path_hidden, remedy_of, report_form, report_of, status_of}
use Rattle.hwdb_spec_commands.specs.Status.Amount.{Counted, Uncounted}
use Rattle.hwdb_spec_commands.specs.Status.State.{Alike, Broken, Fresh, Missing, Stale}

-- ---- commands for a shell

-- Safe bytes are bare. Others are between single quotes, in which a single quote itself can't be.
abbrev pub WordRows : Type 0
WordRows =
    map shell_word (codes "/r/etc" ∷ codes "a b" ∷ codes "it's" ∷ codes "$(x)" ∷ [] ∷ [])
    ≡ codes "/r/etc" ∷ codes "'a b'" ∷ codes "'it'\\''s'" ∷ codes "'$(x)'" ∷ codes "''" ∷ []

-- the root is one word, also after `--root=`, and a path is never an option
abbrev pub CommandRows : Type 0
CommandRows =
    update_words false [] ∷ update_words true (codes "/r") ∷ update_words false (codes "a b") ∷ removing_words (codes "a b") ∷ removing_words (codes "-r") ∷ []
    ≡ codes "hwdb update" ∷ codes "hwdb update --usr --root=/r" ∷ codes "hwdb update --root='a b'" ∷ codes "rm 'a b/etc/udev/hwdb.bin'"
    ∷ codes "rm ./-r/etc/udev/hwdb.bin" ∷ []

-- ---- which database, and which text files

-- that of /etc is asked first, and hides that of /usr/lib if both are there
abbrev pub AskedRows : Type 0
AskedRows =
    path_asked [] true true ∷ path_asked [] false true ∷ path_asked [] false false ∷ path_hidden (codes "/r") true true ∷ path_hidden [] true false ∷ path_hidden [] false true ∷ []
    ≡ Some (codes "/etc/udev/hwdb.bin") ∷ Some (codes "/usr/lib/udev/hwdb.bin") ∷ None ∷ Some (codes "/r/usr/lib/udev/hwdb.bin") ∷ None ∷ None ∷ []

-- a chosen file
abbrev pub chosen : (from_etc : Bool) (name : List ℕ) → Choice
chosen from_etc name = record { from_etc = from_etc; name = name; priority = 1 }

-- A file of /etc masks that of its name in /usr/lib alone. Ignored files ascend, those of /etc first.
abbrev pub FileRows : Type 0
FileRows =
    masked_paths (codes "a.hwdb" ∷ codes "c.hwdb" ∷ []) (chosen true (codes "a.hwdb") ∷ chosen true (codes "b.hwdb") ∷ chosen false (codes "c.hwdb") ∷ [])
    ∷ ignored_paths (codes "z" ∷ codes "a.txt" ∷ []) (codes "b" ∷ [])
    ∷ []
    ≡ (codes "/usr/lib/udev/hwdb.d/a.hwdb" ∷ [])
    ∷ (codes "/etc/udev/hwdb.d/a.txt" ∷ codes "/etc/udev/hwdb.d/z" ∷ codes "/usr/lib/udev/hwdb.d/b" ∷ [])
    ∷ []

-- without a chosen file there are no text files
abbrev pub BareRows : Type 0
BareRows = map is_bare ([] ∷ (chosen true (codes "a.hwdb") ∷ []) ∷ []) ≡ true ∷ false ∷ []

-- ---- the command that is told

-- what is in a database
abbrev pub some_amount : Option Amount
some_amount = Some (Counted 1 2 300)

abbrev pub no_amount : Option Amount
no_amount = Some (Counted 0 0 164)

-- Nothing is told of a fresh database that hides none. A hidden one is made anew, and what hides it is removed.
abbrev pub RemedyRows : Type 0
RemedyRows =
    remedy_of [] true false false Fresh None ∷ remedy_of [] true false false Alike None ∷ remedy_of [] true false false Missing None
    ∷ remedy_of [] true false false (Stale 1 []) None ∷ remedy_of [] false true false Broken None ∷ remedy_of (codes "/r") true true false Fresh some_amount ∷ []
    ≡ None ∷ None ∷ Some (codes "hwdb update") ∷ Some (codes "hwdb update") ∷ Some (codes "hwdb update --usr")
    ∷ Some (codes "hwdb update --usr --root=/r && rm /r/etc/udev/hwdb.bin") ∷ []

-- Without text files no command makes a database empty: at most one that assigns nothing is removed, if it hides one that does.
abbrev pub BareRemedyRows : Type 0
BareRemedyRows =
    remedy_of [] true true true Fresh some_amount ∷ remedy_of [] true true true Broken some_amount ∷ remedy_of [] true true true (Stale 2 []) some_amount
    ∷ remedy_of [] true true true Fresh no_amount ∷ remedy_of [] true false true Missing None ∷ []
    ≡ Some (codes "rm /etc/udev/hwdb.bin") ∷ Some (codes "rm /etc/udev/hwdb.bin") ∷ None ∷ None ∷ None ∷ []

-- ---- whole reports

-- a fresh database of two files
abbrev pub fresh_report : Report
fresh_report = report_of [] true false some_amount None [] [] false Fresh

-- a stale one that hides another, with a masked and an ignored file
abbrev pub stale_report : Report
stale_report =
    report_of (codes "/r") true true some_amount (Some (Uncounted 7)) (codes "/usr/lib/udev/hwdb.d/a.hwdb" ∷ []) (codes "/etc/udev/hwdb.d/a.txt" ∷ []) false
    (Stale 3 (codes "+\ta*\tK=1\tf:2\n"))

-- none at all, one that another tool wrote, one without text files, and bytes that are no database
abbrev pub missing_report : Report
missing_report = report_of [] false false None None [] [] false Missing

abbrev pub alike_report : Report
alike_report = report_of [] false true some_amount None [] [] false Alike

abbrev pub bare_report : Report
bare_report = report_of [] true false no_amount None [] [] true Fresh

abbrev pub broken_report : Report
broken_report = report_of [] true false (Some (Uncounted 1)) None [] [] false Broken

-- as text
abbrev pub TextRows : Type 0
TextRows =
    map (report_form false false) (fresh_report ∷ stale_report ∷ missing_report ∷ alike_report ∷ bare_report ∷ broken_report ∷ [])
    ≡ codes "database: /etc/udev/hwdb.bin\nholds: 1 file, 2 assignments, 300 bytes\nstate: fresh\n"
    ∷ (codes "database: /r/etc/udev/hwdb.bin\nholds: 1 file, 2 assignments, 300 bytes\nhides: /r/usr/lib/udev/hwdb.bin\nholds: 7 bytes\n"
    ++ (codes "masked: /usr/lib/udev/hwdb.d/a.hwdb\nignored: /etc/udev/hwdb.d/a.txt\nstate: stale\nchanges: 3\nfirst: +\ta*\tK=1\tf:2\n"
    ++ codes "run: hwdb update --usr --root=/r && rm /r/etc/udev/hwdb.bin\n"))
    ∷ codes "database: none\nstate: missing\nrun: hwdb update\n"
    ∷ codes "database: /usr/lib/udev/hwdb.bin\nholds: 1 file, 2 assignments, 300 bytes\nstate: fresh (written by another tool)\n"
    ∷ codes "database: /etc/udev/hwdb.bin\nholds: 0 files, 0 assignments, 164 bytes\nstate: empty (there are no text files)\n"
    ∷ codes "database: /etc/udev/hwdb.bin\nholds: 1 byte\nstate: no database\nrun: hwdb update\n"
    ∷ []

-- as JSON, and nothing if the status says all
abbrev pub JsonRows : Type 0
JsonRows =
    report_form true false stale_report ∷ report_form true false bare_report ∷ report_form true false alike_report ∷ report_form false true stale_report ∷ []
    ≡ (codes "{\"database\":\"/r/etc/udev/hwdb.bin\",\"holds\":{\"files\":1,\"assignments\":2,\"bytes\":300},\"hides\":\"/r/usr/lib/udev/hwdb.bin\",\"hidden\":{\"bytes\":7},"
    ++ codes "\"masked\":[\"/usr/lib/udev/hwdb.d/a.hwdb\"],\"ignored\":[\"/etc/udev/hwdb.d/a.txt\"],\"state\":\"stale\",\"changes\":3,\"first\":\"+\\ta*\\tK=1\\tf:2\",\"run\":\"hwdb update --usr --root=/r && rm /r/etc/udev/hwdb.bin\"}\n")
    ∷ codes "{\"database\":\"/etc/udev/hwdb.bin\",\"holds\":{\"files\":0,\"assignments\":0,\"bytes\":164},\"hides\":null,\"hidden\":null,\"masked\":[],\"ignored\":[],\"state\":\"empty\",\"text_files\":\"none\"}\n"
    ∷ codes "{\"database\":\"/usr/lib/udev/hwdb.bin\",\"holds\":{\"files\":1,\"assignments\":2,\"bytes\":300},\"hides\":null,\"hidden\":null,\"masked\":[],\"ignored\":[],\"state\":\"fresh\",\"written_by\":\"another tool\"}\n"
    ∷ []
    ∷ []

-- the status is 0 if the database is fresh, hides none, and there are text files
abbrev pub StatusRows : Type 0
StatusRows =
    map status_of (fresh_report ∷ stale_report ∷ missing_report ∷ alike_report ∷ bare_report ∷ broken_report ∷ report_of [] true true some_amount some_amount [] [] false Fresh ∷ [])
    ≡ 0 ∷ 1 ∷ 1 ∷ 0 ∷ 1 ∷ 1 ∷ 1 ∷ []

-- ---- an update without text files

-- What is lost is told: of /etc's own database and of the one that it hides; with `--usr` of that alone.
abbrev pub LossRows : Type 0
LossRows =
    loss_text [] false true true ∷ loss_text (codes "a b") true true true ∷ loss_text [] false false false ∷ []
    ≡ (codes "/etc/udev/hwdb.bin becomes empty: there are no text files. Bring them back, and then run: hwdb update\n"
    ++ codes "/etc/udev/hwdb.bin is empty and hides /usr/lib/udev/hwdb.bin: there are no text files. To use that one, run: rm /etc/udev/hwdb.bin\n")
    ∷ codes "a b/usr/lib/udev/hwdb.bin becomes empty: there are no text files. Bring them back, and then run: hwdb update --usr --root='a b'\n"
    ∷ []
    ∷ []
