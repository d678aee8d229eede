-- Worked rows of files: where the databases and the text files are below a root (systemd-hwdb(8)), which of them count, which files words
-- name, what calls of a store leave (POSIX, rename and fsync), and what an update leaves out.
use Rattle.std.specs.Prelude.{◌*◌, ◌++◌, ◌∷◌, ◌≡◌, List, None, Option, Some, [], codes, false, if◌then◌else◌, map, true, ℕ}
use Rattle.std.specs.Str.{bytes_eq}
use Rattle.hwdb_spec_commands.specs.AnsweredLines.{answered_lines, end_after, line_error}
use Rattle.hwdb_spec_commands.specs.Asked.{named_database}
use Rattle.hwdb_spec.specs.Blocks.{block_bytes}
use Rattle.hwdb_spec.specs.Crashes.{Event, after_events, begin, contents_after, outcomes_after}
use Rattle.hwdb_spec.specs.Crashes.Event.{moved, names_synced, put, removed, synced}
use Rattle.hwdb_spec.specs.Folders.{Choice, FaultIn}
use Rattle.hwdb_spec_commands.specs.Given.{any_dash, is_input}
use Rattle.hwdb_spec_program.specs.GivenDatabases.{names_input, names_twice, with_input}
use Rattle.hwdb_spec_commands.specs.Ignored.{is_ignored, text_folder}
use Rattle.hwdb_spec_commands.specs.LeftOut.{status_less, without}
use Rattle.hwdb_spec_commands.specs.Listings.{list_page}
use Rattle.hwdb_spec_commands.specs.OverText.{with_database}
use Rattle.hwdb_spec_commands.specs.Progress.{listing}
use Rattle.hwdb_spec_commands.specs.Status.{has_database, hidden_database}
use Rattle.hwdb_spec.specs.Store.{Contents, Stored, database_file, most_parts, part_mode, part_name}
use Rattle.hwdb_spec.specs.System.{bytes_at}
use Rattle.hwdb_spec.specs.Texts.{faults_text_at, status_of}
use Rattle.hwdb_spec.specs.Written.{padding}
use Rattle.hwdb_spec.specs.declared.FaultKind.TheVariants.{NoEquals}
use Rattle.hwdb_spec.specs.declared.errors.ToolError.TheVariants.{TooLong, TooManyLines}

-- ---- where files are

-- a store with files at some paths, of which each holds its path
abbrev pub holding : List (List ℕ) → Contents
holding [] path = None
holding (p ∷ more) path = if bytes_eq path p then Some (database_file p) else holding more path

abbrev pub etc_database : List ℕ
etc_database = codes "/r/etc/udev/hwdb.bin"

abbrev pub usr_database : List ℕ
usr_database = codes "/r/usr/lib/udev/hwdb.bin"

-- The database of /etc is asked first, and then that of /usr/lib. A path that words name is asked as it is, without the root.
abbrev pub AskedRows : Type 0
AskedRows =
    named_database None (codes "/r") (holding (usr_database ∷ etc_database ∷ [])) ∷ named_database None (codes "/r") (holding (usr_database ∷ []))
    ∷ named_database None [] (holding (usr_database ∷ [])) ∷ named_database (Some (codes "/a")) (codes "/r") (holding (etc_database ∷ codes "/a" ∷ [])) ∷ []
    ≡ Some etc_database ∷ Some usr_database ∷ None ∷ Some (codes "/a") ∷ []

-- The one of /usr/lib is hidden only if both are there.
abbrev pub HiddenRows : Type 0
HiddenRows =
    hidden_database (codes "/r") (holding (usr_database ∷ etc_database ∷ [])) ∷ hidden_database (codes "/r") (holding (usr_database ∷ [])) ∷ hidden_database (codes "/r") (holding (etc_database ∷ [])) ∷ []
    ≡ Some usr_database ∷ None ∷ None ∷ []

abbrev pub ThereRows : Type 0
ThereRows =
    has_database false (codes "/r") (holding (etc_database ∷ [])) ∷ has_database true (codes "/r") (holding (etc_database ∷ [])) ∷ has_database true (codes "/r") (holding (usr_database ∷ [])) ∷ []
    ≡ true ∷ false ∷ true ∷ []

-- the folders of the text files
abbrev pub FolderRows : Type 0
FolderRows =
    text_folder false [] ∷ text_folder true [] ∷ text_folder true (codes "/r") ∷ []
    ≡ codes "/etc/udev/hwdb.d" ∷ codes "/usr/lib/udev/hwdb.d" ∷ codes "/r/usr/lib/udev/hwdb.d" ∷ []

-- What is ignored has a name that doesn't end in `.hwdb`, and one that begins with a dot isn't told.
abbrev pub IgnoredRows : Type 0
IgnoredRows = map is_ignored (codes "a.hwdb" ∷ codes "a.hwdb~" ∷ codes "a.txt" ∷ codes ".a.hwdb.swp" ∷ codes ".a.hwdb" ∷ []) ≡ false ∷ true ∷ true ∷ false ∷ false ∷ []

-- `--text` answers from bytes in the place of the database of /etc, and leaves all else; `-` from those of standard input.
abbrev pub OverRows : Type 0
OverRows =
    bytes_at (with_database (codes "/r") (codes "new") (holding (etc_database ∷ usr_database ∷ []))) etc_database
    ∷ bytes_at (with_database (codes "/r") (codes "new") (holding (etc_database ∷ usr_database ∷ []))) usr_database
    ∷ bytes_at (with_input (codes "in") (holding [])) (codes "standard input") ∷ bytes_at (with_input (codes "in") (holding [])) (codes "-") ∷ []
    ≡ Some (codes "new") ∷ Some usr_database ∷ Some (codes "in") ∷ None ∷ []

-- ---- which files words name

-- `-` alone is standard input, as the only device string and as any file
abbrev pub DashRows : Type 0
DashRows =
    map is_input ((codes "-" ∷ []) ∷ (codes "a" ∷ []) ∷ (codes "-" ∷ codes "a" ∷ []) ∷ [] ∷ [])
    ++ (map any_dash ((codes "a" ∷ codes "-" ∷ []) ∷ (codes "a" ∷ codes "--" ∷ []) ∷ []) ++ map names_input (Some (codes "-") ∷ Some (codes "a") ∷ None ∷ []))
    ≡ true ∷ false ∷ false ∷ false ∷ true ∷ false ∷ true ∷ false ∷ false ∷ []

-- Of OLD, NEW and the files of devices one may be `-`; several files of devices may not be `-` beside another, but twice they may.
abbrev pub TwiceRows : Type 0
TwiceRows =
    names_twice [] (codes "-") (codes "-") ∷ names_twice (codes "-" ∷ []) (codes "-") (codes "b") ∷ names_twice (codes "a" ∷ codes "-" ∷ []) (codes "a") (codes "-")
    ∷ names_twice (codes "-" ∷ []) (codes "a") (codes "b") ∷ names_twice (codes "a" ∷ []) (codes "-") (codes "b") ∷ []
    ≡ true ∷ true ∷ true ∷ false ∷ false ∷ []

-- ---- lines of standard input

-- All lines are answered if none is too long. What comes after them is no error, or one that is too long, or too many.
abbrev pub LineRows : Type 0
LineRows =
    (answered_lines (codes "a" ∷ [] ∷ codes "b" ∷ []) ≡ codes "a" ∷ [] ∷ codes "b" ∷ [])
    × (line_error (codes "a" ∷ [] ∷ []) ∷ end_after 1 2 ∷ end_after 2 2 ∷ end_after 18446744073709551615 18446744073709551615 ∷ end_after 18446744073709551614 18446744073709551615 ∷ []
    ≡ None ∷ Some TooLong ∷ None ∷ Some TooManyLines ∷ Some TooLong ∷ [])

-- ---- what an update leaves out, and says

-- a file that is left out is as if neither folder had it
abbrev pub WithoutRows : Type 0
WithoutRows =
    map (bytes_at (without (record { from_etc = true; name = codes "a.hwdb"; priority = 1 } ∷ []) (codes "/r") (holding (codes "/r/etc/udev/hwdb.d/a.hwdb" ∷ codes "/r/usr/lib/udev/hwdb.d/a.hwdb" ∷ codes "/r/etc/udev/hwdb.d/b.hwdb" ∷ codes "/etc/udev/hwdb.d/a.hwdb" ∷ []))))
    (codes "/r/etc/udev/hwdb.d/a.hwdb" ∷ codes "/r/usr/lib/udev/hwdb.d/a.hwdb" ∷ codes "/r/etc/udev/hwdb.d/b.hwdb" ∷ codes "/etc/udev/hwdb.d/a.hwdb" ∷ [])
    ≡ None ∷ None ∷ Some (codes "/r/etc/udev/hwdb.d/b.hwdb") ∷ Some (codes "/etc/udev/hwdb.d/a.hwdb") ∷ []

-- a chosen file
abbrev pub some_choice : Choice
some_choice = record { from_etc = true; name = codes "a.hwdb"; priority = 1 }

-- with `--strict` the status is 1 then, and without it what it is for the others
abbrev pub StatusRows : Type 0
StatusRows =
    status_less true (some_choice ∷ []) 0 ∷ status_less false (some_choice ∷ []) 0 ∷ status_less true [] 0 ∷ status_less false (some_choice ∷ []) 1 ∷ []
    ≡ 1 ∷ 0 ∷ 0 ∷ 1 ∷ []

-- a fault of the third line of a file
abbrev pub some_fault : FaultIn
some_fault = record { path = codes "/f"; fault = record { line = 3; kind = NoEquals } }

-- so it is after a fault; `ask` tells it with the path that was given
abbrev pub FaultRows : Type 0
FaultRows =
    (status_of true (some_fault ∷ []) ∷ status_of false (some_fault ∷ []) ∷ status_of true [] ∷ [] ≡ 1 ∷ 0 ∷ 0 ∷ [])
    × (faults_text_at (codes "x.hwdb") (some_fault ∷ []) ≡ codes "x.hwdb:3: property without =, ignored\n")

-- the files of /usr/lib that `--verbose` needs
abbrev pub ListingRows : Type 0
ListingRows =
    listing true (record { name = codes "a.hwdb"; bytes = [] } ∷ []) ∷ listing false (record { name = codes "a.hwdb"; bytes = [] } ∷ []) ∷ []
    ≡ Some (codes "a.hwdb" ∷ []) ∷ None ∷ []

-- ---- a store

-- a new file is `.#hwdb.bin` and a number, and only its owner may read it (mode 600 of octal digits)
abbrev pub PartRows : Type 0
PartRows = (map part_name (0 ∷ 65535 ∷ []) ≡ codes ".#hwdb.bin0" ∷ codes ".#hwdb.bin65535" ∷ []) × (most_parts ≡ 65536) × (part_mode ≡ 6 * 64)

-- the pages of a file system are a multiple of a block, and records are padded by zeros
abbrev pub BlockRows : Type 0
BlockRows = (block_bytes ≡ 4096) × (list_page ≡ 64) × (padding 3 ≡ 0 ∷ 0 ∷ 0 ∷ [])

-- some file
abbrev pub some_file : Stored
some_file = database_file (codes "new")

-- what an update does: it makes a new file, syncs it, moves it over the database, and syncs the names
abbrev pub written : List Event
written = put (codes "/d/.#hwdb.bin0") some_file ∷ synced (codes "/d/.#hwdb.bin0") ∷ moved (codes "/d/.#hwdb.bin0") (codes "/d/hwdb.bin") some_file false ∷ []

-- After the move both are where they should be. A crash may bring back that nothing was there, and after the sync of the names it can't.
abbrev pub UpdateRows : Type 0
UpdateRows =
    (map (contents_after written) (codes "/d/hwdb.bin" ∷ codes "/d/.#hwdb.bin0" ∷ codes "/d/x" ∷ []) ≡ Some some_file ∷ None ∷ None ∷ [])
    × (after_events (codes "/d/hwdb.bin") begin written ≡ record { now = Some some_file; loose = false; before = None ∷ []; torn = false })
    × (after_events (codes "/d/hwdb.bin") begin (written ++ names_synced ∷ []) ≡ record { now = Some some_file; loose = false; before = []; torn = false })

-- Without its sync a file may be left as anything, also after the names are synced. What is removed is gone.
abbrev pub LooseRows : Type 0
LooseRows =
    (after_events (codes "/f") begin (put (codes "/f") some_file ∷ names_synced ∷ []) ≡ record { now = Some some_file; loose = true; before = []; torn = true })
    × (after_events (codes "/f") begin (put (codes "/f") some_file ∷ removed (codes "/f") ∷ []) ≡ record { now = None; loose = false; before = None ∷ Some some_file ∷ []; torn = true })
    × (after_events (codes "/f") begin (put (codes "/f") some_file ∷ removed (codes "/f") ∷ names_synced ∷ []) ≡ record { now = None; loose = false; before = []; torn = false })

-- So before that sync a crash may leave the path without a file, and after it nothing but the new one.
abbrev pub OutcomeRows : Type 0
OutcomeRows =
    outcomes_after written (codes "/d/hwdb.bin") None
    × ((file : Option Stored) → outcomes_after (written ++ names_synced ∷ []) (codes "/d/hwdb.bin") file → file ≡ Some some_file)
