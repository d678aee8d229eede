-- Worked rows of errors: their lines, as DIAGNOSTICS of hwdb(8) has them; of bytes that are no database, as hwdb-format(7) numbers their
-- faults; and what an error of a call is to the program.
use Rattle.std.specs.Prelude.{◌++◌, ◌∷◌, ◌≡◌, List, None, Some, Vec, [], codes, map, pos, ℕ}
use Rattle.std.specs.declared.alloc.Global.{Global}
use Rattle.hwdb_spec_commands.specs.Asked.{unsayable_text}
use Rattle.hwdb_spec.specs.Errors.{error_text, of_scan, of_select, of_store, refusal_of_compile, refusal_of_position, refusal_of_read, refusal_of_scan, refusal_of_select}
use Rattle.hwdb_spec.specs.Failures.{after_failure}
use Rattle.hwdb_spec_program.specs.GivenDatabases.{twice_text}
use Rattle.hwdb_spec_commands.specs.LeftOutTold.{left_out_line}
use Rattle.hwdb_spec.specs.Library.{fault_number, fault_place}
use Rattle.hwdb_spec_program.specs.NearErrors.{error_of}
use Rattle.hwdb_spec.specs.NotReplaced.{failures_after}
use Rattle.hwdb_spec_commands.specs.Refusals.{path_text, refusal_line, refusal_text}
use Rattle.hwdb_spec_commands.specs.Reloads.{kept_line, taken_line}
use Rattle.hwdb_spec_commands.specs.Sides.{no_texts_text}
use Rattle.hwdb_spec_commands.specs.Told.{stop_of, unlisted_stop, unread_stop}
use Rattle.hwdb_spec_commands.specs.Told.Stop.{NoDatabase, Over, Plain, Says}
use Rattle.hwdb_spec_commands.specs.Told.Unlisted.{Misnamed, Unopened}
use Rattle.hwdb_spec_commands.specs.Undone.{told_path}
use Rattle.hwdb_spec_commands.specs.Verdicts.{verdict_text}
use Rattle.hwdb_spec.specs.declared.DbFault.{DbFault}
use Rattle.hwdb_spec.specs.declared.DbFault.TheVariants.{ChildOrder, Depth, KeyOrder, Lengths, Place, Priority, RecordSizes, Short, Signature, StringOffset, Strings}
use Rattle.hwdb_spec.specs.declared.causes.Cause.TheVariants as why
use Rattle.hwdb_spec.specs.declared.errors.CompileError.TheVariants as compiling
use Rattle.hwdb_spec.specs.declared.errors.NearError.TheVariants as comparing
use Rattle.hwdb_spec.specs.declared.errors.PositionError.TheVariants as positions
use Rattle.hwdb_spec.specs.declared.errors.ReadError.TheVariants as reading
use Rattle.hwdb_spec.specs.declared.errors.ScanError.TheVariants as scan
use Rattle.hwdb_spec.specs.declared.errors.SelectError.TheVariants as select
use Rattle.hwdb_spec.specs.declared.errors.StoreError.TheVariants as store
use Rattle.hwdb_spec.specs.declared.errors.ToolError.TheVariants.{BadDatabase, BadPosition, Memory, Read, TooLarge, TooLong, TooManyFiles, TooManyLines, Write}
use Rattle.hwdb_spec.specs.declared.errors.Unreplaced.TheVariants.{LeftBehind, NamesTaken, Undone, Unsynced}
use Rattle.hwdb_spec_commands.specs.declared.refusals.Refusal.TheVariants as refusal
use Rattle.hwdb_spec_commands.specs.declared.unread.Unread.TheVariants as unread

-- ---- errors without a path

abbrev pub WordRows : Type 0
WordRows =
    map error_text (Read ∷ Write ∷ TooLong ∷ TooManyFiles ∷ TooManyLines ∷ TooLarge ∷ BadPosition ∷ BadDatabase Lengths ∷ BadDatabase (Place 96) ∷ Memory ∷ [])
    ≡ codes "cannot read" ∷ codes "cannot write" ∷ codes "a file is longer than 268435456 bytes" ∷ codes "more than 65535 files"
    ∷ codes "a file has more than 4294967295 lines" ∷ codes "the database would be larger than 268435456 bytes" ∷ codes "bad position"
    ∷ codes "bad database: B4" ∷ codes "bad database: B6 at 96" ∷ codes "out of memory" ∷ []

-- ---- errors over a path

-- The words of a cause come after the path, if there is a cause. A tab of a name is shown.
abbrev pub PathRows : Type 0
PathRows =
    path_text Read (codes "/etc/a\tb") (Some why.Folder) (codes "Is a directory") ∷ path_text Read (codes "/a") None (codes "Is a directory")
    ∷ path_text Write (codes "standard output") (Some why.Nothing) (codes "Nothing was written") ∷ path_text Write (codes "/a") None []
    ∷ path_text TooLong (codes "/a") None [] ∷ path_text Memory (codes "/a") (Some why.Memory) (codes "Cannot allocate memory")
    ∷ path_text (BadDatabase Short) (codes "/a/hwdb.bin") None [] ∷ path_text (BadDatabase (KeyOrder 7)) (codes "a.hwdb") None [] ∷ []
    ≡ codes "cannot read /etc/a\\x09b: Is a directory" ∷ codes "cannot read /a"
    ∷ codes "cannot write standard output: Nothing was written" ∷ codes "cannot write /a"
    ∷ codes "/a is longer than 268435456 bytes" ∷ codes "out of memory"
    ∷ codes "bad database: B1: /a/hwdb.bin: make it anew with 'hwdb update'" ∷ codes "bad database: B10 at 7: a.hwdb: 'hwdb check' is for text files" ∷ []

-- the line of an error, whatever it is of, and that of a text file that is left out
abbrev pub LineRows : Type 0
LineRows =
    refusal_line (refusal_text refusal.NoDatabase []) ∷ refusal_line (refusal_text (refusal.Plain TooManyFiles) [])
    ∷ left_out_line (codes "/etc/udev/hwdb.d/a.hwdb") (Some why.Link) (codes "Is a link to nothing") ∷ []
    ≡ codes "hwdb: no database\n" ∷ codes "hwdb: more than 65535 files\n"
    ∷ codes "hwdb: cannot read /etc/udev/hwdb.d/a.hwdb: Is a link to nothing; left out\n" ∷ []

-- an error over a path says that path, and one in words says these
abbrev pub OwnRows : Type 0
OwnRows =
    (text : Vec ℕ Global) → text.items ≡ codes "/a"
    → refusal_line (refusal_text (refusal.At Read text (Some (why.System (pos 13)))) (codes "Permission denied")) ∷ refusal_line (refusal_text (refusal.InWords text) []) ∷ []
    ≡ codes "hwdb: cannot read /a: Permission denied\n" ∷ codes "hwdb: /a\n" ∷ []

-- lines of `dump`, of `diff`, and of `query - --reload`; standard input has its name
abbrev pub OtherRows : Type 0
OtherRows =
    unsayable_text (codes "/a") (codes "x\ny") ∷ no_texts_text (codes "img") ∷ twice_text ∷ kept_line (codes "/etc/udev/hwdb.bin") ∷ taken_line (codes "/etc/udev/hwdb.bin")
    ∷ told_path (codes "-") ∷ told_path (codes "--") ∷ []
    ≡ codes "/a: no text file can say an assignment of the pattern x\\x0ay"
    ∷ codes "cannot read img: no text file is in it, nor in its etc/udev/hwdb.d or usr/lib/udev/hwdb.d: name a folder that has one, a text file or a database"
    ∷ codes "only one of OLD, NEW and --devices FILE may be -: standard input is read once"
    ∷ codes "hwdb: /etc/udev/hwdb.bin: no database that can be read is there now; the one before answers. 'hwdb verify' says more\n"
    ∷ codes "hwdb: /etc/udev/hwdb.bin: a database is there again, and answers\n"
    ∷ codes "standard input" ∷ codes "--" ∷ []

-- ---- faults of a database

-- all of them, those with an offset at 5
abbrev pub each_fault : List DbFault
each_fault = Short ∷ Signature ∷ RecordSizes ∷ Lengths ∷ Strings ∷ Place 5 ∷ Depth 5 ∷ ChildOrder 5 ∷ StringOffset 5 ∷ KeyOrder 5 ∷ Priority 5 ∷ []

-- the C library numbers them, and has 0 for an offset that there isn't
abbrev pub NumberRows : Type 0
NumberRows =
    map {B = ℕ × ℕ} (λ f. (fault_number f, fault_place f)) each_fault
    ≡ (1, 0) ∷ (2, 0) ∷ (3, 0) ∷ (4, 0) ∷ (5, 0) ∷ (6, 5) ∷ (7, 5) ∷ (8, 5) ∷ (9, 5) ∷ (10, 5) ∷ (11, 5) ∷ []

-- what `verify` says of some of them
abbrev pub VerdictRows : Type 0
VerdictRows =
    map (verdict_text (codes "/a")) (Short ∷ Signature ∷ RecordSizes ∷ Lengths ∷ Strings ∷ [])
    ≡ codes "bad database: B1: /a\n    it has fewer than the 80 bytes of a header\n    cause: the file was cut short, or is no hardware database\n    hint: make it anew with 'hwdb update'"
    ∷ codes "bad database: B2: /a\n    it doesn't begin with the signature KSLPHHRH\n    cause: the file is no hardware database\n    hint: make it anew with 'hwdb update'"
    ∷ codes "bad database: B3: /a\n    its header or its records are shorter than their known fields\n    cause: an old tool wrote the file, or it is damaged\n    hint: make it anew with 'hwdb update'"
    ∷ codes "bad database: B4: /a\n    its length isn't the one that its header says\n    cause: the file was cut short or written over\n    hint: make it anew with 'hwdb update'"
    ∷ codes "bad database: B5: /a\n    it has no strings, or the last one has no end\n    cause: the file was cut short or written over\n    hint: make it anew with 'hwdb update'"
    ∷ []

-- and of the others, which a place has
abbrev pub OffsetRows : Type 0
OffsetRows =
    map (verdict_text (codes "a.hwdb")) (Place 96 ∷ Depth 96 ∷ ChildOrder 96 ∷ StringOffset 96 ∷ KeyOrder 96 ∷ Priority 96 ∷ [])
    ≡ map (λ line. line ++ codes "\n    cause: the file is damaged, or a tool wrote it that orders its records otherwise\n    hint: 'hwdb check' is for text files")
    (codes "bad database: B6 at 96: a.hwdb\n    a node, or its children, isn't where the order of the nodes has it"
    ∷ codes "bad database: B7 at 96: a.hwdb\n    a node is more than 4097 nodes deep"
    ∷ codes "bad database: B8 at 96: a.hwdb\n    a child of a node has byte 0, or one that isn't above that of the child before it"
    ∷ codes "bad database: B9 at 96: a.hwdb\n    a string is said to be outside of the strings"
    ∷ codes "bad database: B10 at 96: a.hwdb\n    a key of a node isn't above the key before it"
    ∷ codes "bad database: B11 at 96: a.hwdb\n    the file of an assignment has priority 0"
    ∷ [])

-- ---- what an error of a call is to the program

abbrev pub PassedRows : Type 0
PassedRows =
    refusal_of_select select.TooManyFiles ∷ refusal_of_select select.Memory ∷ refusal_of_read reading.Failed ∷ refusal_of_read reading.TooLong
    ∷ refusal_of_read reading.Memory ∷ refusal_of_scan scan.TooManyLines ∷ refusal_of_scan scan.Memory ∷ refusal_of_compile compiling.TooManyFiles
    ∷ refusal_of_compile compiling.TooManyLines ∷ refusal_of_compile compiling.TooLarge ∷ refusal_of_compile compiling.Memory
    ∷ refusal_of_position positions.BadPosition ∷ refusal_of_position positions.Memory ∷ error_of (comparing.Database Short) ∷ error_of comparing.Memory ∷ []
    ≡ TooManyFiles ∷ Memory ∷ Read ∷ TooLong ∷ Memory ∷ TooManyLines ∷ Memory ∷ TooManyFiles ∷ TooManyLines ∷ TooLarge ∷ Memory ∷ BadPosition ∷ Memory
    ∷ BadDatabase Short ∷ Memory ∷ []

-- and to the compiler
abbrev pub CompiledRows : Type 0
CompiledRows =
    of_select select.TooManyFiles ∷ of_select select.Memory ∷ of_scan scan.TooManyLines ∷ of_scan scan.Memory ∷ of_store store.TooLarge ∷ of_store store.Memory ∷ []
    ≡ compiling.TooManyFiles ∷ compiling.Memory ∷ compiling.TooManyLines ∷ compiling.Memory ∷ compiling.TooLarge ∷ compiling.Memory ∷ []

-- Bytes that weren't read, and folders that weren't listed, stop a run over their path. Only memory that was refused has no path.
abbrev pub StopRows : Type 0
StopRows =
    map (unread_stop (codes "/a")) (unread.TooLong ∷ unread.Failed None ∷ unread.Failed (Some (why.System (pos 5))) ∷ unread.Failed (Some why.Memory) ∷ unread.Memory ∷ [])
    ++ (unlisted_stop (codes "/a") (Unopened unread.TooLong) ∷ unlisted_stop (codes "/a") (Misnamed (codes "b")) ∷ [])
    ++ (stop_of (refusal.Plain Write) ∷ stop_of refusal.NoDatabase ∷ [])
    ≡ Over TooLong (codes "/a") None ∷ Over Read (codes "/a") None ∷ Over Read (codes "/a") (Some (why.System (pos 5))) ∷ Plain Memory ∷ Plain Memory
    ∷ Over TooLong (codes "/a") None ∷ Over Read (codes "/a/b") (Some why.Name) ∷ Plain Write ∷ NoDatabase ∷ []

-- of an error with a path or with words these are kept
abbrev pub OwnStopRows : Type 0
OwnStopRows =
    (text : Vec ℕ Global) → text.items ≡ codes "/a"
    → stop_of (refusal.At Read text (Some why.Pipe)) ∷ stop_of (refusal.InWords text) ∷ [] ≡ Over Read (codes "/a") (Some why.Pipe) ∷ Says (codes "/a") ∷ []

-- ---- how many calls have failed

-- The count stops at the greatest number of 64 bits. A new file that couldn't be removed is a second failed call, and names that are
-- taken are none.
abbrev pub FailureRows : Type 0
FailureRows =
    map after_failure (0 ∷ 7 ∷ 18446744073709551614 ∷ 18446744073709551615 ∷ []) ++ (failures_after Undone 4 ∷ failures_after NamesTaken 4 ∷ failures_after LeftBehind 4 ∷ failures_after Unsynced 4 ∷ [])
    ≡ 1 ∷ 8 ∷ 18446744073709551615 ∷ 18446744073709551615 ∷ 5 ∷ 4 ∷ 6 ∷ 5 ∷ []
