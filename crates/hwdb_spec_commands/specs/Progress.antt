-- What `update` says of its work. With `--verbose` it tells the text files that it takes, and which of them mask others.
-- It tells how many assignments they have, and how many of these the database keeps. Then it warns of the match lines that udev
-- can't take, and of a database that is too deep for udev. At the end come, always, the fault lines. Our choice.
use Rattle.std.specs.Prelude.{Bool, true, false, ℕ, List, [], ◌∷◌, ◌++◌, Option, None, Some, if◌then◌else◌, codes, flat_map, length, map, nat_lt}
use Rattle.std.specs.Fmt.{decimal}
use Rattle.std.specs.FinMap as finite
use Rattle.hwdb_spec_commands.specs.Checks.{count_text}
use Rattle.hwdb_spec.specs.Folders.{Choice, Source, all_assignments, chosen_of, contents, faults_of_files, lists, path_of, within_64_bits}
use Rattle.hwdb_spec.specs.Lines.{Line, byte, clean_line, is_dropped, lines}
use Rattle.hwdb_spec_commands.specs.Once.{once}
use Rattle.hwdb_spec_commands.specs.Summary.{deepest_for_udev}
use Rattle.hwdb_spec.specs.Texts.{faults_text}
use Rattle.hwdb_spec.specs.Tree.{map_of_files}
use Rattle.hwdb_spec.specs.Visible.{shown_name}
use Rattle.hwdb_spec_commands.specs.Warnings.{is_too_long, warning_line}
use Rattle.hwdb_spec_commands.specs.declared.WarningKind.TheVariants.{TooLongForUdev}

-- a chosen file masks one of /usr/lib, which lists these names
abbrev pub masks : (listed : List (List ℕ)) → Choice → Bool
masks listed c = if c.from_etc then lists c.name listed else false

-- the line of a chosen file: its path, and that of the one which it masks
abbrev pub chosen_line : (listed : List (List ℕ)) → Choice → List ℕ
chosen_line listed c = shown_name (path_of c) ++ ((if masks listed c then codes " masks /usr/lib/udev/hwdb.d/" ++ shown_name c.name else []) ++ byte "\n" ∷ [])

-- the line that counts: how many files are taken, how many assignments they have, and how many of these are kept
abbrev pub kept_line : (files given kept : ℕ) → List ℕ
kept_line files given kept =
    count_text files (codes "file") ++ (codes ", " ++ (count_text given (codes "assignment") ++ (codes ", " ++ (decimal kept ++ codes " kept\n"))))

-- the warning of a match line that udev can't take, as `check` has it; of another line nothing
abbrev pub too_long_line : (path : List ℕ) → Line → List ℕ
too_long_line path l =
    if is_dropped l then [] else (if is_too_long (clean_line l) then warning_line path l.number TooLongForUdev else [])

-- those of a chosen file; `read` gives the bytes of each
abbrev pub too_long_lines : (read : Choice → List ℕ) → Choice → List ℕ
too_long_lines read c = flat_map (too_long_line (path_of c)) (lines (read c))

-- how many assignments the files have, each pattern of a record counted once
abbrev pub given_count : (etc usr : List Source) → ℕ
given_count etc usr = within_64_bits (length (once (all_assignments etc usr)))

-- the warning of a database with so many nodes one below the other, if it is too deep for udev
abbrev pub deep_line : (depth : ℕ) → List ℕ
deep_line depth =
    if nat_lt deepest_for_udev depth then codes "warning: the depth is " ++ (decimal depth ++ codes ": udev of systemd 262 refuses more than 2048\n") else []

-- What `update --verbose` says before the fault lines. If the names of /usr/lib's files are given, it is a line for each chosen file
-- and how much they assign; what survives of that is kept. Then come the match lines that udev can't take, and whether the database
-- is too deep. Else it is nothing.
abbrev pub progress_text : (listed : Option (List (List ℕ))) (etc usr : List Source) (depth : ℕ) → List ℕ
progress_text None etc usr depth = []
progress_text (Some listed) etc usr depth =
    ((flat_map (chosen_line listed) (chosen_of etc usr)
    ++ kept_line (length (chosen_of etc usr)) (given_count etc usr) (finite.len (map_of_files etc usr)))
    ++ flat_map (too_long_lines (contents etc usr)) (chosen_of etc usr))
    ++ deep_line depth

-- what `update` says of the files of both folders, whose database has this depth
abbrev pub update_text : (listed : Option (List (List ℕ))) (etc usr : List Source) (depth : ℕ) → List ℕ
update_text listed etc usr depth = progress_text listed etc usr depth ++ faults_text (faults_of_files etc usr)

-- names that are given if `verbose`
abbrev pub given_where : (verbose : Bool) → List (List ℕ) → Option (List (List ℕ))
given_where false names = None
given_where true names = Some names

-- the names of /usr/lib's files, given if `verbose`
abbrev pub listing : (verbose : Bool) (usr : List Source) → Option (List (List ℕ))
listing verbose usr = given_where verbose (map (λ (s : Source). s.name) usr)
