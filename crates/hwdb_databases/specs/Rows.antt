-- Worked rows of what a path of `diff` means, and of what `diff --stat` counts and prints: what the definitions give when they are
-- computed.
use Rattle.std.specs.Prelude.{◌∷◌, ◌≡◌, List, None, Some, [], codes, false, map, true, ℕ}
use Rattle.hwdb_spec.specs.Assignment.{Assignment}
use Rattle.hwdb_spec_commands.specs.ChangeCounts.{Stat, no_stat, stat_form, with_changes, with_device}
use Rattle.hwdb_spec_commands.specs.Differences.{Change}
use Rattle.hwdb_spec_commands.specs.Differences.Change.{Came, Went, Changed}
use Rattle.hwdb_spec_commands.specs.Sides.{as_etc, file_name, names_text}

-- The last name of a path: after a slash at its end there is none.
abbrev pub NameRows : Type 0
NameRows =
    map file_name (codes "a.hwdb" ∷ codes "/etc/udev/60-a.hwdb" ∷ codes "x.hwdb/hwdb.bin" ∷ codes "x.hwdb/" ∷ [])
    ≡ codes "a.hwdb" ∷ codes "60-a.hwdb" ∷ codes "hwdb.bin" ∷ [] ∷ []

-- Which are names of text files: not a database's, not one that begins with a dot, and not a folder's.
abbrev pub TextRows : Type 0
TextRows =
    map names_text (codes "d/a.hwdb" ∷ codes "d/hwdb.bin" ∷ codes "d/.a.hwdb" ∷ codes "d.hwdb/a" ∷ codes "d.hwdb/" ∷ codes "-" ∷ [])
    ≡ true ∷ false ∷ false ∷ false ∷ false ∷ false ∷ []

-- A text file of a folder has the path that was given, after a slash.
abbrev pub EtcRows : Type 0
EtcRows = as_etc (record { name = codes "new/60-a.hwdb"; bytes = codes "x" }) ≡ record { name = codes "/new/60-a.hwdb"; bytes = codes "x" }

-- an assignment of a file
abbrev pub of_file : (path key value : List ℕ) → Assignment
of_file path key value = record { position = record { priority = 1; line = 2; pattern = codes "a*"; key = key }; value = value; path = path }

-- what came, went and changed: a value that changed is counted for the new file
abbrev pub some_changes : List Change
some_changes =
    Came (of_file (codes "b") (codes "K") (codes "1")) ∷ Went (of_file (codes "a") (codes "L") (codes "1"))
    ∷ Changed (of_file (codes "a") (codes "K") (codes "1")) (of_file (codes "b") (codes "K") (codes "2")) ∷ Came (of_file (codes "c") (codes "K") (codes "3")) ∷ []

-- Nothing is printed of no change, but an object as JSON. Files and keys ascend.
abbrev pub StatRows : Type 0
StatRows =
    map (λ (s : Stat). stat_form false None s) (no_stat ∷ with_changes no_stat some_changes ∷ [])
    ≡ [] ∷ codes "a\t+0\t-1\t~0\nb\t+1\t-0\t~1\nc\t+1\t-0\t~0\n\nK\t+2\t-0\t~1\nL\t+0\t-1\t~0\n\ntotal\t+2\t-1\t~1\n" ∷ []

-- For devices their number comes last: of those that have a change.
abbrev pub DeviceStatRows : Type 0
DeviceStatRows =
    stat_form false (Some (codes "x" ∷ codes "y" ∷ [])) (with_device false (with_device true (with_changes no_stat (Came (of_file (codes "f") (codes "K") (codes "1")) ∷ []))))
    ≡ codes "f\t+1\t-0\t~0\n\nK\t+1\t-0\t~0\n\ntotal\t+1\t-0\t~0\ndevices\t1\n"

-- As JSON: one object, with the number of devices if devices were asked for.
abbrev pub StatJsonRows : Type 0
StatJsonRows =
    stat_form true None no_stat ∷ stat_form true (Some []) (with_changes no_stat (Went (of_file (codes "f") (codes "K") (codes "1")) ∷ [])) ∷ []
    ≡ codes "{\"files\":[],\"keys\":[],\"total\":{\"added\":0,\"removed\":0,\"changed\":0}}\n"
    ∷ codes "{\"files\":[{\"file\":\"f\",\"added\":0,\"removed\":1,\"changed\":0}],\"keys\":[{\"key\":\"K\",\"added\":0,\"removed\":1,\"changed\":0}],\"total\":{\"added\":0,\"removed\":1,\"changed\":0},\"devices\":0}\n" ∷ []
