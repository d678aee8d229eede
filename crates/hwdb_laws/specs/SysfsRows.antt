-- Worked rows of what a file system answers of sysfs: which errors say that a path leads nowhere (path_resolution(7), errno(3)), which
-- names of a listing lead on, and that nothing but a regular file is read.
use Rattle.std.specs.Prelude.{◌++◌, ◌∷◌, ◌≡◌, Bool, Err, List, None, Ok, Option, Result, Some, [], codes, false, map, pos, true, ℕ}
use Rattle.hwdb_spec_commands.specs.SysfsAnswers.{Answers, is_nowhere, leads_on, names_listed, seen}
use Rattle.hwdb_spec.specs.declared.causes.Cause.{Cause}
use Rattle.hwdb_spec.specs.declared.causes.Cause.TheVariants.{Memory, System, Unknown}

-- ENOENT, ENOTDIR, ENAMETOOLONG and ELOOP; then EIO, EACCES, ENODEV, and causes that have no number
abbrev pub NowhereRows : Type 0
NowhereRows =
    map is_nowhere (System (pos 2) ∷ System (pos 20) ∷ System (pos 36) ∷ System (pos 40) ∷ System (pos 5) ∷ System (pos 13) ∷ System (pos 19) ∷ Unknown ∷ Memory ∷ [])
    ≡ true ∷ true ∷ true ∷ true ∷ false ∷ false ∷ false ∷ false ∷ false ∷ []

-- `.` and `..` lead back, and no other name does
abbrev pub LeadRows : Type 0
LeadRows =
    map leads_on (codes "." ∷ codes ".." ∷ codes "..." ∷ codes ".a" ∷ codes "a" ∷ [])
    ≡ false ∷ false ∷ true ∷ true ∷ true ∷ []

-- so neither of them is in a listing
abbrev pub ListedRows : Type 0
ListedRows =
    names_listed (codes "." ++ 0 ∷ (codes ".." ++ 0 ∷ (codes "event4" ++ 0 ∷ (codes "..a" ++ 0 ∷ []))))
    ≡ codes "event4" ∷ codes "..a" ∷ []

-- a file system that answers the same of each path: what its real path is, whether a regular file is there, and its bytes
abbrev pub alike : (real : Result (List ℕ) Cause) (file : Result Bool Cause) (page : Result (List ℕ) Cause) → Answers
alike real file page = record {
  real = λ path. real;
  node = λ place. Err Unknown;
  file = λ place. file;
  page = λ place. page;
  listing = λ place. Err Unknown;
}

-- what is seen of an attribute: its text, and whether it is closed to us
abbrev pub attribute_seen : (file : Result Bool Cause) (page : Result (List ℕ) Cause) → Option (List ℕ) × Bool
attribute_seen file page = ((seen (alike (Ok []) file page)).text [], (seen (alike (Ok []) file page)).closed [])

-- A regular file has its text. A pipe, a folder or a device has none, whatever could be read of it. One that may not be read is
-- closed; one that went away meanwhile isn't, nor is one that never was.
abbrev pub AttributeRows : Type 0
AttributeRows =
    attribute_seen (Ok true) (Ok (codes "1209\n"))
    ∷ attribute_seen (Ok false) (Ok (codes "1209\n"))
    ∷ attribute_seen (Ok false) (Err (System (pos 13)))
    ∷ attribute_seen (Ok true) (Err (System (pos 13)))
    ∷ attribute_seen (Ok true) (Err (System (pos 19)))
    ∷ attribute_seen (Ok true) (Err (System (pos 2)))
    ∷ attribute_seen (Err (System (pos 2))) (Ok (codes "1209\n"))
    ∷ attribute_seen (Err (System (pos 40))) (Ok (codes "1209\n"))
    ∷ attribute_seen (Err (System (pos 13))) (Ok (codes "1209\n"))
    ∷ []
    ≡ (Some (codes "1209\n"), false)
    ∷ (None, false)
    ∷ (None, false)
    ∷ (None, true)
    ∷ (None, true)
    ∷ (None, false)
    ∷ (None, false)
    ∷ (None, false)
    ∷ (None, true)
    ∷ []

-- what is seen of a path: the place that it leads to, and whether that can't be told
abbrev pub path_seen : Result (List ℕ) Cause → Option (List ℕ) × Bool
path_seen real = ((seen (alike real (Ok true) (Ok []))).place [], (seen (alike real (Ok true) (Ok []))).lost [])

-- A path that leads somewhere has a place. One that leads nowhere, as a loop of links, has none. One that may not be followed is lost.
abbrev pub PathRows : Type 0
PathRows =
    map path_seen (Ok (codes "/sys/devices") ∷ Err (System (pos 2)) ∷ Err (System (pos 20)) ∷ Err (System (pos 40)) ∷ Err (System (pos 13)) ∷ Err Unknown ∷ [])
    ≡ (Some (codes "/sys/devices"), false) ∷ (None, false) ∷ (None, false) ∷ (None, false) ∷ (None, true) ∷ (None, true) ∷ []

-- a folder that can't be listed, and a node that isn't told, are as if they weren't there
abbrev pub UntoldRows : Type 0
UntoldRows =
    ((seen (alike (Ok []) (Ok true) (Ok []))).names [] ≡ []) × ((seen (alike (Ok []) (Ok true) (Ok []))).node [] ≡ None)
