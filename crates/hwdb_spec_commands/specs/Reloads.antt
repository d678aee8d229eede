-- What `query - --reload` says of a database that came in another one's place. Our choice.
use Rattle.std.specs.Prelude.{ℕ, List, codes, ◌++◌, ◌≡◌, ◌⊎◌}
use Rattle.hwdb_spec.specs.Visible.{shown_name}

-- the line that is said once what came at a path can't be taken
abbrev pub kept_line : (path : List ℕ) → List ℕ
kept_line path =
    codes "hwdb: " ++ shown_name path ++ codes ": no database that can be read is there now; the one before answers. 'hwdb verify' says more\n"

-- the line that is said once a database is there again
abbrev pub taken_line : (path : List ℕ) → List ℕ
taken_line path = codes "hwdb: " ++ shown_name path ++ codes ": a database is there again, and answers\n"

-- a line says one of both of some path
abbrev pub IsReloadLine : (line : List ℕ) → Type 0
IsReloadLine line = (path : List ℕ) × ((line ≡ kept_line path) ⊎ (line ≡ taken_line path))
