-- One text file alone, as `ask` reads it and as `dump` writes it. Our choice.
use Rattle.std.specs.Prelude.{◌∷◌, List, [], codes, true, ℕ}
use Rattle.hwdb_spec.specs.Folders.{Choice, Source}

-- the one file that `ask` reads, as a file of etc
abbrev pub lone : List ℕ → List Source
lone bytes = record { name = codes "1.hwdb"; bytes = bytes } ∷ []

-- its choice: the first file, of etc
abbrev pub lone_choice : Choice
lone_choice = record { from_etc = true; name = codes "1.hwdb"; priority = 1 }
