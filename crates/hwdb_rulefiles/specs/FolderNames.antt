-- Names with their folders, as the code holds them.
use Rattle.std.specs.Prelude.{List, ℕ}
use Rattle.std.specs.Borrow.{Bor}
use Rattle.hwdb_rulefiles.specs.declared.choice.Folder.{Folder}

abbrev pub entry_of : Bor (List ℕ) × Folder → List ℕ × Folder
entry_of e = (e.0.now, e.1)
