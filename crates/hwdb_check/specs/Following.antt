-- Where the faults of a line are among those of a file, as its lines are read one after another.
use Rattle.std.specs.Prelude.{◌≡◌, ◌≤◌, ℕ, List, [], ◌∷◌, drop, filter, length}
use Rattle.hwdb_spec.specs.Lines.{is}
use Rattle.hwdb_spec.specs.declared.Fault.{Fault}

-- faults that ascend by line, from the line with this number on
abbrev pub AreFrom : (number : ℕ) → List Fault → Type 0
AreFrom number [] = Unit {0}
AreFrom number (f ∷ more) = (number ≤ f.line) × AreFrom f.line more

-- From this place on are the faults of the line with this number and of those after it, by line.
pub record IsNext (number next : ℕ) (all : List Fault) : Type 0 where
  pub within : next ≤ length all
  pub same : (line : ℕ) → number ≤ line → filter (λ f. is line f.line) all ≡ filter (λ f. is line f.line) (drop next all)
  pub from : AreFrom number (drop next all)
