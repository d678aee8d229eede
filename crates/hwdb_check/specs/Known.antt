-- What a baseline has, line by line, and why it isn't taken.
use Rattle.std.specs.Prelude.{◌≡◌, ◌++◌, ℕ, List, Result, Ok, Err}
use Rattle.hwdb_check.specs.declared.baselines.BaselineFault.{BaselineFault}
use Rattle.hwdb_check.specs.declared.baselines.BaselineFault.TheVariants.{Line, Memory}

-- it is the first line that has no finding, or memory was refused
abbrev pub IsWrong : Result (List (List ℕ)) ℕ → BaselineFault → Type 0
IsWrong marks (Line number) = marks ≡ Err number
IsWrong marks Memory = Unit {0}

-- these texts, before those that are still to come
abbrev pub after_marks : (marks : List (List ℕ)) → Result (List (List ℕ)) ℕ → Result (List (List ℕ)) ℕ
after_marks marks (Ok more) = Ok (marks ++ more)
after_marks marks (Err number) = Err number
