-- What an error of `diff` says of a side: its path, or the name of standard input. Our choice.
use Rattle.std.specs.Prelude.{◌≡◌, ◌⊎◌, Bool, List, Option, codes, false, if◌then◌else◌, true, ℕ}
use Rattle.hwdb_spec.specs.declared.errors.DiffError.{DiffError}
use Rattle.hwdb_spec.specs.declared.errors.DiffError.TheVariants.{Memory, New, Old}
use Rattle.hwdb_spec_commands.specs.Refusals.{IsAt}
use Rattle.hwdb_spec_commands.specs.declared.refusals.Refusal.{Refusal}
use Rattle.hwdb_spec_commands.specs.declared.refusals.Refusal.TheVariants.{Plain}
use Rattle.hwdb_spec.specs.declared.errors.ToolError.TheVariants.{BadDatabase, Memory as OutOfMemory}
use Rattle.hwdb_spec_commands.specs.Undone.{told_path}

-- what such an error becomes: a fault of a database gets its path, or the name of standard input
abbrev pub IsOfDiff : DiffError → (old_path new_path : List ℕ) → Refusal → Type 0
IsOfDiff (Old fault) old_path new_path refusal = IsAt (BadDatabase fault) (told_path old_path) refusal
IsOfDiff (New fault) old_path new_path refusal = IsAt (BadDatabase fault) (told_path new_path) refusal
IsOfDiff Memory old_path new_path refusal = refusal ≡ Plain OutOfMemory
