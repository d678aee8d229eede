-- `query` and `explain` of the devices of their words, or with a lone `-` of those that standard input names, one a line. What
-- they print, and their errors. Our choice.
use Rattle.std.specs.Prelude.{◌<◌, ◌≡◌, IfSome, List, Option, codes, length, ℕ}
use Rattle.hwdb_spec_commands.specs.Refusals.{IsAt, IsOfDatabase}
use Rattle.hwdb_spec_commands.specs.declared.refusals.Refusal.{Refusal}
use Rattle.hwdb_spec_commands.specs.declared.refusals.Refusal.TheVariants.{Plain}
use Rattle.hwdb_spec.specs.declared.errors.ToolError.{ToolError}
use Rattle.hwdb_spec.specs.declared.errors.ToolError.TheVariants.{Read, TooLong}

-- what an error becomes: one of the input says so, and one of the database has its path
abbrev pub IsOfInput : ToolError → (path : List ℕ) → Refusal → Type 0
IsOfInput Read path refusal = IsAt Read (codes "standard input") refusal
IsOfInput TooLong path refusal = IsAt TooLong (codes "a line of standard input") refusal
IsOfInput error path refusal = IsOfDatabase error path refusal

-- the same of the input as a whole
abbrev pub IsOfWholeInput : ToolError → Refusal → Type 0
IsOfWholeInput Read refusal = IsAt Read (codes "standard input") refusal
IsOfWholeInput TooLong refusal = IsAt TooLong (codes "standard input") refusal
IsOfWholeInput error refusal = refusal ≡ Plain error
