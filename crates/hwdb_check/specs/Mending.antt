-- What the proofs of `mends` and of hints speak of.
use Rattle.std.specs.Prelude.{List, Option, None, Some, ℕ}
use Rattle.hwdb_spec_commands.specs.Fixes.{likely_meant, pattern_meant}
use Rattle.hwdb_spec_commands.specs.declared.WarningKind.{WarningKind}
use Rattle.hwdb_spec_commands.specs.declared.WarningKind.TheVariants.{Unlikely, Unmatched}
use Rattle.hwdb_check.specs.declared.mends.Mend.{Mend}
use Rattle.hwdb_check.specs.declared.mends.Mend.TheVariants.{Later, Sure, Unknown}

-- what comes of a step, if a pattern that goes wrong later is mended again
abbrev pub outcome : (again : List ℕ → ℕ → Option (List ℕ)) → Mend → Option (List ℕ)
outcome again Unknown = None
outcome again (Sure text) = Some text.items
outcome again (Later text place) = again text.items place

-- a pattern as it was likely meant, of which a warning is told; of other warnings nothing
abbrev pub pattern_mend : WarningKind → (pattern : List ℕ) → Option (List ℕ)
pattern_mend (Unmatched told) pattern = pattern_meant told pattern
pattern_mend (Unlikely told) pattern = likely_meant told pattern
pattern_mend kind pattern = None
