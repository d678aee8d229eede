-- How far some tokens go along a device, and which of its prefixes they match.
use Rattle.std.specs.Prelude.{List, ℕ}
use Rattle.hwdb_spec.specs.Patterns.{Token}
use Rattle.hwdb_pattern.specs.Views.{Lengths}
use Rattle.hwdb_pattern.specs.Internal.Met.{lengths_of}
use Rattle.hwdb_pattern.specs.Internal.Prefixes.{Within}
use Rattle.hwdb_pattern.specs.declared.met.Met.{Met}

-- the lengths are those of the prefixes that the tokens match
pub record AreAfter (ts : List Token) (device : List ℕ) (met : Met) : Type 0 where
  pub are : Lengths ts device (lengths_of met)
  pub within : Within device (lengths_of met)
