-- Our own words: the lengths of the prefixes that are met, as the code holds them.
use Rattle.std.specs.Prelude.{List, [], ◌∷◌, ℕ}
use Rattle.hwdb_pattern.specs.declared.met.Met.{Met}
use Rattle.hwdb_pattern.specs.declared.met.Met.TheVariants.{Lone, Few, From, Many}
use Rattle.hwdb_pattern.specs.Internal.Places.{rest_lengths}
use Rattle.hwdb_pattern.specs.Internal.Tables.{said}

-- a lone one, those of a list, all from one on, or those that the table says
abbrev pub lengths_of : Met → List ℕ
lengths_of (Lone length) = length ∷ []
lengths_of (Few lengths) = lengths.items
lengths_of (From rest) = rest_lengths rest.least rest.count
lengths_of (Many table) = said table.least table.says.items
