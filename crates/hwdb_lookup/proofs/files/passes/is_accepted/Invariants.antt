use Rattle.std.proofs.Common.{◌-◌, ℕ, List}
use Rattle.hwdb_reader.specs.Passes.Views.{IsOf, Stands}
use Rattle.hwdb_lookup.specs.Files.Internal.{waiting}
use Rattle.hwdb_lookup.proofs.files.passes.is_accepted.Given as goal

abbrev pub invariant-passing : goal.invariant-passing
invariant-passing g l =
    (file : List ℕ) → g.P.Places.is_of l.places file → IsOf l.o file → Stands file (waiting l.pass) l.at

abbrev pub decreases-passing : goal.decreases-passing
decreases-passing g l = l.o.size - l.at
