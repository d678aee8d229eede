use Rattle.std.proofs.Common.{◌≡◌, ◌≤◌, ◌-◌, ◌++◌, List, ℕ}
use Rattle.hwdb_pattern.specs.Views.{StandsFor}
use Rattle.hwdb_spec.specs.Format.{text_at}
use Rattle.hwdb_lookup.specs.Internal.Parts.{MayBeOf, size_of}
use Rattle.hwdb_lookup.proofs.arrivals.along_prefix.Given as goal

abbrev pub invariant-feeding : goal.invariant-feeding
invariant-feeding l = record {
  within : l.at ≤ size_of l.known;
  above : l.prefix ≤ l.at;
  stands : StandsFor l.reach l.path.items;
  same_device : l.reach.device ≡ l.fn.reach.device;
  whole : (file : List ℕ) → MayBeOf l.known file → l.path.items ++ text_at file l.at ≡ l.fn.path.items ++ text_at file l.prefix;
}

abbrev pub decreases-feeding : goal.decreases-feeding
decreases-feeding l = size_of l.known - l.at
