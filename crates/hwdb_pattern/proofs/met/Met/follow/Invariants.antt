use Rattle.std.proofs.Common.{◌≡◌, [], length, ◌-◌, ◌≤◌}
use Rattle.hwdb_pattern.specs.Internal.Prefixes.{Along, Within}
use Rattle.hwdb_pattern.specs.Internal.Met.{lengths_of}
use Rattle.hwdb_pattern.proofs.met.Met.follow.Given as goal

abbrev pub invariant-following : goal.invariant-following
invariant-following l = record {
  at_in : l.at ≤ length l.text;
  within : Within l.device (lengths_of l.met);
  none : lengths_of l.fn.self ≡ [] → lengths_of l.met ≡ [];
  along : Along l.device (lengths_of l.fn.self) (lengths_of l.met) l.text l.at;
}

abbrev pub decreases-following : goal.decreases-following
decreases-following l = length l.text - l.at
