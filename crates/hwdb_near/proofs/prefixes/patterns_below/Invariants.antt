use Rattle.std.proofs.Common.{◌≡◌, filter, map, take}
use Rattle.hwdb_spec_commands.specs.NearPrefixes.{is_below}
use Rattle.hwdb_near.specs.Views.{pattern_at}
use Rattle.hwdb_near.proofs.prefixes.patterns_below.Given as goal

abbrev pub invariant-loop-at : goal.invariant-loop-at
invariant-loop-at l = map pattern_at l.kept.items ≡ filter (is_below l.prefix) (map pattern_at (take l.at-index l.patterns))
