use Rattle.std.proofs.Common.{◌≡◌, ◌≤◌, take, map}
use Rattle.hwdb_spec_commands.specs.Near.{literals}
use Rattle.hwdb_pattern.specs.Fronts.{token_of}
use Rattle.hwdb_near.proofs.rating.literals.Given as goal

abbrev pub invariant-loop-token : goal.invariant-loop-token
invariant-loop-token l = record {
  count : l.count ≡ literals (map token_of (take l.token-index l.tokens));
  within : l.count ≤ l.token-index;
}
