use Rattle.std.proofs.Common.{◌≡◌, ◌≤◌, drop, length, map, reverse}
use Rattle.hwdb_query.specs.Views.{assignment_of_answer}
use Rattle.hwdb_spec_commands.specs.NearAsked.{gathered, pattern_of}
use Rattle.hwdb_near.specs.Views.{pattern_at}
use Rattle.hwdb_near.proofs.databases.patterns_of.Given as goal

abbrev pub invariant-loop-left : goal.invariant-loop-left
invariant-loop-left l = record {
  within : l.left ≤ length l.found;
  gathered : reverse (map pattern_at l.patterns.items) ≡ gathered (map pattern_of (map assignment_of_answer (drop l.left l.found)));
}

abbrev pub decreases-loop-left : goal.decreases-loop-left
decreases-loop-left l = l.left
