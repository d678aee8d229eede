use Rattle.std.proofs.Common.{◌≡◌}
use Rattle.hwdb_reader.specs.Internal.Repeats.{StandFor}
use Rattle.hwdb_reader.proofs.repeats.Repeats.reduced.Given as goal

abbrev pub invariant-loop : goal.invariant-loop
invariant-loop l = record {
  same : l.self ≡ l.initial.self;
  stands : StandFor l.initial.self l.left l.right l.pair.left l.pair.right l.pair.count;
}
