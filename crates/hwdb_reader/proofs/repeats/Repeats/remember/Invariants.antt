use Rattle.std.proofs.Common.{◌≡◌, ◌<◌}
use Rattle.hwdb_reader.proofs.repeats.Repeats.remember.Given as goal

abbrev pub invariant-loop-k : goal.invariant-loop-k
invariant-loop-k l = record {
  same : l.self ≡ l.initial.self;
  low : l.oldest < 64;
}
