use Rattle.std.proofs.Common.{◌<◌, IfSome}
use Rattle.hwdb_reader.specs.Internal.Repeats.{AgreeInside}
use Rattle.hwdb_reader.proofs.repeats.Repeats.nearest.Given as goal

abbrev pub invariant-loop-k : goal.invariant-loop-k
invariant-loop-k l = IfSome l.best (λ c. AgreeInside l.self l.place c.place c.count × (0 < c.count) × (c.by < 64))
