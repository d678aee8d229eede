use Rattle.std.proofs.Common.{◌≡◌, ◌≤◌, ◌-◌, ◌+◌, false, length, vec_len}
use Rattle.std.specs.Io.KnownBytes.{Consumes}
use Rattle.hwdb_spec.specs.Lines.{has}
use Rattle.hwdb_answers.specs.Streams.{held, to_come}
use Rattle.hwdb_answers.proofs.chunk.LineReader.next_line.Given as goal

abbrev pub invariant-reading : goal.invariant-reading
invariant-reading g l = record {
  within : vec_len l.line ≤ l.max_bytes;
  free : has 10 l.line.items ≡ false;
  read : Consumes (to_come l.initial.self (g.I.Source.left l.initial.source)) (to_come l.self (g.I.Source.left l.source)) l.line.items;
  same : g.I.Source.failures l.source ≡ g.I.Source.failures l.initial.source;
}

abbrev pub decreases-reading : goal.decreases-reading
decreases-reading g l = l.max_bytes + 65537 - (vec_len l.line + length (held l.self))
