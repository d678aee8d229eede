use Rattle.std.proofs.Common.{◌≡◌, ◌≤◌, ◌-◌, ◌+◌, length, vec_len}
use Rattle.std.specs.Io.KnownBytes.{Consumes}
use Rattle.hwdb_io.proofs.transfer.read_all.Given as goal

abbrev pub invariant-filling : goal.invariant-filling
invariant-filling g l = record {
  within : vec_len l.bytes ≤ l.limit;
  room : length l.chunk ≡ 65536;
  taken : Consumes (g.R.Source.left l.initial.source) (g.R.Source.left l.source) l.bytes.items;
  same : g.R.Source.failures l.source ≡ g.R.Source.failures l.initial.source;
}

abbrev pub decreases-filling : goal.decreases-filling
decreases-filling g l = l.limit + 1 - vec_len l.bytes
