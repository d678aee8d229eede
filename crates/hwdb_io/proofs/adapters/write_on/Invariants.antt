-- A write that was interrupted appended nothing.
use Rattle.std.specs.Io.KnownBytes.{Keeps}
use Rattle.hwdb_io.proofs.adapters.write_on.Given as goal

abbrev pub invariant-tries : goal.invariant-tries
invariant-tries g l = Keeps (g.W.Write.contents l.initial.writer) (g.W.Write.contents l.writer)
