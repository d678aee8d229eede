use Rattle.std.proofs.Common.{◌≡◌, take}
use Rattle.std.specs.List.{concat}
use Rattle.std.specs.Io.KnownBytes.{Appends}
use Rattle.hwdb_system.specs.Internal.{said_parts}
use Rattle.hwdb_system.proofs.refusals.refuse_in_parts.Given as goal

abbrev pub invariant-writing : goal.invariant-writing
invariant-writing g l = record {
  taken : Appends (g.E.Sink.taken l.initial.err) (g.E.Sink.taken l.err) (concat (said_parts l.name 0 (take l.i l.parts)));
  same : g.E.Sink.failures l.err ≡ g.E.Sink.failures l.initial.err;
  flushed : g.E.Sink.is_flushed l.initial.err → g.E.Sink.is_flushed l.err;
}
