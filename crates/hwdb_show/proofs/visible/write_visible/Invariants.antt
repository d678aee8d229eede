use Rattle.std.proofs.Common.{◌≡◌, ◌++◌, List, drop, ℕ}
use Rattle.std.specs.Io.KnownBytes.{Appends}
use Rattle.hwdb_spec.specs.Visible.{visible_after}
use Rattle.hwdb_show.proofs.visible.write_visible.Given as goal

abbrev pub invariant-writing : goal.invariant-writing
invariant-writing g l = record {
  written : (done : List ℕ) × (done ++ visible_after l.in_name l.left (drop l.i l.text) ≡ visible_after l.in_name 0 l.text)
      × Appends (g.W.Sink.taken l.initial.sink) (g.W.Sink.taken l.sink) done;
  same : g.W.Sink.failures l.sink ≡ g.W.Sink.failures l.initial.sink;
  flushed : g.W.Sink.is_flushed l.initial.sink → g.W.Sink.is_flushed l.sink;
}
