use Rattle.std.proofs.Common.{◌≡◌}
use Rattle.hwdb_spec_commands.specs.ScanAsked.{most_scanned}
use Rattle.hwdb_scan.proofs.scanning.run_scan.Given as goal
use Rattle.hwdb_scan.specs.Enough.{IsGoingOn}
use Rattle.hwdb_scan.specs.Internal.{IsScanning}
use Rattle.hwdb_scan.specs.Views.{scanning_of}

abbrev pub invariant-scanning : goal.invariant-scanning
invariant-scanning g l = record {
  so_far : IsScanning most_scanned l.fn.count (g.I.Source.left l.initial.input) (g.I.Source.left l.input) (g.O.Sink.taken l.initial.out) (g.O.Sink.taken l.out) (scanning_of l.scanner) l.room;
  enough : IsGoingOn l.fn.count (g.I.Source.left l.initial.input) (g.I.Source.left l.input) (scanning_of l.scanner);
  same_input : g.I.Source.failures l.input ≡ g.I.Source.failures l.initial.input;
  same_out : g.O.Sink.failures l.out ≡ g.O.Sink.failures l.initial.out;
  flushed : g.O.Sink.is_flushed l.initial.out → g.O.Sink.is_flushed l.out;
}

abbrev pub decreases-scanning : goal.decreases-scanning
decreases-scanning g l = l.room
