use Rattle.std.proofs.Common.{◌∙◌, arith, refl, sym}
use Rattle.hwdb_spec_commands.specs.ScanAsked.{most_scanned}
use Rattle.hwdb_scan.proofs.EnoughLemmas.{goes_on, nothing_read, read_on}
use Rattle.hwdb_scan.proofs.ScanningLemmas.{begun, end_taken, over_taken, room_taken}
use Rattle.hwdb_scan.proofs.scanning.run_scan.Goals as goal
use Rattle.hwdb_scan.specs.Views.{scanning_of}

pub scanning-init : goal.scanning-init
scanning-init g c = record {
  so_far = begun most_scanned c.args.count (g.I.Source.left c.args.input.now) (g.O.Sink.taken c.args.out.now) (scanning_of c.new-scanner.result) c.new-scanner.ensures;
  enough = nothing_read c.args.count (g.I.Source.left c.args.input.now) (scanning_of c.new-scanner.result) c.new-scanner.ensures;
  same_input = refl;
  same_out = refl;
  flushed = λ f. f;
}

pub scanning-preserved : goal.scanning-preserved
scanning-preserved g c = record {
  so_far = c.in-Ok.ensures.went.so most_scanned c.args.count (g.I.Source.left c.args.input.now) (g.O.Sink.taken c.args.out.now) c.scanning.invariant.so_far;
  enough = goes_on c.args.count (g.I.Source.left c.args.input.now) (g.I.Source.left c.scanning.input) (g.I.Source.left c.scan_once.new.input) (scanning_of c.scanning.scanner) (scanning_of c.scan_once.new.scanner)
      _ c.scanning.invariant.enough (sym c.is_done.ensures ∙ c.if-is_done.false) c.in-Ok.ensures.piece c.in-Ok.ensures.piece.held;
  same_input = c.in-Ok.ensures.reads ∙ c.scanning.invariant.same_input;
  same_out = c.in-Ok.ensures.writes ∙ c.scanning.invariant.same_out;
  flushed = λ f. c.in-Ok.ensures.flushed (c.scanning.invariant.flushed f);
}

pub returns-in-Err-clause-scanned : goal.returns-in-Err-clause-scanned
returns-in-Err-clause-scanned g c = c.in-Err.ensures.stopped.1 most_scanned c.args.count (g.I.Source.left c.args.input.now) (g.O.Sink.taken c.args.out.now) c.scanning.invariant.so_far

pub returns-then-is_done-clause-scanned : goal.returns-then-is_done-clause-scanned
returns-then-is_done-clause-scanned g c =
    over_taken most_scanned c.args.count (g.I.Source.left c.args.input.now) (g.I.Source.left c.scanning.input) (g.O.Sink.taken c.args.out.now) (g.O.Sink.taken c.scanning.out) (scanning_of c.scanning.scanner) c.scanning.room c.scanning.invariant.so_far
    (sym c.is_done.ensures ∙ c.if-is_done.true)

pub returns-then-n-eq0-clause-scanned : goal.returns-then-n-eq0-clause-scanned
returns-then-n-eq0-clause-scanned g c =
    end_taken most_scanned c.args.count (g.I.Source.left c.args.input.now) (g.I.Source.left c.scan_once.new.input) (g.O.Sink.taken c.args.out.now) (g.O.Sink.taken c.scan_once.new.out) (scanning_of c.scan_once.new.scanner) _
    (c.in-Ok.ensures.went.so most_scanned c.args.count (g.I.Source.left c.args.input.now) (g.O.Sink.taken c.args.out.now) c.scanning.invariant.so_far)
    (c.in-Ok.ensures.went.end c.if-n-eq0.true)

pub returns-clause-scanned : goal.returns-clause-scanned
returns-clause-scanned g c =
    let over = c.scanning-test.false in
    room_taken most_scanned c.args.count (g.I.Source.left c.args.input.now) (g.I.Source.left c.scanning.input) (g.O.Sink.taken c.args.out.now) (g.O.Sink.taken c.scanning.out) (scanning_of c.scanning.scanner) c.scanning.room c.scanning.invariant.so_far
    (omega (arith, over))

pub returns-in-Err-clause-enough : goal.returns-in-Err-clause-enough
returns-in-Err-clause-enough g c =
    read_on c.args.count (g.I.Source.left c.args.input.now) (g.I.Source.left c.scanning.input) (g.I.Source.left c.scan_once.new.input) (scanning_of c.scanning.scanner) (scanning_of c.scan_once.new.scanner) _
    c.scanning.invariant.enough (sym c.is_done.ensures ∙ c.if-is_done.false) c.in-Err.ensures.piece

pub returns-then-is_done-clause-enough : goal.returns-then-is_done-clause-enough
returns-then-is_done-clause-enough g c = c.scanning.invariant.enough.so_far

pub returns-then-n-eq0-clause-enough : goal.returns-then-n-eq0-clause-enough
returns-then-n-eq0-clause-enough g c =
    read_on c.args.count (g.I.Source.left c.args.input.now) (g.I.Source.left c.scanning.input) (g.I.Source.left c.scan_once.new.input) (scanning_of c.scanning.scanner) (scanning_of c.scan_once.new.scanner) _
    c.scanning.invariant.enough (sym c.is_done.ensures ∙ c.if-is_done.false) c.in-Ok.ensures.piece

pub returns-clause-enough : goal.returns-clause-enough
returns-clause-enough g c = c.scanning.invariant.enough.so_far
