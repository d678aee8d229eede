use Rattle.std.proofs.Common.{◌≡◌, ◌≤◌, ◌-◌, ◌+◌, arith, inl, inr, length, subst, sym, take, ℕ}
use Rattle.std.proofs.lemmas.List.{length-take-le}
use Rattle.hwdb_scan.proofs.EnoughLemmas.{no_piece, one_piece, told_error}
use Rattle.hwdb_scan.proofs.ScanningLemmas.{gone_on, read_failed, tell_failed}
use Rattle.hwdb_scan.proofs.scanning.scan_once.Goals as goal
use Rattle.hwdb_scan.specs.Scanning.{IsScanError}
use Rattle.hwdb_scan.specs.Views.{scanning_of}

pub returns-in-Err-clause-stopped : goal.returns-in-Err-clause-stopped
returns-in-Err-clause-stopped g c = (
  subst IsScanError (sym c.in-Err.ensures.kept.0) tt,
  λ most count left taken is.
      read_failed most count left (g.I.Source.left c.args.input.now) taken (g.O.Sink.taken c.args.out.now) (scanning_of c.args.scanner.now) c.args.room is c.in-Err.error (g.I.Source.left c.read_piece.new.input)
      c.in-Err.ensures.kept,
)

pub returns-in-Err-tell-clause-stopped : goal.returns-in-Err-tell-clause-stopped
returns-in-Err-tell-clause-stopped g c = (
  told_error c.in-Err-tell.error _ _ _ _ _ c.in-Err-tell.ensures.stopped,
  λ most count left taken is.
      let n = c.in-Ok.n in
      let chunk = c.read_piece.new.chunk in
      let piece = take n chunk in
      let few = c.in-Ok.ensures.few in
      let size = c.read_piece.ensures.same in
      let shorter : n ≤ length chunk = omega (arith, few, size) in
      let long : length piece ≡ n = length-take-le n chunk shorter in
      let within = c.in-Ok.ensures.within in
      tell_failed most count left (g.I.Source.left c.args.input.now) taken (g.O.Sink.taken c.args.out.now) (scanning_of c.args.scanner.now) c.args.room is c.in-Err-tell.error
      (g.I.Source.left c.read_piece.new.input) (g.O.Sink.taken c.tell.new.out) piece _ _ (subst (λ (m : ℕ). m ≤ c.args.room) (sym long) within) c.in-Ok.ensures.read c.in-Err-tell.ensures.stopped,
)

pub returns-in-Ok-tell-clause-went : goal.returns-in-Ok-tell-clause-went
returns-in-Ok-tell-clause-went g c = record {
  within = c.in-Ok.ensures.within;
  end = c.in-Ok.ensures.end;
  so = λ most count left taken is.
      let n = c.in-Ok.n in
      let chunk = c.read_piece.new.chunk in
      let piece = take n chunk in
      let few = c.in-Ok.ensures.few in
      let size = c.read_piece.ensures.same in
      let shorter : n ≤ length chunk = omega (arith, few, size) in
      let long : length piece ≡ n = length-take-le n chunk shorter in
      let within = c.in-Ok.ensures.within in
      let fewer : length piece + (c.args.room - n) ≡ c.args.room = omega (arith, long, within) in
      gone_on most count left (g.I.Source.left c.args.input.now) taken (g.O.Sink.taken c.args.out.now) (scanning_of c.args.scanner.now) c.args.room is
      (g.I.Source.left c.read_piece.new.input) (g.O.Sink.taken c.tell.new.out) (scanning_of c.tell.new.scanner) (c.args.room - n) piece c.in-Ok.ensures.read c.in-Ok-tell.ensures.held c.in-Ok-tell.ensures.took.whole fewer;
}

pub returns-in-Err-clause-piece : goal.returns-in-Err-clause-piece
returns-in-Err-clause-piece g c = no_piece (g.I.Source.left c.args.input.now) (g.I.Source.left c.read_piece.new.input) (scanning_of c.args.scanner.now) (scanning_of c.args.scanner.now) _ c.in-Err.ensures.kept.1 tt

pub returns-in-Err-tell-clause-piece : goal.returns-in-Err-tell-clause-piece
returns-in-Err-tell-clause-piece g c =
    one_piece (g.I.Source.left c.args.input.now) (g.I.Source.left c.read_piece.new.input) (scanning_of c.args.scanner.now) (scanning_of c.tell.new.scanner) _ c.in-Ok.n c.read_piece.new.chunk
    c.read_piece.ensures.same c.in-Ok.ensures.few c.in-Ok.ensures.read tt

pub returns-in-Ok-tell-clause-piece : goal.returns-in-Ok-tell-clause-piece
returns-in-Ok-tell-clause-piece g c =
    one_piece (g.I.Source.left c.args.input.now) (g.I.Source.left c.read_piece.new.input) (scanning_of c.args.scanner.now) (scanning_of c.tell.new.scanner) _ c.in-Ok.n c.read_piece.new.chunk
    c.read_piece.ensures.same c.in-Ok.ensures.few c.in-Ok.ensures.read c.in-Ok-tell.ensures.held
