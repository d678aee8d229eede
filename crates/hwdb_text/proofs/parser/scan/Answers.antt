use Rattle.std.proofs.Common.{◌≡◌, ◌+◌, length, ap, arith, ◌∙◌, [], ◌∷◌, sym, List, ℕ}
use Rattle.std.proofs.lemmas.List.Elements.{All-same}
use Rattle.hwdb_spec.specs.Lines.{is, lines, pieces}
use Rattle.hwdb_spec.specs.Records.{assignments}
use Rattle.hwdb_text.specs.PiecesLeft.{lines_left}
use Rattle.hwdb_text.specs.Views.{origin, IsStorable}
use Rattle.hwdb_text.proofs.StoreLemmas.{assignments_storable}
use Rattle.hwdb_text.proofs.FileLemmas.{end_reads, first_count, first_reads, next_reads, none_left}
use Rattle.hwdb_text.proofs.parser.scan.Goals as goal

pub loop-text-init : goal.loop-text-init
loop-text-init c =
    let left = lines_left c.into_iter-text-iterator.result in
    let all : left ≡ pieces (is 10) c.args.bytes.now = ap lines_left c.into_iter-text-iterator.ensures.into_iter_gives ∙ c.new-text-items.ensures.lines in
    record {
      fits = omega arith;
      count = first_count c.args.bytes.now left all;
      none = none_left c.args.bytes.now left all;
      fresh = λ _. c.new-reader.ensures.fresh;
      reads = λ o. first_reads o c.args.bytes.now left c.new-reader.result all (c.new-reader.ensures.reads o (lines c.args.bytes.now));
    }

pub returns-in_err-number-clause-free : goal.returns-in_err-number-clause-free
returns-in_err-number-clause-free c = λ e.
    let more : length (lines_left c.loop-text.text-iterator) ≡ length (c.in-Some.text.now ∷ lines_left c.next.new.self) = ap length c.in-Some.ensures.steps in
    let none : length (lines_left c.loop-text.text-iterator) ≡ 0 = ap length (c.loop-text.invariant.none e) in
    absurd (omega (arith, more, none))

pub loop-text-preserved : goal.loop-text-preserved
loop-text-preserved c =
    let more : length (lines_left c.loop-text.text-iterator) ≡ length (c.in-Some.text.now ∷ lines_left c.next.new.self) = ap length c.in-Some.ensures.steps in
    record {
      fits = c.in_ok-number.ensures.fits;
      count = let n = c.in_ok-number.ensures.next in let m = c.loop-text.invariant.count in omega (arith, n, m, more);
      none = λ e. let none : length (lines_left c.loop-text.text-iterator) ≡ 0 = ap length (c.loop-text.invariant.none e) in absurd (omega (arith, more, none));
      fresh = λ e. let none : length (lines_left c.loop-text.text-iterator) ≡ 0 = ap length (c.loop-text.invariant.none e) in absurd (omega (arith, more, none));
      reads = λ o. next_reads o (lines c.args.bytes.now) c.loop-text.number c.in_ok-number.number c.in-Some.text.now _ (lines_left c.next.new.self) c.loop-text.reader c.line.new.self
          c.in-Some.ensures.steps c.in_ok-number.ensures.next (c.in_ok-line.ensures o) (c.loop-text.invariant.reads o);
    }

pub returns-in_err-line-clause-free : goal.returns-in_err-line-clause-free
returns-in_err-line-clause-free c = λ e.
    let more : length (lines_left c.loop-text.text-iterator) ≡ length (c.in-Some.text.now ∷ lines_left c.next.new.self) = ap length c.in-Some.ensures.steps in
    let none : length (lines_left c.loop-text.text-iterator) ≡ 0 = ap length (c.loop-text.invariant.none e) in
    absurd (omega (arith, more, none))

pub returns-clause-assignments : goal.returns-clause-assignments
returns-clause-assignments c = λ o.
    c.in_ok-finish.ensures.assignments o (lines c.args.bytes.now)
    (end_reads o (lines c.args.bytes.now) (c.loop-text.number + 1) _ c.loop-text.reader c.in-None.ensures.steps.0 (c.loop-text.invariant.reads o))

pub returns-clause-faults : goal.returns-clause-faults
returns-clause-faults c =
    let o = origin [] 0 in
    c.in_ok-finish.ensures.faults o (lines c.args.bytes.now)
    (end_reads o (lines c.args.bytes.now) (c.loop-text.number + 1) _ c.loop-text.reader c.in-None.ensures.steps.0 (c.loop-text.invariant.reads o))

pub returns-clause-storable : goal.returns-clause-storable
returns-clause-storable c = λ o.
    All-same IsStorable _ (assignments o c.args.bytes.now) (returns-clause-assignments c o) (assignments_storable o c.args.bytes.now)
