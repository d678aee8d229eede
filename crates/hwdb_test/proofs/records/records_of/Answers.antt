use Rattle.std.proofs.Common.{◌∙◌, ◌+◌, ap, sym, drop, length, arith}
use Rattle.std.proofs.lemmas.List.{take_rest, length-drop}
use Rattle.hwdb_spec.specs.Lines.{clean, is, numbered, pieces}
use Rattle.hwdb_test.specs.Internal.{read_with}
use Rattle.hwdb_test.proofs.LineLemmas.{first_line, no_line}
use Rattle.hwdb_test.proofs.RecordLemmas.{no_more}
use Rattle.hwdb_test.proofs.records.records_of.Goals as goal

pub loop-at-preserved : goal.loop-at-preserved
loop-at-preserved c =
    let rest = take_rest c.args.bytes.now c.loop-at.at in
    record {
      at_in = omega (arith, c.end_of-end.ensures.within, ap length rest, length-drop c.loop-at.at c.args.bytes.now);
      near = omega arith;
      found =
          c.in_ok-line.ensures (numbered (c.loop-at.number + 1) (pieces (is 10) (drop (c.loop-at.at + c.end_of-end.result + 1) c.args.bytes.now)))
          ∙ sym (ap (λ ls. read_with c.loop-at.reading (clean ls)) (first_line c.args.bytes.now c.loop-at.at c.end_of-end.result c.loop-at.number _ c.loop-at-test.true rest c.end_of-end.ensures.place))
          ∙ c.loop-at.invariant.found;
    }

pub returns : goal.returns
returns c =
    c.in_ok-end.ensures.ended
    ∙ sym (no_more _ _ _ (no_line c.args.bytes.now c.loop-at.at c.loop-at.number c.loop-at-test.false))
    ∙ c.loop-at.invariant.found
