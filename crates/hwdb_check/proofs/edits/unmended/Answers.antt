use Rattle.std.proofs.Common.{ap, arith, length, refl}
use Rattle.hwdb_text.specs.PiecesLeft.{lines_left}
use Rattle.hwdb_check.specs.Patching.{edits_of}
use Rattle.hwdb_check.proofs.EditLemmas.{all_lines, next_line}
use Rattle.hwdb_check.proofs.edits.unmended.Goals as goal

pub loop-old-preserved : goal.loop-old-preserved
loop-old-preserved c = record {
  near = omega (arith, ap length c.in-Some.ensures.steps, c.loop-old.invariant.near);
  lines = next_line (edits_of c.loop-old.all.items) _ _ c.loop-old.number (lines_left c.loop-old.old-iterator) c.in-Some.old.now (lines_left c.next.new.self) _ c.in_ok-put_edit.ensures refl
      c.in-Some.ensures.steps c.loop-old.invariant.lines;
}

pub returns : goal.returns
returns c = all_lines c.loop-old.all.items c.loop-old.number (lines_left c.loop-old.old-iterator) _ c.in-None.ensures.steps.0 c.loop-old.invariant.lines
