use Rattle.std.proofs.Common.{◌∙◌, ap}
use Rattle.hwdb_spec.specs.Failures.{after_failure}
use Rattle.hwdb_query.specs.Views.{assignment_of_hit}
use Rattle.hwdb_spec_commands.specs.Listings.{line_of}
use Rattle.hwdb_answers.proofs.HitLineLemmas.{given, no_lines, not_reached, took_lines, whole_step, part_step, part_of_line, lines_step}
use Rattle.hwdb_answers.proofs.hit_lines.print_hits.Goals as goal

pub returns-in_err-write_text-clause-cut_short : goal.returns-in_err-write_text-clause-cut_short
returns-in_err-write_text-clause-cut_short g c = λ _.
    let all = given _ _ _ c.in-Some.hit c.in-Some.is c.in_ok-hit.ensures.gives in
    let cut = c.in_err-write_text.ensures.cut_short in
    record {
      prefix = c.printing.invariant.part _ (part_of_line (line_of c.args.json) _ _ _ _ _ (assignment_of_hit c.in-Some.hit) c.deref.result.now all (not_reached c.printing.left c.printing-test.ensures) (c.deref.ensures.value ∙ c.in_ok-set_line.ensures) cut.prefix);
      failed = cut.failed ∙ ap after_failure c.printing.invariant.same;
    }

pub printing-preserved : goal.printing-preserved
printing-preserved g c =
    let all = given _ _ _ c.in-Some.hit c.in-Some.is c.in_ok-hit.ensures.gives in
    let f = assignment_of_hit c.in-Some.hit in
    let line = c.deref.ensures.value ∙ c.in_ok-set_line.ensures in
    record {
      whole = λ end q. c.printing.invariant.whole end (whole_step (line_of c.args.json) _ _ end _ _ _ f c.deref.result.now all (not_reached c.printing.left c.printing-test.ensures) line c.in_ok-write_text.ensures.took.whole (rw c.one_less-left.ensures at q));
      part = λ end q. c.printing.invariant.part end (part_step (line_of c.args.json) _ _ end _ _ _ f c.deref.result.now all (not_reached c.printing.left c.printing-test.ensures) line c.in_ok-write_text.ensures.took.whole (rw c.one_less-left.ensures at q));
      lines = λ end q. c.printing.invariant.lines end (lines_step (line_of c.args.json) _ _ end _ _ _ f c.deref.result.now all (not_reached c.printing.left c.printing-test.ensures) line c.in_ok-write_text.ensures.took.whole (rw c.one_less-left.ensures at q));
      same = c.in_ok-write_text.ensures.took.unfailed ∙ c.printing.invariant.same;
      flushed = λ _. c.in_ok-write_text.ensures.flushed;
    }

pub returns-in_err-hit-clause-whole_lines : goal.returns-in_err-hit-clause-whole_lines
returns-in_err-hit-clause-whole_lines g c = λ _.
    took_lines (line_of c.args.json) _ _ _ _ _ (c.printing.invariant.lines _ (no_lines (line_of c.args.json) _ _)) c.printing.invariant.same

pub returns-in_err-set_line-clause-whole_lines : goal.returns-in_err-set_line-clause-whole_lines
returns-in_err-set_line-clause-whole_lines g c = λ _.
    took_lines (line_of c.args.json) _ _ _ _ _ (c.printing.invariant.lines _ (no_lines (line_of c.args.json) _ _)) c.printing.invariant.same
