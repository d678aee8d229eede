use Rattle.std.proofs.Common.{◌∙◌, ◌++◌, ap, arith, subst, List, ℕ}
use Rattle.std.specs.Io.KnownBytes.{Appends}
use Rattle.std.specs.Prelude.{slice_index}
use Rattle.std.proofs.KnownBytes.{Appends-trans}
use Rattle.hwdb_spec.specs.Failures.{after_failure}
use Rattle.hwdb_spec.specs.Visible.{shown_as}
use Rattle.hwdb_show.proofs.VisibleLemmas.{all_shown, cut_within, piece_more}
use Rattle.hwdb_show.proofs.visible.write_visible.Goals as goal

pub writing-preserved : goal.writing-preserved
writing-preserved g c =
    let text = c.args.text.now in
    let so_far = c.writing.invariant.written in
    record {
      written = (
        so_far.0 ++ shown_as c.step_at-next.result.kept (slice_index text c.writing.i),
        piece_more _ so_far.0 _ _ _ so_far.1 c.step_at-next.ensures,
        Appends-trans _ _ _ so_far.0 _ so_far.2 c.in-Ok.ensures.took.whole,
      );
      same = c.in-Ok.ensures.took.unfailed ∙ c.writing.invariant.same;
      flushed = λ _. c.in-Ok.ensures.flushed;
    }

pub returns-in-Err-clause-cut_short : goal.returns-in-Err-clause-cut_short
returns-in-Err-clause-cut_short g c =
    let so_far = c.writing.invariant.written in
    record {
      prefix = cut_within _ so_far.0 _ _ _ _ _ (piece_more _ so_far.0 _ _ _ so_far.1 c.step_at-next.ensures) so_far.2 c.in-Err.ensures.cut_short.prefix;
      failed = c.in-Err.ensures.cut_short.failed ∙ ap after_failure c.writing.invariant.same;
    }

pub returns-clause-took : goal.returns-clause-took
returns-clause-took g c =
    let past = c.writing-test.false in
    let so_far = c.writing.invariant.written in
    let P : List ℕ → Type 0 = λ l. Appends (g.W.Sink.taken c.args.sink.now) (g.W.Sink.taken c.writing.sink) l in
    record {
      whole = subst P (all_shown c.args.in_name c.args.text.now so_far.0 _ c.writing.i c.writing.left (omega (arith, past)) so_far.1) so_far.2;
      unfailed = c.writing.invariant.same;
    }
