use Rattle.std.proofs.Common.{◌∙◌, inl, subst, ℕ}
use Rattle.hwdb_spec.specs.Failures.{HasFailed}
use Rattle.hwdb_system.proofs.LineLemmas.{next_taken, cut_text}
use Rattle.hwdb_system.proofs.refusals.refuse_in_parts.Goals as goal

pub writing-preserved : goal.writing-preserved
writing-preserved g c = record {
  taken = next_taken c.args.name c.args.parts.now c.writing.i _ _ _ _ c.writing-test.true c.writing.invariant.taken c.in-Ok.ensures.took.whole;
  same = c.in-Ok.ensures.took.unfailed ∙ c.writing.invariant.same;
  flushed = λ before. c.in-Ok.ensures.flushed (c.writing.invariant.flushed before);
}

pub returns-in-Err-clause-line : goal.returns-in-Err-clause-line
returns-in-Err-clause-line g c =
    let failed : ℕ → Type 0 = λ n. HasFailed n (g.E.Sink.failures c.write_part.new.err) in
    record {
      prefix = cut_text c.args.name c.args.parts.now c.writing.i _ _ _ _ c.writing-test.true c.writing.invariant.taken c.in-Err.ensures.cut_short.prefix;
      whole = inl (subst failed c.writing.invariant.same (c.one_failed_has_failed.ensures _ _ c.in-Err.ensures.cut_short.failed));
    }
