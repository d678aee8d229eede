use Rattle.std.proofs.Common.{◌∙◌, arith, subst, List, ℕ, ◌+◌}
use Rattle.hwdb_reader.specs.Internal.Repeats.{AgreeInside}
use Rattle.hwdb_reader.proofs.AgreeLemmas.{agree_on}
use Rattle.hwdb_reader.proofs.repeats.Repeats.agreeing.Goals as goal

pub loop-size-preserved : goal.loop-size-preserved
loop-size-preserved c =
    let still = c.loop-size.invariant.same in
    record {
      same = c.advance-more.ensures.same ∙ still;
      small = omega arith;
      agree = agree_on c.args.self.now c.args.left c.args.right c.loop-size.count c.advance-more.result c.loop-size.invariant.agree
          (subst (λ (b : List ℕ). AgreeInside b (c.args.left + c.loop-size.count) (c.args.right + c.loop-size.count) c.advance-more.result) still c.advance-more.ensures.agree);
      ends = λ none. absurd (omega (arith, none));
    }
