use Rattle.std.proofs.Common.{◌∙◌, subst, List, ℕ}
use Rattle.hwdb_reader.specs.Internal.Repeats.{StandFor}
use Rattle.hwdb_reader.proofs.repeats.Repeats.reduced.Goals as goal

pub loop-preserved : goal.loop-preserved
loop-preserved c =
    let now = c.in-Some.nearer in
    let still = c.loop.invariant.same in
    record {
      same = c.in-Some.ensures.same ∙ still;
      stands = subst (λ (b : List ℕ). StandFor b c.args.left c.args.right c.loop.pair.left c.loop.pair.right c.loop.pair.count → StandFor b c.args.left c.args.right now.left now.right now.count) still
          (c.in-Some.ensures.stands c.args.left c.args.right) c.loop.invariant.stands;
    }
