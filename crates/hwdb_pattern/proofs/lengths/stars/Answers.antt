use Rattle.std.proofs.Common.{◌+◌, ◌-◌, arith, take, drop, replicate}
use Rattle.std.specs.Cmp.Lexicographic.{same_text}
use Rattle.hwdb_pattern.proofs.PathLemmas.{star_block}
use Rattle.hwdb_pattern.proofs.lengths.stars.Goals as goal

pub loop-at-preserved : goal.loop-at-preserved
loop-at-preserved c =
    let at = c.loop-at.at in
    record {
      at_in = omega arith;
      stars = star_block c.args.text.now at (at + 64 - at) (omega arith)
          (same_text (take (at + 64 - at) (drop at c.args.text.now)) (replicate 64 42) c.if-eq.ensures) c.loop-at.invariant.stars;
    }
