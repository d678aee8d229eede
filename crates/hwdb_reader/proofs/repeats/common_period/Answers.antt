use Rattle.std.proofs.Common.{◌/◌, ◌%◌, sym, arith}
use Rattle.std.proofs.Math.Nat.{div-add-mod}
use Rattle.std.proofs.lemmas.Nat.{mod_below}
use Rattle.hwdb_reader.proofs.RunLemmas.{remainder}
use Rattle.hwdb_reader.proofs.repeats.common_period.Goals as goal

pub loop-a-preserved : goal.loop-a-preserved
loop-a-preserved c =
    let parts = div-add-mod c.loop-a.a c.loop-a.b in
    let less = mod_below c.loop-a.a c.loop-a.b c.loop-a.invariant.some in
    record {
      some = omega (arith, c.loop-a-test.true);
      shorter = omega (arith, less, c.loop-a.invariant.shorter);
      period = λ at s e room long short.
          let p = c.loop-a.invariant.period at s e room long short in (
            omega (arith, p.0, parts),
            p.2,
            remainder at s e c.loop-a.a c.loop-a.b (c.loop-a.a / c.loop-a.b) (c.loop-a.a % c.loop-a.b) (sym parts) p.1 p.2 p.0,
          );
    }
