use Rattle.std.proofs.Common.{[], arith, refl}
use Rattle.hwdb_check.proofs.AmongLemmas.{all_met, next_known}
use Rattle.hwdb_check.proofs.among.are_among.Goals as goal

pub loop-known-init : goal.loop-known-init
loop-known-init c = record { within = omega arith; so_far = record { front = []; same = refl } }

pub loop-known-preserved : goal.loop-known-preserved
loop-known-preserved c = record {
  within = c.met_with-met.ensures.within;
  so_far =
      c.met_with-met.ensures.goes _ _ _
      (next_known _ _ _ c.args.before.now c.loop-known.known-index c.known-item.result c.loop-known-test.true c.known-item.is c.loop-known.invariant.so_far);
}

pub returns : goal.returns
returns c = λ e. all_met _ _ c.args.now.now c.loop-known.met _ e c.loop-known.invariant.so_far
