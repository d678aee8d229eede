use Rattle.std.proofs.Common.{◌≡◌, ◌-◌, ◌+◌, Bool, List, arith, drop, map, refl, subst, sym}
use Rattle.hwdb_spec.specs.Patterns.{Token}
use Rattle.hwdb_samples.specs.Internal.{IsRow, token_of}
use Rattle.hwdb_samples.proofs.OverlapLemmas.{dropped_token, within_all}
use Rattle.hwdb_samples.proofs.overlap.within.Goals as goal

pub loop-at-preserved : goal.loop-at-preserved
loop-at-preserved c =
    let i = c.loop-at.at - 1 in
    let le = c.loop-at.invariant.at_in in
    let back : i + 1 ≡ c.loop-at.at = omega (arith, c.loop-at-test.true) in
    let row = c.deref.ensures.value in
    record {
      at_in = omega (arith, le);
      size = c.in_ok-row-2.ensures.size;
      within =
          subst (λ (l : List Token). IsRow c.in_ok-row-2.row.items (map token_of c.args.unders.now) l) (sym (dropped_token c.args.overs.now i c.loop-at.at _ _ back le refl))
          (c.in_ok-row-2.ensures.within (drop c.loop-at.at (map token_of c.args.overs.now))
          (subst (λ (l : List Bool). IsRow l (map token_of c.args.unders.now) (drop c.loop-at.at (map token_of c.args.overs.now))) (sym row) c.loop-at.invariant.within));
    }

pub returns : goal.returns
returns c =
    let size = c.loop-at.invariant.size in
    within_all c.loop-at.row.items c.index.result.now (map token_of c.args.unders.now) (map token_of c.args.overs.now) c.loop-at.at (omega (arith, c.loop-at-test.false)) (omega (arith, size)) c.index.ensures c.loop-at.invariant.within
