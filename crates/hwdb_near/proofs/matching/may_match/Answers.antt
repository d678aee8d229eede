use Rattle.std.proofs.Common.{arith}
use Rattle.hwdb_near.proofs.MatchingLemmas.{goes_on, other_byte, no_byte}
use Rattle.hwdb_near.proofs.matching.may_match.Goals as goal

pub returns-then-at-device : goal.returns-then-at-device
returns-then-at-device c = λ e.
    no_byte c.args.pattern.now c.args.device.now c.loop-at.at _ c.loop-at-test.true (omega (arith, c.if-at-device.true))
    (c.is_plain.ensures.no_star c.if-is_plain.true) (c.is_plain.ensures.no_mark c.if-is_plain.true) (c.is_plain.ensures.no_bracket c.if-is_plain.true) c.loop-at.invariant.same

pub returns-then-device-at : goal.returns-then-device-at
returns-then-device-at c = λ e.
    other_byte c.args.pattern.now c.args.device.now c.loop-at.at _ c.loop-at-test.true (let within = c.loop-at.invariant.in_device in let ne = c.if-at-device.false in omega (arith, within, ne))
    (c.is_plain.ensures.no_star c.if-is_plain.true) (c.is_plain.ensures.no_mark c.if-is_plain.true) (c.is_plain.ensures.no_bracket c.if-is_plain.true) c.if-device-at.true c.loop-at.invariant.same

pub loop-at-preserved : goal.loop-at-preserved
loop-at-preserved c =
    let within = c.loop-at.invariant.in_device in
    let ne = c.if-at-device.false in
    record {
      in_pattern = omega (arith, c.loop-at-test.true);
      in_device = omega (arith, within, ne);
      same = goes_on c.args.pattern.now c.args.device.now c.loop-at.at _ c.loop-at-test.true (omega (arith, within, ne))
          (c.is_plain.ensures.no_star c.if-is_plain.true) (c.is_plain.ensures.no_mark c.if-is_plain.true) (c.is_plain.ensures.no_bracket c.if-is_plain.true) c.if-device-at.false c.loop-at.invariant.same;
    }
