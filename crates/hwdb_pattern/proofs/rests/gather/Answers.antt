use Rattle.std.proofs.Common.{arith}
use Rattle.hwdb_spec.specs.Patterns.{admits_byte, token_at}
use Rattle.hwdb_pattern.proofs.PlaceLemmas.{gathers_more, gathers_whole, none_next}
use Rattle.hwdb_pattern.proofs.rests.gather.Goals as goal

pub returns-in_default-clause-gathered : goal.returns-in_default-clause-gathered
returns-in_default-clause-gathered c =
    gathers_whole (admits_byte (token_at c.args.text.now)) c.args.bytes.now c.args.least c.loop-at.at c.loop-at.lengths.items
    c.loop-at.invariant.at_in c.loop-at.invariant.gathers c.in_default.ensures.none

pub loop-at-preserved : goal.loop-at-preserved
loop-at-preserved c =
    let next = c.in-Some.ensures.some in
    let within = next.within in
    record {
      at_in = omega (arith, within);
      gathers = gathers_more (admits_byte (token_at c.args.text.now)) c.args.bytes.now c.args.least c.loop-at.at c.in-Some.place c.loop-at.lengths.items c.push.new.self.items
          c.loop-at.invariant.gathers next c.in_ok-push.ensures.items;
    }

pub returns-then-len-eq-FEW-clause-free : goal.returns-then-len-eq-FEW-clause-free
returns-then-len-eq-FEW-clause-free c none = absurd (none_next c.in-Some.ensures.some none)

pub returns-in_err-push-clause-free : goal.returns-in_err-push-clause-free
returns-in_err-push-clause-free c none = absurd (none_next c.in-Some.ensures.some none)
