use Rattle.std.proofs.Common.{arith, add-one, ◌+◌}
use Rattle.hwdb_forms.proofs.LikeLemmas.{all_lowered, byte_lowered}
use Rattle.hwdb_forms.proofs.likeness.in_lower.Goals as goal

pub loop-byte-preserved : goal.loop-byte-preserved
loop-byte-preserved c =
    byte_lowered c.args.text.now c.loop-byte.made.items c.push.new.self.items c.loop-byte.byte-index (c.loop-byte.byte-index + 1) _ c.lower.result (omega arith) (add-one c.loop-byte.byte-index) c.lower.ensures
    c.in_ok-push.ensures.items c.loop-byte.invariant

pub returns : goal.returns
returns c = all_lowered c.args.text.now c.loop-byte.made.items c.loop-byte.byte-index c.loop-byte-test.false c.loop-byte.invariant
