use Rattle.hwdb_rules.proofs.BitLemmas.{same_bits}
use Rattle.hwdb_rules.proofs.inputs.Bits.of.Goals as goal

pub returns : goal.returns
returns c =
    same_bits _ _ _ _ _ _ _ _ _ _ c.in_ok-mask.ensures c.in_ok-mask-2.ensures c.in_ok-mask-3.ensures c.in_ok-mask-4.ensures c.in_ok-mask-5.ensures
