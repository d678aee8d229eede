use Rattle.std.proofs.Common.{ℕ, refl}
use Rattle.std.proofs.lemmas.List.{get_or_default}
use Rattle.std.specs.Prelude.{flat_map}
use Rattle.byteorder.specs.Endian.{little_bytes}
use Rattle.hwdb_writer.proofs.EmissionLemmas.{made_more, made_all}
use Rattle.hwdb_writer.proofs.output.push_numbers.Goals as goal

pub loop-n-preserved : goal.loop-n-preserved
loop-n-preserved c =
    made_more (flat_map (little_bytes 8)) (λ (n : ℕ). little_bytes 8 n) (λ n ns. refl) c.args.numbers.now c.loop-n.n-index _
    (get_or_default c.args.numbers.now c.loop-n.n-index 0 _ c.loop-n-test.true) c.loop-n-test.true _ _ _ c.in_ok-push_u64.ensures c.loop-n.invariant

pub returns : goal.returns
returns c = made_all (flat_map (little_bytes 8)) refl c.args.numbers.now c.loop-n.n-index c.loop-n-test.false _ _ c.loop-n.invariant
