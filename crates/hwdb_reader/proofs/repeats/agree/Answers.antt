use Rattle.std.proofs.Common.{arith, refl}
use Rattle.hwdb_reader.proofs.CopyLemmas.{agreed, agreed_same, slices_same, slices_differ, false_true}
use Rattle.hwdb_reader.proofs.repeats.agree.Goals as goal

pub returns-then-ne : goal.returns-then-ne
returns-then-ne c = (
  λ t. absurd (false_true t),
  λ h. absurd (slices_differ _ _ _ c.ne.ensures c.if-ne.true (agreed_same c.args.b.now c.args.pair.left c.args.pair.right c.args.pair.count _ _ (omega arith) (omega arith) c.requires.left c.requires.right h)),
)

pub returns-in-None : goal.returns-in-None
returns-in-None c = (
  λ _. agreed c.args.b.now c.args.pair.left c.args.pair.right c.args.pair.count _ _ (omega arith) (omega arith) c.requires.left (slices_same _ _ _ c.ne.ensures c.if-ne.false) c.in-None.ensures,
  λ _. refl,
)
