use Rattle.std.proofs.Common.{length, refl}
use Rattle.hwdb_forms.specs.Internal.{places}
use Rattle.hwdb_forms.proofs.WalkLemmas.{begun_met}
use Rattle.hwdb_forms.proofs.walks.begun.Goals as goal

pub returns-clause-met : goal.returns-clause-met
returns-clause-met c = λ us. begun_met c.in_ok-now.now.items _ (places c.args.steps.now) (length c.args.steps.now) c.args.entry us (c.in_ok-now.ensures.items_if_clones_equal (λ y e. e)) c.requires refl
