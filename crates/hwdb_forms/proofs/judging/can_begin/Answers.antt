use Rattle.std.proofs.Common.{ap, ◌∙◌}
use Rattle.hwdb_forms.specs.Internal.{forms_of}
use Rattle.hwdb_spec.specs.Forms.{can_match}
use Rattle.hwdb_forms.proofs.FrontLemmas.{starred, star_is}
use Rattle.hwdb_forms.proofs.judging.can_begin.Goals as goal

pub returns : goal.returns
returns c =
    c.in_ok-far.ensures.met
    ∙ ap (can_match (forms_of c.args.table)) (starred c.args.front.now c.in_ok-tokens.tokens.items c.deref.result.now _
    (c.deref.ensures.value ∙ c.in_ok-push.ensures.items) (c.in_ok-tokens.ensures.items_if_clones_equal (λ x y e. e)) star_is)
