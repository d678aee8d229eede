use Rattle.std.proofs.Common.{◌∙◌, [], List, ap}
use Rattle.std.proofs.lemmas.List.{append-nil}
use Rattle.hwdb_spec.specs.Patterns.{Token}
use Rattle.hwdb_spec.specs.Forms.{meets_form}
use Rattle.hwdb_forms.specs.declared.steps.Step.{Step}
use Rattle.hwdb_forms.specs.Internal.{any_met, form_of, places, views}
use Rattle.hwdb_forms.proofs.LongestLemmas.{far_front}
use Rattle.hwdb_forms.proofs.walks.far_along.Goals as goal

pub returns-clause-met : goal.returns-clause-met
returns-clause-met c =
    c.ends-is_met.ensures
    ∙ ap (λ (l : List Step). any_met c.in_ok-steps.field-0.now.items (places l) []) c.deref.ensures.value
    ∙ c.in_ok-steps.ensures.met []
    ∙ ap (λ (r : List Token). meets_form r (form_of c.args.form)) (append-nil (views c.args.tokens.now))

pub returns-clause-front : goal.returns-clause-front
returns-clause-front c = far_front (form_of c.args.form) (views c.args.tokens.now) c.in_ok-steps.field-0.front c.in_ok-steps.ensures.far
