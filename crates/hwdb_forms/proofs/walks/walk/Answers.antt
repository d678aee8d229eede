use Rattle.std.proofs.Common.{◌++◌, ◌<◌, List, length, subst, sym}
use Rattle.hwdb_spec.specs.Patterns.{Token}
use Rattle.hwdb_spec.specs.Forms.{meets_form}
use Rattle.hwdb_forms.specs.declared.steps.Step.{Step}
use Rattle.hwdb_forms.specs.Internal.{AreLive, IsFar, form_of, met_at, places, views}
use Rattle.hwdb_forms.proofs.WalkLemmas.{far_as}
use Rattle.hwdb_forms.proofs.walks.walk.Goals as goal

pub returns-clause-met : goal.returns-clause-met
returns-clause-met c = λ us. let k = c.in_ok-now.ensures.met us in let e = c.deref.ensures.value in let t = c.in_ok-steps.ensures.told (views c.args.tokens.now ++ us) in cc

pub returns-clause-far : goal.returns-clause-far
returns-clause-far c =
    far_as (met_at (places c.in_ok-steps.field-0.steps.items) c.in_ok-steps.field-0.entry) (λ us. meets_form us (form_of c.args.form)) (views c.args.tokens.now) c.in_ok-now.field-0.front c.in_ok-steps.ensures.told
    (subst (λ (l : List Step). IsFar (met_at (places l) c.in_ok-steps.field-0.entry) (views c.args.tokens.now) c.in_ok-now.field-0.front) c.deref.ensures.value c.in_ok-now.ensures.far)

pub go-requires-clause-entry : goal.go-requires-clause-entry
go-requires-clause-entry c = subst (λ (l : List Step). c.in_ok-steps.field-0.entry < length l) (sym c.deref.ensures.value) c.in_ok-steps.ensures.within

pub go-requires-clause-live : goal.go-requires-clause-live
go-requires-clause-live c = subst (λ (l : List Step). AreLive (places l)) (sym c.deref.ensures.value) c.in_ok-steps.ensures.live
