use Rattle.std.proofs.Common.{ap, ◌∙◌, ◌≡◌}
use Rattle.hwdb_spec.specs.Forms.{can_match}
use Rattle.hwdb_spec.specs.Patterns.{tokens}
use Rattle.hwdb_forms.specs.Internal.{forms_of, views}
use Rattle.hwdb_spec.specs.declared.Judgement.TheVariants.{Dead, UnknownPrefix}
use Rattle.hwdb_forms.proofs.FrontLemmas.{is_fine, not_fine}
use Rattle.hwdb_forms.proofs.judging.judge_tokens.Goals as goal

pub returns-then-far-clause-fine : goal.returns-then-far-clause-fine
returns-then-far-clause-fine c =
    let same : views c.deref.result.now ≡ tokens c.args.pattern.now = ap views c.deref.ensures.value ∙ c.in_ok-tokens.ensures in
    is_fine (forms_of c.args.table) (tokens c.args.pattern.now) c.in_ok-far.far.is_met (c.in_ok-far.ensures.met ∙ ap (can_match (forms_of c.args.table)) same) c.if-far.true

pub returns-then-branch-clause-fine : goal.returns-then-branch-clause-fine
returns-then-branch-clause-fine c =
    let same : views c.deref.result.now ≡ tokens c.args.pattern.now = ap views c.deref.ensures.value ∙ c.in_ok-tokens.ensures in
    not_fine (forms_of c.args.table) UnknownPrefix (tokens c.args.pattern.now) c.in_ok-far.far.is_met (λ e. cc) (c.in_ok-far.ensures.met ∙ ap (can_match (forms_of c.args.table)) same) c.if-far.false

pub returns-clause-fine : goal.returns-clause-fine
returns-clause-fine c =
    let same : views c.deref.result.now ≡ tokens c.args.pattern.now = ap views c.deref.ensures.value ∙ c.in_ok-tokens.ensures in
    not_fine (forms_of c.args.table) (Dead c.front_size.result) (tokens c.args.pattern.now) c.in_ok-far.far.is_met (λ e. cc) (c.in_ok-far.ensures.met ∙ ap (can_match (forms_of c.args.table)) same) c.if-far.false
