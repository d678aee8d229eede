use Rattle.std.proofs.Common.{◌∙◌, add-one, arith}
use Rattle.hwdb_forms.specs.Internal.{form_of, views}
use Rattle.hwdb_forms.proofs.FrontLemmas.{views_long, views_take}
use Rattle.hwdb_forms.proofs.LongestLemmas.{all_dead, front_dead, front_max}
use Rattle.hwdb_forms.proofs.judging.reach_with.Goals as goal

pub returns-then-is_dead_at_once-clause-met : goal.returns-then-is_dead_at_once-clause-met
returns-then-is_dead_at_once-clause-met c =
    all_dead (form_of c.args.form) (views c.args.tokens.now) _ c.one_more-some.result (views_take c.args.tokens.now c.one_more-some.result) (c.is_dead_at_once.ensures c.if-is_dead_at_once.true)

pub returns-then-is_dead_at_once-clause-front : goal.returns-then-is_dead_at_once-clause-front
returns-then-is_dead_at_once-clause-front c = λ forms f.
    front_dead forms (form_of c.args.form) (views c.args.tokens.now) _ c.args.low c.one_more-some.result (views_take c.args.tokens.now c.one_more-some.result) (omega (arith, c.requires.low, views_long c.args.tokens.now))
    (λ h. c.one_more-some.ensures.less (omega (arith, h, views_long c.args.tokens.now)) ∙ add-one c.args.low) (λ h. c.one_more-some.ensures.all (omega (arith, h, views_long c.args.tokens.now)))
    (c.is_dead_at_once.ensures c.if-is_dead_at_once.true) f

pub returns-clause-front : goal.returns-clause-front
returns-clause-front c = λ forms f. front_max forms (form_of c.args.form) (views c.args.tokens.now) c.args.low c.in_ok-far.far.front c.max.result c.max.ensures f c.in_ok-far.ensures.front
