use Rattle.std.proofs.Common.{◌∙◌, List, ap, map, subst, sym}
use Rattle.hwdb_spec.specs.Forms.{Form, can_match}
use Rattle.hwdb_forms.specs.Internal.{Every, HasWays, form_of, forms_of, views}
use Rattle.hwdb_forms.proofs.AfterLemmas.{table_ways}
use Rattle.hwdb_forms.proofs.LongestLemmas.{front_told}
use Rattle.hwdb_forms.proofs.judging.reach_all.Goals as goal

pub reach-requires : goal.reach-requires
reach-requires c = subst (λ (forms : List Form). Every Form HasWays forms) (sym (ap (map form_of) c.deref.ensures.value ∙ c.in_ok-forms.ensures)) (table_ways c.args.table)

pub returns-clause-met : goal.returns-clause-met
returns-clause-met c = c.in_ok-far.ensures.met ∙ ap (λ (fs : List Form). can_match fs (views c.args.tokens.now)) (ap (map form_of) c.deref.ensures.value ∙ c.in_ok-forms.ensures)

pub returns-clause-front : goal.returns-clause-front
returns-clause-front c = λ e.
    front_told (map form_of c.deref.result.now) (forms_of c.args.table) (views c.args.tokens.now) c.in_ok-far.far.front (ap (map form_of) c.deref.ensures.value ∙ c.in_ok-forms.ensures) (c.in_ok-far.ensures.front e)
