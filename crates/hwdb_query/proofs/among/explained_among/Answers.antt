use Rattle.std.proofs.Common.{◌≡◌, ◌∙◌, ap, subst}
use Rattle.std.proofs.lemmas.Result.{IfOk-weaker}
use Rattle.hwdb_spec.specs.Explanations.{explained}
use Rattle.hwdb_spec.specs.Tree.{answers}
use Rattle.hwdb_query.specs.Internal.Explaining.{AllCollects}
use Rattle.hwdb_query.proofs.AllHitsLemmas.{all_in_order}
use Rattle.hwdb_query.proofs.among.explained_among.Goals as goal

pub returns : goal.returns
unfolding answers
returns c =
    let none = c.new-all.result in
    let all = c.take_each.new.all in
    IfOk-weaker c.explained.result _ _
    (λ list is device t tree found.
    let taken : AllCollects none _ all = subst (λ xs. AllCollects none xs all) found c.in_ok-take_each.ensures in
    is ∙ c.in_ok-by_key.ensures.listed ∙ ap explained (all_in_order none all device t tree c.new-all.ensures taken))
    c.explained.ensures
