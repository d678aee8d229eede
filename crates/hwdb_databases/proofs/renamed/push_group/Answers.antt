use Rattle.std.proofs.Common.{◌∙◌, ◌++◌, ap, option_map, sym, List, ℕ}
use Rattle.std.proofs.lemmas.Result.{IfOk-weaker}
use Rattle.hwdb_databases.specs.Internal.Renaming.{group_shown, shown}
use Rattle.hwdb_databases.proofs.RenamedLemmas.{rest_told, went_told}
use Rattle.hwdb_databases.proofs.renamed.push_group.Goals as goal

pub returns-in-Some : goal.returns-in-Some
returns-in-Some c =
    let g = shown c.args.group.now in
    IfOk-weaker c.push_old.result _ _
    (λ u is all of.
    is ∙ ap (λ (t : List ℕ). c.args.text.now.items ++ t)
    (went_told c.args.moves.now all g c.in-Some.own.items c.as_slice.result.now (group_shown c.moved_at.result) of c.moved_at.ensures c.as_slice.ensures.value
    (sym (ap (option_map (λ v. v.items)) c.in-Some.is) ∙ c.args.group.now.went_is)))
    c.push_old.ensures

pub returns-in-None : goal.returns-in-None
returns-in-None c =
    IfOk-weaker c.push_rest.result _ _
    (λ u is all of. is all of ∙ ap (λ (t : List ℕ). c.args.text.now.items ++ t) (rest_told all (shown c.args.group.now) (sym (ap (option_map (λ v. v.items)) c.in-None.is) ∙ c.args.group.now.went_is)))
    c.push_rest.ensures
