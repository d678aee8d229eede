use Rattle.std.proofs.Common.{◌∙◌, ap, map, take}
use Rattle.std.specs.Prelude.{flat_map}
use Rattle.std.proofs.lemmas.Result.{IfOk-weaker}
use Rattle.hwdb_query.specs.Views.{explained_values}
use Rattle.hwdb_spec.specs.Tree.{answers}
use Rattle.hwdb_spec_commands.specs.Wanted.{given_of}
use Rattle.hwdb_test.proofs.AboutLemmas.{ascending_found}
use Rattle.hwdb_test.proofs.GivenLemmas.{found_are_effective}
use Rattle.hwdb_test.proofs.given_values.found.Goals as goal

pub returns-clause-counting : goal.returns-clause-counting
returns-clause-counting c =
    IfOk-weaker c.counting_of.result _ _
    (λ found is. is ∙ ap (flat_map (λ p. map (given_of p.0) (take 1 p.1))) (ap explained_values c.deref.ensures.value ∙ c.in_ok-list.ensures.list))
    c.counting_of.ensures

pub returns-clause-effective : goal.returns-clause-effective
returns-clause-effective c =
    IfOk-weaker c.counting_of.result _ _
    (λ found is. found_are_effective c.explained_are_effective.ensures.properties c.explained_are_effective.ensures.present (answers c.args.device.now c.args.db.now) found.items
    (is ∙ ap (flat_map (λ p. map (given_of p.0) (take 1 p.1))) (ap explained_values c.deref.ensures.value ∙ c.in_ok-list.ensures.list)))
    c.counting_of.ensures

pub returns-clause-ascend : goal.returns-clause-ascend
returns-clause-ascend c =
    IfOk-weaker c.counting_of.result _ _
    (λ found is. ascending_found (answers c.args.device.now c.args.db.now) found.items
    (found_are_effective c.explained_are_effective.ensures.properties c.explained_are_effective.ensures.present (answers c.args.device.now c.args.db.now) found.items
    (is ∙ ap (flat_map (λ p. map (given_of p.0) (take 1 p.1))) (ap explained_values c.deref.ensures.value ∙ c.in_ok-list.ensures.list))))
    c.counting_of.ensures
