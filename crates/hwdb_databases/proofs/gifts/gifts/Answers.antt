use Rattle.std.proofs.Common.{◌∙◌, ap, map, take}
use Rattle.std.specs.Prelude.{flat_map}
use Rattle.std.proofs.lemmas.Result.{IfOk-weaker}
use Rattle.hwdb_query.specs.Views.{explained_values}
use Rattle.hwdb_spec_commands.specs.DeviceDifferences.{given_to}
use Rattle.hwdb_spec_commands.specs.Reviews.{as_given}
use Rattle.hwdb_spec.specs.Explanations.{explained}
use Rattle.hwdb_spec.specs.Tree.{answers}
use Rattle.hwdb_databases.proofs.GivenLemmas.{given_each}
use Rattle.hwdb_databases.proofs.gifts.gifts.Goals as goal

pub returns : goal.returns
returns c =
    IfOk-weaker c.gifts_of.result _ _
    (λ gifts is. is
    ∙ ap (λ d. flat_map (λ p. map as_given (map (given_to d) (take 1 p.1))) (explained_values c.deref.result.now)) c.in_ok-copy.ensures
    ∙ ap (λ l. flat_map (λ p. map as_given (map (given_to c.args.device.now) (take 1 p.1))) l) (ap explained_values c.deref.ensures.value ∙ c.in_ok-list.ensures.list)
    ∙ given_each c.args.device.now (explained (answers c.args.device.now c.args.db.now)))
    c.gifts_of.ensures
