use Rattle.std.proofs.Common.{ap, arith, map}
use Rattle.std.proofs.lemmas.List.{take_all}
use Rattle.std.proofs.lemmas.Result.{on_ok_weaker}
use Rattle.std.specs.Prelude.{take}
use Rattle.hwdb_spec_commands.specs.ChangeForms.{whole_object}
use Rattle.hwdb_databases.specs.Views.{change_shown}
use Rattle.hwdb_show.specs.Lemmas.Json.{array_closed}
use Rattle.hwdb_databases.proofs.unmet.put_array.Goals as goal

pub returns-clause-tokens : goal.returns-clause-tokens
returns-clause-tokens c =
    let all = c.args.left.now in
    let last = c.loop-change-test.false in
    on_ok_weaker c.end_array.result
    (array_closed c.args.json.now.tokens _ _ (map whole_object (map change_shown (take c.loop-change.change-index all))) (map whole_object (map change_shown all))
    c.loop-change.invariant.tokens (ap (λ cs. map whole_object (map change_shown cs)) (take_all c.loop-change.change-index all (omega (arith, last))))) c.end_array.ensures.ok
