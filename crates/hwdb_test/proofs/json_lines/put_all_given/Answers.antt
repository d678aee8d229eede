use Rattle.std.proofs.Common.{ap, arith, map, take}
use Rattle.std.proofs.lemmas.List.{take_all}
use Rattle.std.proofs.lemmas.Result.{on_ok_weaker}
use Rattle.hwdb_spec_commands.specs.Wanted.{given_json}
use Rattle.hwdb_test.specs.Views.{given_at}
use Rattle.hwdb_show.specs.Lemmas.Json.{array_closed}
use Rattle.hwdb_test.proofs.json_lines.put_all_given.Goals as goal

pub returns-clause-tokens : goal.returns-clause-tokens
returns-clause-tokens c =
    let others = c.args.others.now in
    let last = c.loop-given-test.false in
    on_ok_weaker c.end_array.result
    (array_closed c.args.json.now.tokens _ _ (map given_json (map given_at (take c.loop-given.given-index others)))
    (map given_json (map given_at others)) c.loop-given.invariant.tokens
    (ap (λ xs. map given_json (map given_at xs)) (take_all c.loop-given.given-index others (omega (arith, last))))) c.end_array.ensures.ok
