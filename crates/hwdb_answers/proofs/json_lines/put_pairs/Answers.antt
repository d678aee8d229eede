use Rattle.std.proofs.Common.{ap, arith, map, take}
use Rattle.std.proofs.lemmas.List.{take_all}
use Rattle.std.proofs.lemmas.Result.{on_ok_weaker}
use Rattle.hwdb_query.specs.Views.{pairs_bytes}
use Rattle.hwdb_spec_commands.specs.Json.{pair_json}
use Rattle.hwdb_show.specs.Lemmas.Json.{array_closed}
use Rattle.hwdb_answers.proofs.json_lines.put_pairs.Goals as goal

pub returns-clause-tokens : goal.returns-clause-tokens
returns-clause-tokens c =
    let properties = c.args.properties.now in
    let last = c.loop-key-test.false in
    on_ok_weaker c.end_array.result
    (array_closed c.args.json.now.tokens _ _ (map pair_json (pairs_bytes (take c.loop-key.key-index properties))) (map pair_json (pairs_bytes properties))
    c.loop-key.invariant.tokens (ap (λ ps. map pair_json (pairs_bytes ps)) (take_all c.loop-key.key-index properties (omega (arith, last))))) c.end_array.ensures.ok
