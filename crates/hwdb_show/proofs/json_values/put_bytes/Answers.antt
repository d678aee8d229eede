use Rattle.std.proofs.Common.{ap, arith, map, take}
use Rattle.std.proofs.lemmas.List.{take_all}
use Rattle.std.proofs.lemmas.Result.{on_ok_weaker}
use Rattle.hwdb_spec_commands.specs.Json.{number_json}
use Rattle.hwdb_show.specs.Lemmas.Json.{array_closed}
use Rattle.hwdb_show.proofs.json_values.put_bytes.Goals as goal

pub returns-clause-tokens : goal.returns-clause-tokens
returns-clause-tokens c =
    let bytes = c.args.bytes.now in
    let last = c.loop-byte-test.false in
    on_ok_weaker c.end_array.result
    (array_closed c.args.json.now.tokens _ _ (map number_json (take c.loop-byte.byte-index bytes)) (map number_json bytes) c.loop-byte.invariant.tokens
    (ap (map number_json) (take_all c.loop-byte.byte-index bytes (omega (arith, last))))) c.end_array.ensures.ok
