use Rattle.std.proofs.Common.{ap, arith, filter, map, take}
use Rattle.std.proofs.lemmas.List.{take_all}
use Rattle.std.proofs.lemmas.Result.{on_ok_weaker}
use Rattle.hwdb_query.specs.Views.{pairs_bytes}
use Rattle.hwdb_spec_commands.specs.Json.{has_name, property_member}
use Rattle.hwdb_show.specs.Lemmas.Json.{object_closed}
use Rattle.hwdb_answers.proofs.json_lines.put_named.Goals as goal

pub returns-clause-tokens : goal.returns-clause-tokens
returns-clause-tokens c =
    let properties = c.args.properties.now in
    let last = c.loop-key-test.false in
    on_ok_weaker c.end_object.result
    (object_closed c.args.json.now.tokens _ _ (map property_member (filter has_name (pairs_bytes (take c.loop-key.key-index properties))))
    (map property_member (filter has_name (pairs_bytes properties))) c.loop-key.invariant.tokens
    (ap (λ ps. map property_member (filter has_name (pairs_bytes ps))) (take_all c.loop-key.key-index properties (omega (arith, last))))) c.end_object.ensures.ok
