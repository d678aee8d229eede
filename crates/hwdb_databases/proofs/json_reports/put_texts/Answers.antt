use Rattle.std.proofs.Common.{ap, arith, map}
use Rattle.std.proofs.lemmas.List.{take_all}
use Rattle.std.proofs.lemmas.Result.{on_ok_weaker}
use Rattle.std.specs.Prelude.{take}
use Rattle.hwdb_spec_commands.specs.Json.{text_json}
use Rattle.hwdb_databases.proofs.json_reports.put_texts.Goals as goal
use Rattle.hwdb_show.specs.Lemmas.Json.{array_closed}

pub returns-clause-tokens : goal.returns-clause-tokens
returns-clause-tokens c =
    let texts = c.args.texts.now in
    let last = c.loop-text-test.false in
    on_ok_weaker c.end_array.result
    (array_closed c.args.json.now.tokens _ _ (map text_json (map (λ t. t.items) (take c.loop-text.text-index texts))) (map text_json (map (λ t. t.items) texts))
    c.loop-text.invariant.tokens (ap (λ ts. map text_json (map (λ t. t.items) ts)) (take_all c.loop-text.text-index texts (omega (arith, last))))) c.end_array.ensures.ok
