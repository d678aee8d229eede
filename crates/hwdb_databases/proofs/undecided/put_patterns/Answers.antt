use Rattle.std.proofs.Common.{ap, arith, map}
use Rattle.std.proofs.lemmas.List.{take_all}
use Rattle.std.proofs.lemmas.Result.{on_ok_weaker}
use Rattle.std.specs.Prelude.{take}
use Rattle.hwdb_spec_commands.specs.Json.{text_json}
use Rattle.hwdb_samples.specs.Views.{own_text}
use Rattle.hwdb_show.specs.Lemmas.Json.{array_closed}
use Rattle.hwdb_databases.proofs.undecided.put_patterns.Goals as goal

pub returns-clause-tokens : goal.returns-clause-tokens
returns-clause-tokens c =
    let all = c.args.patterns.now in
    let last = c.loop-pattern-test.false in
    on_ok_weaker c.end_array.result
    (array_closed c.args.json.now.tokens _ _ (map text_json (map own_text (take c.loop-pattern.pattern-index all))) (map text_json (map own_text all))
    c.loop-pattern.invariant.tokens (ap (λ ps. map text_json (map own_text ps)) (take_all c.loop-pattern.pattern-index all (omega (arith, last))))) c.end_array.ensures.ok
