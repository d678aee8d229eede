use Rattle.std.proofs.Common.{ap, arith, map, take}
use Rattle.std.proofs.lemmas.List.{take_all}
use Rattle.std.proofs.lemmas.Result.{on_ok_weaker}
use Rattle.hwdb_query.specs.Views.{assignment_of_answer}
use Rattle.hwdb_spec_commands.specs.Json.{overridden_json}
use Rattle.hwdb_show.specs.Lemmas.Json.{array_closed}
use Rattle.hwdb_answers.proofs.json_explanations.put_all_overridden.Goals as goal

pub returns-clause-tokens : goal.returns-clause-tokens
returns-clause-tokens c =
    let answers = c.args.answers.now in
    let last = c.loop-answer-test.false in
    on_ok_weaker c.end_array.result
    (array_closed c.args.json.now.tokens _ _ (map overridden_json (map assignment_of_answer (take c.loop-answer.answer-index answers)))
    (map overridden_json (map assignment_of_answer answers)) c.loop-answer.invariant.tokens
    (ap (λ xs. map overridden_json (map assignment_of_answer xs)) (take_all c.loop-answer.answer-index answers (omega (arith, last))))) c.end_array.ensures.ok
