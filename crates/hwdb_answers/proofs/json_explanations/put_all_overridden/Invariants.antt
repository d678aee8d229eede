use Rattle.std.proofs.Common.{◌≡◌, ◌∷◌, ◌++◌, [], flat_map, take, map}
use Rattle.json.specs.Token.{begin_array}
use Rattle.json.specs.Tree.{json_tokens}
use Rattle.hwdb_query.specs.Views.{assignment_of_answer}
use Rattle.hwdb_spec_commands.specs.Json.{overridden_json}
use Rattle.hwdb_answers.proofs.json_explanations.put_all_overridden.Given as goal

abbrev pub invariant-loop-answer : goal.invariant-loop-answer
invariant-loop-answer l = record {
  before : l.json.before ≡ l.fn.json.before;
  tokens : l.json.tokens ≡ (l.fn.json.tokens ++ begin_array ∷ [])
      ++ flat_map json_tokens (map overridden_json (map assignment_of_answer (take l.answer-index l.answers)));
}
