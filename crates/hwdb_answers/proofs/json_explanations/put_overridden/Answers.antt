use Rattle.std.proofs.Common.{◌∙◌, ◌++◌, ap, refl}
use Rattle.std.proofs.lemmas.Result.{on_ok_weaker}
use Rattle.hwdb_query.specs.Views.{assignment_of_answer}
use Rattle.hwdb_spec_commands.specs.Json.{answer_members}
use Rattle.hwdb_show.specs.JsonTokens.{tokens_of_members}
use Rattle.hwdb_show.specs.Lemmas.Json.{object_closed}
use Rattle.hwdb_answers.proofs.json_explanations.put_overridden.Goals as goal

pub returns-clause-tokens : goal.returns-clause-tokens
returns-clause-tokens c =
    let ms = answer_members (assignment_of_answer c.args.answer.now) in
    on_ok_weaker c.end_object.result
    (object_closed c.args.json.now.tokens c.put_answer.new.json.tokens c.end_object.new.self.tokens ms ms
    (c.in_ok-put_answer.ensures.tokens ∙ ap (λ l. l ++ tokens_of_members ms) c.in_ok-begin_object.ensures.ok) refl) c.end_object.ensures.ok
