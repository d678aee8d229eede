use Rattle.std.proofs.Common.{◌∙◌, ◌++◌, ap, refl}
use Rattle.std.specs.Prelude.{Some}
use Rattle.std.proofs.lemmas.Result.{on_ok_weaker}
use Rattle.hwdb_test.specs.Views.{given_at}
use Rattle.hwdb_spec_commands.specs.Wanted.{given_members}
use Rattle.hwdb_show.specs.JsonTokens.{tokens_of_members}
use Rattle.hwdb_show.specs.Lemmas.Json.{object_closed}
use Rattle.hwdb_test.proofs.json_lines.put_given.Goals as goal

pub returns-clause-tokens : goal.returns-clause-tokens
returns-clause-tokens c =
    let ms = given_members (Some (given_at c.args.given)) in
    on_ok_weaker c.end_object.result
    (object_closed c.args.json.now.tokens c.put_value.new.json.tokens c.end_object.new.self.tokens ms ms
    (c.in_ok-put_value.ensures.tokens ∙ ap (λ l. l ++ tokens_of_members ms) c.in_ok-begin_object.ensures.ok) refl) c.end_object.ensures.ok
