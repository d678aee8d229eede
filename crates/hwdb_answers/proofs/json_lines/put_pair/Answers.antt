use Rattle.std.proofs.lemmas.Result.{on_ok_weaker}
use Rattle.hwdb_spec_commands.specs.Json.{text_json}
use Rattle.hwdb_show.specs.Lemmas.Json.{two_closed}
use Rattle.hwdb_answers.proofs.json_lines.put_pair.Goals as goal

pub returns-clause-tokens : goal.returns-clause-tokens
returns-clause-tokens c =
    on_ok_weaker c.end_array.result
    (two_closed c.args.json.now.tokens _ _ _ _ (text_json c.args.key.now) (text_json c.args.value.now) c.in_ok-begin_array.ensures.ok
    c.in_ok-put_text.ensures.tokens c.in_ok-put_text-2.ensures.tokens) c.end_array.ensures.ok
