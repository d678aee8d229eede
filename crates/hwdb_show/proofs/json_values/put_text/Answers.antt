use Rattle.std.proofs.Common.{◌∙◌, ◌++◌, ap}
use Rattle.std.proofs.lemmas.Result.{on_ok_weaker}
use Rattle.hwdb_show.specs.Lemmas.Json.{byte_tokens, string_tokens}
use Rattle.hwdb_show.proofs.json_values.put_text.Goals as goal

pub returns-in-Ok-clause-tokens : goal.returns-in-Ok-clause-tokens
returns-in-Ok-clause-tokens c =
    on_ok_weaker c.string.result
    (λ is. is ∙ ap (λ l. c.args.json.now.tokens ++ l) (string_tokens c.args.text.now c.in-Ok.string.now c.in-Ok.ensures.cases.0 c.in-Ok.ensures.cases.1)) c.string.ensures.ok

pub returns-in-Err-clause-tokens : goal.returns-in-Err-clause-tokens
returns-in-Err-clause-tokens c =
    on_ok_weaker c.put_bytes.result
    (λ is. is ∙ ap (λ l. c.args.json.now.tokens ++ l) (byte_tokens c.args.text.now c.in-Err.ensures.cases.0)) c.put_bytes.ensures.tokens
