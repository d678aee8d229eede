use Rattle.std.proofs.Common.{◌∙◌, ◌++◌, ap, sym}
use Rattle.std.proofs.lemmas.List.{append-nil}
use Rattle.std.proofs.lemmas.Result.{on_ok_weaker}
use Rattle.hwdb_answers.proofs.JsonLemmas.{named_tokens, unnamed_tokens}
use Rattle.hwdb_answers.proofs.json_lines.put_if_named.Goals as goal

pub returns-in-Ok-clause-tokens : goal.returns-in-Ok-clause-tokens
returns-in-Ok-clause-tokens c =
    on_ok_weaker c.put_member.result
    (λ is. is ∙ ap (λ l. c.args.json.now.tokens ++ l)
    (named_tokens c.args.key.now c.in-Ok.name.now c.args.value.now c.in-Ok.ensures.cases.0 c.in-Ok.ensures.cases.1)) c.put_member.ensures.tokens

pub returns-in-Err-clause-tokens : goal.returns-in-Err-clause-tokens
returns-in-Err-clause-tokens c =
    sym (append-nil c.args.json.now.tokens) ∙ ap (λ l. c.args.json.now.tokens ++ l) (unnamed_tokens c.args.key.now c.args.value.now c.in-Err.ensures.cases.0)
