use Rattle.std.proofs.Common.{ap, refl, ◌++◌, ◌∙◌}
use Rattle.std.proofs.lemmas.Result.{on_ok_weaker}
use Rattle.hwdb_spec_commands.specs.Status.{amount_members}
use Rattle.hwdb_show.specs.JsonTokens.{tokens_of_members}
use Rattle.hwdb_show.specs.Lemmas.Json.{object_closed}
use Rattle.hwdb_databases.specs.Views.{amount_shown}
use Rattle.hwdb_databases.proofs.amounts.put_amount.Goals as goal

pub returns-clause-tokens : goal.returns-clause-tokens
returns-clause-tokens c =
    let members = amount_members (amount_shown c.args.amount) in
    on_ok_weaker c.end_object.result
    (object_closed c.args.json.now.tokens c.put_members.new.json.tokens c.end_object.new.self.tokens members members
    (c.in_ok-put_members.ensures.tokens ∙ ap (λ t. t ++ tokens_of_members members) c.in_ok-begin_object.ensures.ok) refl) c.end_object.ensures.ok
