use Rattle.std.proofs.Common.{◌≡◌, ◌++◌, OnOk, subst, sym}
use Rattle.hwdb_show.specs.JsonTokens.{tokens_of_members}
use Rattle.hwdb_spec_commands.specs.Status.{state_members}
use Rattle.hwdb_databases.specs.Views.{state_shown}
use Rattle.hwdb_databases.specs.declared.freshness.State.{State}
use Rattle.hwdb_databases.proofs.json_reports.put_state.Goals as goal

pub returns-in-Alike-clause-tokens : goal.returns-in-Alike-clause-tokens
returns-in-Alike-clause-tokens c =
    subst (λ (s : State). OnOk c.put_writer.result (c.put_writer.new.json.tokens ≡ c.args.json.now.tokens ++ tokens_of_members (state_members (state_shown s))))
    (sym c.in-Alike.is) c.put_writer.ensures.tokens
