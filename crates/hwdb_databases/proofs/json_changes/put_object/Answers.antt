use Rattle.std.proofs.Common.{◌++◌, ◌∷◌, [], refl}
use Rattle.std.proofs.lemmas.Result.{on_ok_weaker}
use Rattle.json.specs.Token.{begin_object}
use Rattle.hwdb_spec_commands.specs.ChangeForms.{change_members}
use Rattle.hwdb_databases.specs.Views.{change_shown}
use Rattle.hwdb_show.specs.Lemmas.Json.{members_behind, no_members_yet, object_closed}
use Rattle.hwdb_databases.proofs.json_changes.put_object.Goals as goal

pub returns-clause-tokens : goal.returns-clause-tokens
returns-clause-tokens c =
    let front = c.args.json.now.tokens ++ begin_object ∷ [] in
    let all = change_members (change_shown c.args.change) in
    let none = no_members_yet front c.begin_object.new.self.tokens c.in_ok-begin_object.ensures.ok in
    let one = members_behind front c.begin_object.new.self.tokens c.put_members.new.json.tokens [] all none c.in_ok-put_members.ensures.tokens in
    on_ok_weaker c.end_object.result
    (object_closed c.args.json.now.tokens c.put_members.new.json.tokens c.end_object.new.self.tokens all all one refl) c.end_object.ensures.ok
