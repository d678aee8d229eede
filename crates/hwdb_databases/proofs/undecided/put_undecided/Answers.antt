use Rattle.std.proofs.Common.{◌++◌, ◌∷◌, [], map, refl}
use Rattle.std.proofs.lemmas.Result.{on_ok_weaker}
use Rattle.json.specs.Token.{begin_object}
use Rattle.hwdb_spec_commands.specs.SampleDevices.{undecided_members}
use Rattle.hwdb_samples.specs.Views.{own_text}
use Rattle.hwdb_show.specs.Lemmas.Json.{members_behind, no_members_yet, object_closed}
use Rattle.hwdb_databases.proofs.undecided.put_undecided.Goals as goal

pub returns-clause-tokens : goal.returns-clause-tokens
returns-clause-tokens c =
    let members = undecided_members (map own_text c.args.patterns.now) in
    let front = c.args.json.now.tokens ++ begin_object ∷ [] in
    let none = no_members_yet front c.begin_object.new.self.tokens c.in_ok-begin_object.ensures.ok in
    let all = members_behind front c.begin_object.new.self.tokens c.put_member.new.json.tokens [] members none c.in_ok-put_member.ensures.tokens in
    on_ok_weaker c.end_object.result
    (object_closed c.args.json.now.tokens c.put_member.new.json.tokens c.end_object.new.self.tokens members members all refl) c.end_object.ensures.ok
