use Rattle.std.proofs.Common.{List, ℕ, ◌++◌, ◌∷◌, [], codes, refl}
use Rattle.std.proofs.lemmas.Result.{on_ok_weaker}
use Rattle.json.specs.Json.{Json}
use Rattle.std.proofs.Common.{◌∙◌, ap}
use Rattle.json.specs.Token.{begin_object}
use Rattle.hwdb_spec_commands.specs.ChangeForms.{change_members}
use Rattle.hwdb_spec_commands.specs.Renamed.{changed_pattern}
use Rattle.hwdb_spec_commands.specs.Json.{text_json}
use Rattle.hwdb_show.specs.JsonTokens.{tokens_of_member}
use Rattle.hwdb_databases.specs.Views.{change_shown}
use Rattle.hwdb_show.specs.Lemmas.Json.{member_behind, members_behind, no_members_yet, object_closed}
use Rattle.hwdb_databases.proofs.json_changes.put_whole.Goals as goal

pub returns-clause-tokens : goal.returns-clause-tokens
returns-clause-tokens c =
    let change = change_shown c.args.change in
    let front = c.args.json.now.tokens ++ begin_object ∷ [] in
    let a : List ℕ × Json = (codes "pattern", text_json (changed_pattern change)) in
    let more = change_members change in
    let none = no_members_yet front c.begin_object.new.self.tokens c.in_ok-begin_object.ensures.ok in
    let one = member_behind front c.begin_object.new.self.tokens c.put_member.new.json.tokens [] a none
    (c.in_ok-put_member.ensures.tokens ∙ ap (λ p. c.begin_object.new.self.tokens ++ tokens_of_member (codes "pattern", text_json p)) c.pattern_of.ensures) in
    let two = members_behind front c.put_member.new.json.tokens c.put_members.new.json.tokens (a ∷ []) more one c.in_ok-put_members.ensures.tokens in
    on_ok_weaker c.end_object.result
    (object_closed c.args.json.now.tokens c.put_members.new.json.tokens c.end_object.new.self.tokens (a ∷ more) (a ∷ more) two refl) c.end_object.ensures.ok
