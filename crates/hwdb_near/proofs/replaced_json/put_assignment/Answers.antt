use Rattle.std.proofs.Common.{List, ℕ, ◌++◌, ◌∷◌, [], codes, refl}
use Rattle.std.proofs.lemmas.Result.{on_ok_weaker}
use Rattle.json.specs.Json.{Json}
use Rattle.json.specs.Token.{begin_object}
use Rattle.hwdb_spec_commands.specs.Json.{answer_members, text_json}
use Rattle.hwdb_show.specs.Lemmas.Json.{member_behind, members_behind, no_members_yet, object_closed}
use Rattle.hwdb_near.specs.Views.{assignment_of}
use Rattle.hwdb_near.proofs.replaced_json.put_assignment.Goals as goal

pub returns-clause-tokens : goal.returns-clause-tokens
returns-clause-tokens c =
    let front = c.args.json.now.tokens ++ begin_object ∷ [] in
    let a : List ℕ × Json = (codes "key", text_json c.args.at.now.given.key.now) in
    let more : List (List ℕ × Json) = answer_members (assignment_of c.args.at.now) in
    let none = no_members_yet front c.begin_object.new.self.tokens c.in_ok-begin_object.ensures.ok in
    let one = member_behind front c.begin_object.new.self.tokens c.put_member.new.json.tokens [] a none c.in_ok-put_member.ensures.tokens in
    let two = members_behind front c.put_member.new.json.tokens c.put_members.new.json.tokens (a ∷ []) more one c.in_ok-put_members.ensures.tokens in
    on_ok_weaker c.end_object.result
    (object_closed c.args.json.now.tokens c.put_members.new.json.tokens c.end_object.new.self.tokens (a ∷ more) (a ∷ more) two refl) c.end_object.ensures.ok
