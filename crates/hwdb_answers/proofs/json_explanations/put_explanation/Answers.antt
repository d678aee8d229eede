use Rattle.std.proofs.Common.{List, ℕ, ◌++◌, ◌∷◌, [], codes, map, refl}
use Rattle.std.proofs.lemmas.Result.{on_ok_weaker}
use Rattle.json.specs.Json.{Json}
use Rattle.json.specs.Token.{begin_object}
use Rattle.hwdb_query.specs.Views.{assignment_of_answer}
use Rattle.hwdb_spec_commands.specs.Json.{answer_members, array_of, overridden_json, text_json}
use Rattle.hwdb_show.specs.Lemmas.Json.{key_value, member_behind, members_behind, no_members_yet, object_closed}
use Rattle.hwdb_answers.proofs.json_explanations.put_explanation.Goals as goal

pub returns-clause-tokens : goal.returns-clause-tokens
returns-clause-tokens c =
    let front = c.args.json.now.tokens ++ begin_object ∷ [] in
    let overridden : Json = array_of (map overridden_json (map assignment_of_answer c.args.overridden.now)) in
    let a : List ℕ × Json = (codes "device", text_json c.args.device.now) in
    let b : List ℕ × Json = (codes "key", text_json c.args.key.now) in
    let more : List (List ℕ × Json) = answer_members (assignment_of_answer c.args.last.now) in
    let d : List ℕ × Json = (codes "overrides", overridden) in
    let none = no_members_yet front c.begin_object.new.self.tokens c.in_ok-begin_object.ensures.ok in
    let one = member_behind front c.begin_object.new.self.tokens c.put_member.new.json.tokens [] a none c.in_ok-put_member.ensures.tokens in
    let two = member_behind front c.put_member.new.json.tokens c.put_member-2.new.json.tokens (a ∷ []) b one c.in_ok-put_member-2.ensures.tokens in
    let three = members_behind front c.put_member-2.new.json.tokens c.put_answer.new.json.tokens (a ∷ b ∷ []) more two c.in_ok-put_answer.ensures.tokens in
    let four = member_behind front c.put_answer.new.json.tokens c.put_all_overridden.new.json.tokens (a ∷ b ∷ more) d three
    (key_value c.put_answer.new.json.tokens c.key.new.self.tokens c.put_all_overridden.new.json.tokens (codes "overrides") overridden c.in_ok-key.ensures.ok c.in_ok-put_all_overridden.ensures.tokens) in
    let all : List (List ℕ × Json) = a ∷ b ∷ (more ++ d ∷ []) in
    on_ok_weaker c.end_object.result
    (object_closed c.args.json.now.tokens c.put_all_overridden.new.json.tokens c.end_object.new.self.tokens all all four refl) c.end_object.ensures.ok
