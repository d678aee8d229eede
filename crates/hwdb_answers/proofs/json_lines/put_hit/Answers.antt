use Rattle.std.proofs.Common.{List, ℕ, ◌∙◌, ◌++◌, ◌∷◌, [], ap, codes, refl}
use Rattle.std.proofs.lemmas.Result.{on_ok_weaker}
use Rattle.json.specs.Json.{Json}
use Rattle.json.specs.Token.{begin_object}
use Rattle.hwdb_query.specs.Views.{assignment_of_hit}
use Rattle.hwdb_spec_commands.specs.Json.{number_json, text_json}
use Rattle.hwdb_spec.specs.Texts.{canonical}
use Rattle.hwdb_show.specs.JsonTokens.{tokens_of_member}
use Rattle.hwdb_show.specs.Lemmas.Json.{member_behind, no_members_yet, object_closed}
use Rattle.hwdb_answers.proofs.json_lines.put_hit.Goals as goal

pub returns-clause-tokens : goal.returns-clause-tokens
returns-clause-tokens c =
    let f = assignment_of_hit c.args.hit.now in
    let front = c.args.json.now.tokens ++ begin_object ∷ [] in
    let a : List ℕ × Json = (codes "position", text_json (canonical f.position)) in
    let b : List ℕ × Json = (codes "path", text_json f.path) in
    let d : List ℕ × Json = (codes "line", number_json f.position.line) in
    let e : List ℕ × Json = (codes "priority", number_json f.position.priority) in
    let h : List ℕ × Json = (codes "pattern", text_json f.position.pattern) in
    let i : List ℕ × Json = (codes "key", text_json f.position.key) in
    let j : List ℕ × Json = (codes "value", text_json f.value) in
    let none = no_members_yet front c.begin_object.new.self.tokens c.in_ok-begin_object.ensures.ok in
    let one = member_behind front c.begin_object.new.self.tokens c.put_member.new.json.tokens [] a none
    (c.in_ok-put_member.ensures.tokens ∙ ap (λ p. c.begin_object.new.self.tokens ++ tokens_of_member (codes "position", text_json p)) c.requires) in
    let two = member_behind front c.put_member.new.json.tokens c.put_member-2.new.json.tokens (a ∷ []) b one c.in_ok-put_member-2.ensures.tokens in
    let three = member_behind front c.put_member-2.new.json.tokens c.put_number.new.json.tokens (a ∷ b ∷ []) d two c.in_ok-put_number.ensures.tokens in
    let four = member_behind front c.put_number.new.json.tokens c.put_number-2.new.json.tokens (a ∷ b ∷ d ∷ []) e three
    (c.in_ok-put_number-2.ensures.tokens ∙ ap (λ n. c.put_number.new.json.tokens ++ tokens_of_member (codes "priority", number_json n)) c.from.ensures) in
    let five = member_behind front c.put_number-2.new.json.tokens c.put_member-3.new.json.tokens (a ∷ b ∷ d ∷ e ∷ []) h four
    (c.in_ok-put_member-3.ensures.tokens ∙ ap (λ t. c.put_number-2.new.json.tokens ++ tokens_of_member (codes "pattern", text_json t)) c.deref.ensures.value) in
    let six = member_behind front c.put_member-3.new.json.tokens c.put_member-4.new.json.tokens (a ∷ b ∷ d ∷ e ∷ h ∷ []) i five c.in_ok-put_member-4.ensures.tokens in
    let seven = member_behind front c.put_member-4.new.json.tokens c.put_member-5.new.json.tokens (a ∷ b ∷ d ∷ e ∷ h ∷ i ∷ []) j six c.in_ok-put_member-5.ensures.tokens in
    let all : List (List ℕ × Json) = a ∷ b ∷ d ∷ e ∷ h ∷ i ∷ j ∷ [] in
    on_ok_weaker c.end_object.result (object_closed c.args.json.now.tokens c.put_member-5.new.json.tokens c.end_object.new.self.tokens all all seven refl) c.end_object.ensures.ok
