use Rattle.std.proofs.Common.{List, ℕ, ◌++◌, ◌∷◌, [], codes, refl}
use Rattle.std.proofs.lemmas.Result.{on_ok_weaker}
use Rattle.json.specs.Json.{Json}
use Rattle.json.specs.Token.{begin_object}
use Rattle.hwdb_spec_commands.specs.Json.{text_json}
use Rattle.hwdb_show.specs.Lemmas.Json.{member_behind, no_members_yet, object_closed}
use Rattle.hwdb_check.proofs.logs.put_object.Goals as goal

pub returns-clause-tokens : goal.returns-clause-tokens
returns-clause-tokens c =
    let front = c.args.json.now.tokens ++ begin_object ∷ [] in
    let a : List ℕ × Json = (codes "text", text_json c.args.text.now) in
    let all : List (List ℕ × Json) = a ∷ [] in
    let none = no_members_yet front c.begin_object.new.self.tokens c.in_ok-begin_object.ensures.ok in
    let one = member_behind front c.begin_object.new.self.tokens c.put_member.new.json.tokens [] a none c.in_ok-put_member.ensures.tokens in
    on_ok_weaker c.end_object.result (object_closed c.args.json.now.tokens c.put_member.new.json.tokens c.end_object.new.self.tokens all all one refl) c.end_object.ensures.ok
