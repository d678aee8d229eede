use Rattle.std.proofs.Common.{List, ℕ, ◌++◌, ◌∷◌, [], codes, refl}
use Rattle.std.proofs.lemmas.Result.{on_ok_weaker}
use Rattle.json.specs.Json.{Json}
use Rattle.json.specs.Token.{begin_object}
use Rattle.hwdb_spec_commands.specs.Json.{text_json}
use Rattle.hwdb_spec_commands.specs.Replacements.{assignment_json}
use Rattle.hwdb_show.specs.Lemmas.Json.{key_value, member_behind, no_members_yet, object_closed}
use Rattle.hwdb_near.specs.Views.{assignment_of}
use Rattle.hwdb_near.proofs.replaced_json.put_replaced.Goals as goal

pub returns-clause-tokens : goal.returns-clause-tokens
returns-clause-tokens c =
    let front = c.args.json.now.tokens ++ begin_object ∷ [] in
    let old : Json = assignment_json (assignment_of c.args.pair.now.old) in
    let new : Json = assignment_json (assignment_of c.args.pair.now.new) in
    let a : List ℕ × Json = (codes "device", text_json c.args.device.now) in
    let b : List ℕ × Json = (codes "replaced", old) in
    let d : List ℕ × Json = (codes "by", new) in
    let none = no_members_yet front c.begin_object.new.self.tokens c.in_ok-begin_object.ensures.ok in
    let one = member_behind front c.begin_object.new.self.tokens c.put_member.new.json.tokens [] a none c.in_ok-put_member.ensures.tokens in
    let two = member_behind front c.put_member.new.json.tokens c.put_assignment.new.json.tokens (a ∷ []) b one
    (key_value c.put_member.new.json.tokens c.key.new.self.tokens c.put_assignment.new.json.tokens (codes "replaced") old c.in_ok-key.ensures.ok c.in_ok-put_assignment.ensures.tokens) in
    let three = member_behind front c.put_assignment.new.json.tokens c.put_assignment-2.new.json.tokens (a ∷ b ∷ []) d two
    (key_value c.put_assignment.new.json.tokens c.key-2.new.self.tokens c.put_assignment-2.new.json.tokens (codes "by") new c.in_ok-key-2.ensures.ok c.in_ok-put_assignment-2.ensures.tokens) in
    let all : List (List ℕ × Json) = a ∷ b ∷ d ∷ [] in
    on_ok_weaker c.end_object.result
    (object_closed c.args.json.now.tokens c.put_assignment-2.new.json.tokens c.end_object.new.self.tokens all all three refl) c.end_object.ensures.ok
