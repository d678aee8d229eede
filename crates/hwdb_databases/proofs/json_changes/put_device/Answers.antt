use Rattle.std.proofs.Common.{List, ℕ, ◌++◌, ◌∷◌, [], codes, refl}
use Rattle.std.proofs.lemmas.Result.{on_ok_weaker}
use Rattle.json.specs.Json.{Json}
use Rattle.std.proofs.Common.{map}
use Rattle.json.specs.Token.{begin_object}
use Rattle.hwdb_databases.specs.Internal.Forms.{change_object}
use Rattle.hwdb_spec_commands.specs.Json.{array_of, text_json}
use Rattle.hwdb_databases.specs.Views.{change_shown}
use Rattle.hwdb_show.specs.Lemmas.Json.{key_value, member_behind, no_members_yet, object_closed}
use Rattle.hwdb_databases.proofs.json_changes.put_device.Goals as goal

pub returns-clause-tokens : goal.returns-clause-tokens
returns-clause-tokens c =
    let front = c.args.json.now.tokens ++ begin_object ∷ [] in
    let value : Json = array_of (map change_object (map change_shown c.args.changes.now)) in
    let a : List ℕ × Json = (codes "device", text_json c.args.device.now) in
    let b : List ℕ × Json = (codes "changes", value) in
    let none = no_members_yet front c.begin_object.new.self.tokens c.in_ok-begin_object.ensures.ok in
    let one = member_behind front c.begin_object.new.self.tokens c.put_member.new.json.tokens [] a none c.in_ok-put_member.ensures.tokens in
    let named = key_value c.put_member.new.json.tokens c.key.new.self.tokens c.put_array.new.json.tokens (codes "changes") value c.in_ok-key.ensures.ok c.in_ok-put_array.ensures.tokens in
    let two = member_behind front c.put_member.new.json.tokens c.put_array.new.json.tokens (a ∷ []) b one named in
    on_ok_weaker c.end_object.result (object_closed c.args.json.now.tokens c.put_array.new.json.tokens c.end_object.new.self.tokens (a ∷ b ∷ []) (a ∷ b ∷ []) two refl) c.end_object.ensures.ok
