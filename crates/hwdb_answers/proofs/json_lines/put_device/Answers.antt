use Rattle.std.proofs.Common.{List, ℕ, ◌++◌, ◌∷◌, [], ap, codes, filter, map}
use Rattle.std.proofs.lemmas.Result.{on_ok_weaker}
use Rattle.json.specs.Json.{Json}
use Rattle.json.specs.Token.{begin_object}
use Rattle.hwdb_query.specs.Views.{pairs_bytes}
use Rattle.hwdb_spec_commands.specs.Json.{has_name, object_of, property_member, raw_members, text_json}
use Rattle.hwdb_show.specs.Lemmas.Json.{key_value, member_behind, members_behind, no_members_yet, object_closed}
use Rattle.hwdb_answers.proofs.json_lines.put_device.Goals as goal

pub returns-clause-tokens : goal.returns-clause-tokens
returns-clause-tokens c =
    let front = c.args.json.now.tokens ++ begin_object ∷ [] in
    let named : Json = object_of (map property_member (filter has_name (pairs_bytes c.args.properties.now))) in
    let a : List ℕ × Json = (codes "device", text_json c.args.device.now) in
    let b : List ℕ × Json = (codes "properties", named) in
    let none = no_members_yet front c.begin_object.new.self.tokens c.in_ok-begin_object.ensures.ok in
    let one = member_behind front c.begin_object.new.self.tokens c.put_member.new.json.tokens [] a none c.in_ok-put_member.ensures.tokens in
    let two = member_behind front c.put_member.new.json.tokens c.put_named.new.json.tokens (a ∷ []) b one
    (key_value c.put_member.new.json.tokens c.key.new.self.tokens c.put_named.new.json.tokens (codes "properties") named c.in_ok-key.ensures.ok c.in_ok-put_named.ensures.tokens) in
    let three = members_behind front c.put_named.new.json.tokens c.put_raw.new.json.tokens (a ∷ b ∷ []) (raw_members (pairs_bytes c.args.raw.now)) two c.in_ok-put_raw.ensures.tokens in
    on_ok_weaker c.end_object.result
    (object_closed c.args.json.now.tokens c.put_raw.new.json.tokens c.end_object.new.self.tokens _ _ three (ap (λ r. a ∷ b ∷ raw_members r) c.requires)) c.end_object.ensures.ok
