use Rattle.std.proofs.Common.{List, ℕ, ◌∙◌, ◌++◌, ◌∷◌, [], ap, codes, refl}
use Rattle.std.proofs.lemmas.Result.{on_ok_weaker}
use Rattle.json.specs.Json.{Json}
use Rattle.json.specs.Token.{begin_object}
use Rattle.hwdb_spec_commands.specs.DeviceTexts.{path_at, properties_members}
use Rattle.hwdb_spec_commands.specs.Json.{text_json}
use Rattle.hwdb_query.specs.Views.{pairs_bytes}
use Rattle.hwdb_show.specs.JsonTokens.{tokens_of_member}
use Rattle.hwdb_sysfs.specs.Views.{device_of}
use Rattle.hwdb_show.specs.Lemmas.Json.{member_behind, members_behind, no_members_yet, object_closed}
use Rattle.hwdb_device.proofs.json_lines.put_result.Goals as goal

pub returns-clause-tokens : goal.returns-clause-tokens
returns-clause-tokens c =
    let front = c.args.json.now.tokens ++ begin_object ∷ [] in
    let path : List ℕ → List ℕ × Json = λ t. (codes "path", text_json t) in
    let a : List ℕ × Json = path (path_at (device_of c.args.device.now) 0) in
    let more : List (List ℕ × Json) = properties_members (codes "result") (pairs_bytes c.args.pairs.now) in
    let none = no_members_yet front c.begin_object.new.self.tokens c.in_ok-begin_object.ensures.ok in
    let one = member_behind front c.begin_object.new.self.tokens c.put_member.new.json.tokens [] a none
    (c.in_ok-put_member.ensures.tokens ∙ ap (λ t. c.begin_object.new.self.tokens ++ tokens_of_member (path t)) c.path_at.ensures) in
    let two = members_behind front c.put_member.new.json.tokens c.put_properties.new.json.tokens (a ∷ []) more one c.in_ok-put_properties.ensures.tokens in
    on_ok_weaker c.end_object.result
    (object_closed c.args.json.now.tokens c.put_properties.new.json.tokens c.end_object.new.self.tokens _ _ two refl) c.end_object.ensures.ok
