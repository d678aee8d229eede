use Rattle.std.proofs.Common.{List, ℕ, ◌∙◌, ◌++◌, ◌∷◌, [], ap, codes}
use Rattle.std.proofs.lemmas.Result.{on_ok_weaker}
use Rattle.json.specs.Json.{Json}
use Rattle.json.specs.Token.{begin_object}
use Rattle.hwdb_spec_commands.specs.DeviceTexts.{path_at, properties_members}
use Rattle.hwdb_spec_commands.specs.Json.{text_json}
use Rattle.hwdb_query.specs.Views.{pairs_bytes}
use Rattle.hwdb_show.specs.JsonTokens.{tokens_of_member}
use Rattle.hwdb_sysfs.specs.Views.{device_of}
use Rattle.hwdb_show.specs.Lemmas.Json.{member_behind, members_behind, no_members_yet, object_closed}
use Rattle.hwdb_device.proofs.json_lines.put_found.Goals as goal

pub returns-clause-tokens : goal.returns-clause-tokens
returns-clause-tokens c =
    let found = c.args.found.now in
    let front = c.args.json.now.tokens ++ begin_object ∷ [] in
    let a : List ℕ × Json = (codes "rule", text_json found.rule.items) in
    let b : List ℕ × Json = (codes "device", text_json found.text.items) in
    let d : List ℕ × Json = (codes "path", text_json (path_at (device_of c.args.device.now) found.parent)) in
    let more : List (List ℕ × Json) = properties_members (codes "properties") (pairs_bytes c.args.pairs.now) in
    let none = no_members_yet front c.begin_object.new.self.tokens c.in_ok-begin_object.ensures.ok in
    let one = member_behind front c.begin_object.new.self.tokens c.put_member.new.json.tokens [] a none
    (c.in_ok-put_member.ensures.tokens ∙ ap (λ t. c.begin_object.new.self.tokens ++ tokens_of_member (codes "rule", text_json t)) c.deref.ensures.value) in
    let two = member_behind front c.put_member.new.json.tokens c.put_member-2.new.json.tokens (a ∷ []) b one
    (c.in_ok-put_member-2.ensures.tokens ∙ ap (λ t. c.put_member.new.json.tokens ++ tokens_of_member (codes "device", text_json t)) c.deref-2.ensures.value) in
    let three = member_behind front c.put_member-2.new.json.tokens c.put_member-3.new.json.tokens (a ∷ b ∷ []) d two
    (c.in_ok-put_member-3.ensures.tokens ∙ ap (λ t. c.put_member-2.new.json.tokens ++ tokens_of_member (codes "path", text_json t)) c.path_at.ensures) in
    let four = members_behind front c.put_member-3.new.json.tokens c.put_properties.new.json.tokens (a ∷ b ∷ d ∷ []) more three c.in_ok-put_properties.ensures.tokens in
    on_ok_weaker c.end_object.result
    (object_closed c.args.json.now.tokens c.put_properties.new.json.tokens c.end_object.new.self.tokens _ _ four (ap (λ p. a ∷ b ∷ d ∷ properties_members (codes "properties") p) c.requires)) c.end_object.ensures.ok
