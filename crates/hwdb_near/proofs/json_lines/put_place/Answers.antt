use Rattle.std.proofs.Common.{List, ℕ, ◌++◌, ◌∷◌, [], codes, refl}
use Rattle.std.proofs.lemmas.Result.{on_ok_weaker}
use Rattle.json.specs.Json.{Json, boolean}
use Rattle.json.specs.Token.{begin_object}
use Rattle.hwdb_spec_commands.specs.Json.{number_json, text_json}
use Rattle.hwdb_show.specs.Lemmas.Json.{member_behind, no_members_yet, object_closed}
use Rattle.hwdb_near.proofs.json_lines.put_place.Goals as goal

pub returns-clause-tokens : goal.returns-clause-tokens
returns-clause-tokens c =
    let at = c.args.at.now in
    let reach = c.args.reach in
    let front = c.args.json.now.tokens ++ begin_object ∷ [] in
    let a : List ℕ × Json = (codes "path", text_json at.path.now) in
    let b : List ℕ × Json = (codes "line", number_json at.line) in
    let d : List ℕ × Json = (codes "pattern", text_json at.pattern.now) in
    let e : List ℕ × Json = (codes "pattern_byte", number_json reach.pattern) in
    let h : List ℕ × Json = (codes "device", text_json c.args.device.now) in
    let i : List ℕ × Json = (codes "device_byte", number_json reach.device) in
    let j : List ℕ × Json = (codes "matches", boolean reach.matches) in
    let none = no_members_yet front c.begin_object.new.self.tokens c.in_ok-begin_object.ensures.ok in
    let one = member_behind front c.begin_object.new.self.tokens c.put_member.new.json.tokens [] a none c.in_ok-put_member.ensures.tokens in
    let two = member_behind front c.put_member.new.json.tokens c.put_count.new.json.tokens (a ∷ []) b one c.in_ok-put_count.ensures.tokens in
    let three = member_behind front c.put_count.new.json.tokens c.put_member-2.new.json.tokens (a ∷ b ∷ []) d two c.in_ok-put_member-2.ensures.tokens in
    let four = member_behind front c.put_member-2.new.json.tokens c.put_count-2.new.json.tokens (a ∷ b ∷ d ∷ []) e three c.in_ok-put_count-2.ensures.tokens in
    let five = member_behind front c.put_count-2.new.json.tokens c.put_member-3.new.json.tokens (a ∷ b ∷ d ∷ e ∷ []) h four c.in_ok-put_member-3.ensures.tokens in
    let six = member_behind front c.put_member-3.new.json.tokens c.put_count-3.new.json.tokens (a ∷ b ∷ d ∷ e ∷ h ∷ []) i five c.in_ok-put_count-3.ensures.tokens in
    let seven = member_behind front c.put_count-3.new.json.tokens c.put_flag.new.json.tokens (a ∷ b ∷ d ∷ e ∷ h ∷ i ∷ []) j six c.in_ok-put_flag.ensures.tokens in
    let all : List (List ℕ × Json) = a ∷ b ∷ d ∷ e ∷ h ∷ i ∷ j ∷ [] in
    on_ok_weaker c.end_object.result (object_closed c.args.json.now.tokens c.put_flag.new.json.tokens c.end_object.new.self.tokens all all seven refl) c.end_object.ensures.ok
