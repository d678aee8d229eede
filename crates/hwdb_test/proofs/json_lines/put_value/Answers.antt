use Rattle.std.proofs.Common.{List, ℕ, ◌∷◌, [], codes, refl}
use Rattle.std.proofs.lemmas.Result.{on_ok_weaker}
use Rattle.json.specs.Json.{Json}
use Rattle.hwdb_spec_commands.specs.Json.{number_json, text_json}
use Rattle.hwdb_show.specs.Lemmas.Json.{member_behind, no_members_yet}
use Rattle.hwdb_test.proofs.json_lines.put_value.Goals as goal

pub returns-clause-tokens : goal.returns-clause-tokens
returns-clause-tokens c =
    let front = c.args.json.now.tokens in
    let g = c.args.given in
    let a : List ℕ × Json = (codes "key", text_json g.key.now) in
    let b : List ℕ × Json = (codes "value", text_json g.value.now) in
    let d : List ℕ × Json = (codes "given_path", text_json g.path.now) in
    let e : List ℕ × Json = (codes "given_line", number_json g.line) in
    let none = no_members_yet front front refl in
    let one = member_behind front front c.put_member.new.json.tokens [] a none c.in_ok-put_member.ensures.tokens in
    let two = member_behind front c.put_member.new.json.tokens c.put_member-2.new.json.tokens (a ∷ []) b one c.in_ok-put_member-2.ensures.tokens in
    let three = member_behind front c.put_member-2.new.json.tokens c.put_member-3.new.json.tokens (a ∷ b ∷ []) d two c.in_ok-put_member-3.ensures.tokens in
    on_ok_weaker c.put_count.result
    (λ h. member_behind front c.put_member-3.new.json.tokens c.put_count.new.json.tokens (a ∷ b ∷ d ∷ []) e three h)
    c.put_count.ensures.tokens
