use Rattle.std.proofs.Common.{List, ℕ, ◌∷◌, [], codes, refl}
use Rattle.std.proofs.lemmas.Result.{on_ok_weaker}
use Rattle.json.specs.Json.{Json}
use Rattle.hwdb_spec_commands.specs.ChangeForms.{given_json}
use Rattle.hwdb_spec_commands.specs.Json.{text_json}
use Rattle.hwdb_show.specs.Lemmas.Json.{member_behind, no_members_yet}
use Rattle.hwdb_databases.specs.Views.{assignment_of}
use Rattle.hwdb_databases.proofs.json_changes.put_changed.Goals as goal

pub returns-clause-tokens : goal.returns-clause-tokens
returns-clause-tokens c =
    let front = c.args.json.now.tokens in
    let old = c.args.old.now in
    let new = c.args.new.now in
    let a : List ℕ × Json = (codes "change", text_json (codes "changed")) in
    let b : List ℕ × Json = (codes "key", text_json old.key.now) in
    let d : List ℕ × Json = (codes "old", given_json (assignment_of old)) in
    let e : List ℕ × Json = (codes "new", given_json (assignment_of new)) in
    let none = no_members_yet front front refl in
    let one = member_behind front front c.put_member.new.json.tokens [] a none c.in_ok-put_member.ensures.tokens in
    let two = member_behind front c.put_member.new.json.tokens c.put_member-2.new.json.tokens (a ∷ []) b one c.in_ok-put_member-2.ensures.tokens in
    let three = member_behind front c.put_member-2.new.json.tokens c.put_given_at.new.json.tokens (a ∷ b ∷ []) d two c.in_ok-put_given_at.ensures.tokens in
    on_ok_weaker c.put_given_at-2.result
    (λ h. member_behind front c.put_given_at.new.json.tokens c.put_given_at-2.new.json.tokens (a ∷ b ∷ d ∷ []) e three h)
    c.put_given_at-2.ensures.tokens
