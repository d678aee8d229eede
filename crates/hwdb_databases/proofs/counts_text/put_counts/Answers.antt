use Rattle.std.proofs.Common.{List, ℕ, ◌∷◌, [], codes, refl}
use Rattle.std.proofs.lemmas.Result.{on_ok_weaker}
use Rattle.json.specs.Json.{Json}
use Rattle.hwdb_spec_commands.specs.Json.{number_json}
use Rattle.hwdb_show.specs.Lemmas.Json.{member_behind, no_members_yet}
use Rattle.hwdb_databases.proofs.counts_text.put_counts.Goals as goal

pub returns-clause-tokens : goal.returns-clause-tokens
returns-clause-tokens c =
    let front = c.args.json.now.tokens in
    let n = c.args.count in
    let a : List ℕ × Json = (codes "added", number_json n.came) in
    let b : List ℕ × Json = (codes "removed", number_json n.went) in
    let d : List ℕ × Json = (codes "changed", number_json n.changed) in
    let none = no_members_yet front front refl in
    let one = member_behind front front c.put_count.new.json.tokens [] a none c.in_ok-put_count.ensures.tokens in
    let two = member_behind front c.put_count.new.json.tokens c.put_count-2.new.json.tokens (a ∷ []) b one c.in_ok-put_count-2.ensures.tokens in
    on_ok_weaker c.put_count-3.result (λ h. member_behind front c.put_count-2.new.json.tokens c.put_count-3.new.json.tokens (a ∷ b ∷ []) d two h) c.put_count-3.ensures.tokens
