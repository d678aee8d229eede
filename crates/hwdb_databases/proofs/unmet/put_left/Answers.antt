use Rattle.std.proofs.Common.{List, ℕ, ◌++◌, ◌∷◌, ◌∙◌, [], ap, codes, length, map, refl}
use Rattle.std.proofs.lemmas.Result.{on_ok_weaker}
use Rattle.json.specs.Json.{Json}
use Rattle.json.specs.Token.{begin_object}
use Rattle.hwdb_spec_commands.specs.Json.{number_json}
use Rattle.hwdb_spec_commands.specs.Unmet.{which_member}
use Rattle.hwdb_show.specs.JsonTokens.{tokens_of_member}
use Rattle.hwdb_show.specs.Lemmas.Json.{member_behind, members_behind, no_members_yet, object_closed}
use Rattle.hwdb_databases.specs.Views.{change_shown}
use Rattle.hwdb_databases.proofs.LineLemmas.{as_many}
use Rattle.hwdb_databases.proofs.unmet.put_left.Goals as goal

pub returns-clause-tokens : goal.returns-clause-tokens
returns-clause-tokens c =
    let left = map change_shown c.args.left.now in
    let front = c.args.json.now.tokens ++ begin_object ∷ [] in
    let a : List ℕ × Json = (codes "changed", number_json c.args.all) in
    let b : List ℕ × Json = (codes "unmet", number_json (length left)) in
    let more = which_member c.args.verbose left in
    let none = no_members_yet front c.begin_object.new.self.tokens c.in_ok-begin_object.ensures.ok in
    let one = member_behind front c.begin_object.new.self.tokens c.put_count.new.json.tokens [] a none c.in_ok-put_count.ensures.tokens in
    let two = member_behind front c.put_count.new.json.tokens c.put_count-2.new.json.tokens (a ∷ []) b one
    (c.in_ok-put_count-2.ensures.tokens ∙ ap (λ (n : ℕ). c.put_count.new.json.tokens ++ tokens_of_member (codes "unmet", number_json n)) (as_many c.args.left.now)) in
    let three = members_behind front c.put_count-2.new.json.tokens c.put_which.new.json.tokens (a ∷ b ∷ []) more two c.in_ok-put_which.ensures.tokens in
    on_ok_weaker c.end_object.result
    (object_closed c.args.json.now.tokens c.put_which.new.json.tokens c.end_object.new.self.tokens (a ∷ b ∷ more) (a ∷ b ∷ more) three refl) c.end_object.ensures.ok
