use Rattle.std.proofs.Common.{List, ℕ, ◌++◌, ◌∷◌, [], codes, refl}
use Rattle.std.proofs.lemmas.Result.{on_ok_weaker}
use Rattle.json.specs.Json.{Json}
use Rattle.json.specs.Token.{begin_object}
use Rattle.json.specs.Value.{value_view}
use Rattle.hwdb_show.specs.Lemmas.Json.{member_behind, no_members_yet, object_closed}
use Rattle.hwdb_check.proofs.baselines.put_mark.Goals as goal

pub returns-clause-tokens : goal.returns-clause-tokens
returns-clause-tokens c =
    let front = c.args.json.now.tokens ++ begin_object ∷ [] in
    let a : List ℕ × Json = (codes "path", value_view c.args.path.now) in
    let b : List ℕ × Json = (codes "kind", value_view c.args.kind.now) in
    let d : List ℕ × Json = (codes "source", value_view c.args.source.now) in
    let none = no_members_yet front c.begin_object.new.self.tokens c.in_ok-begin_object.ensures.ok in
    let one = member_behind front c.begin_object.new.self.tokens c.put_value.new.json.tokens [] a none c.in_ok-put_value.ensures.tokens in
    let two = member_behind front c.put_value.new.json.tokens c.put_value-2.new.json.tokens (a ∷ []) b one c.in_ok-put_value-2.ensures.tokens in
    let three = member_behind front c.put_value-2.new.json.tokens c.put_value-3.new.json.tokens (a ∷ b ∷ []) d two c.in_ok-put_value-3.ensures.tokens in
    let all : List (List ℕ × Json) = a ∷ b ∷ d ∷ [] in
    on_ok_weaker c.end_object.result (object_closed c.args.json.now.tokens c.put_value-3.new.json.tokens c.end_object.new.self.tokens all all three refl) c.end_object.ensures.ok
