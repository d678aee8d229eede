use Rattle.std.proofs.Common.{List, ℕ, ◌++◌, ◌∷◌, [], codes, refl, ◌∙◌, ap}
use Rattle.std.proofs.lemmas.Result.{on_ok_weaker}
use Rattle.json.specs.Json.{Json}
use Rattle.json.specs.Token.{begin_object}
use Rattle.hwdb_spec_commands.specs.Json.{text_json}
use Rattle.hwdb_show.specs.JsonTokens.{tokens_of_member}
use Rattle.hwdb_show.specs.Lemmas.Json.{member_behind, no_members_yet, object_closed}
use Rattle.hwdb_check.proofs.baselines.put_mark_of.Goals as goal

pub returns-clause-tokens : goal.returns-clause-tokens
returns-clause-tokens c =
    let front = c.args.json.now.tokens ++ begin_object ∷ [] in
    let found = c.args.found.now in
    let a : List ℕ × Json = (codes "path", text_json found.path.items) in
    let b : List ℕ × Json = (codes "kind", text_json found.kind.now) in
    let d : List ℕ × Json = (codes "source", text_json found.source.items) in
    let none = no_members_yet front c.begin_object.new.self.tokens c.in_ok-begin_object.ensures.ok in
    let one = member_behind front c.begin_object.new.self.tokens c.put_member.new.json.tokens [] a none (c.in_ok-put_member.ensures.tokens ∙ ap (λ k. c.begin_object.new.self.tokens ++ tokens_of_member (codes "path", text_json k)) c.deref.ensures.value) in
    let two = member_behind front c.put_member.new.json.tokens c.put_member-2.new.json.tokens (a ∷ []) b one (c.in_ok-put_member-2.ensures.tokens ∙ ap (λ k. c.put_member.new.json.tokens ++ tokens_of_member (codes "kind", text_json k)) c.as_bytes.ensures.value) in
    let three = member_behind front c.put_member-2.new.json.tokens c.put_member-3.new.json.tokens (a ∷ b ∷ []) d two (c.in_ok-put_member-3.ensures.tokens ∙ ap (λ k. c.put_member-2.new.json.tokens ++ tokens_of_member (codes "source", text_json k)) c.deref-2.ensures.value) in
    let all : List (List ℕ × Json) = a ∷ b ∷ d ∷ [] in
    on_ok_weaker c.end_object.result (object_closed c.args.json.now.tokens c.put_member-3.new.json.tokens c.end_object.new.self.tokens all all three refl) c.end_object.ensures.ok
