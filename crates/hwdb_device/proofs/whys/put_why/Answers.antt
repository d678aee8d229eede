use Rattle.std.proofs.Common.{List, ℕ, ◌∙◌, ◌++◌, ◌∷◌, [], ap, codes}
use Rattle.std.proofs.lemmas.Result.{on_ok_weaker}
use Rattle.json.specs.Json.{Json}
use Rattle.json.specs.Token.{begin_object}
use Rattle.hwdb_spec_commands.specs.Json.{text_json}
use Rattle.hwdb_spec_rules.specs.RuleWhys.{asks_word, cause_member}
use Rattle.hwdb_show.specs.JsonTokens.{tokens_of_member}
use Rattle.hwdb_show.specs.Lemmas.Json.{member_behind, members_behind, no_members_yet, object_closed}
use Rattle.hwdb_device.proofs.whys.put_why.Goals as goal

pub returns-clause-tokens : goal.returns-clause-tokens
returns-clause-tokens c =
    let why = c.args.why.now in
    let front = c.args.json.now.tokens ++ begin_object ∷ [] in
    let a : List ℕ × Json = (codes "rule", text_json why.rule.items) in
    let b : List ℕ × Json = (codes "asks", text_json (asks_word why.asks)) in
    let none = no_members_yet front c.begin_object.new.self.tokens c.in_ok-begin_object.ensures.ok in
    let one = member_behind front c.begin_object.new.self.tokens c.put_member.new.json.tokens [] a none
    (c.in_ok-put_member.ensures.tokens ∙ ap (λ t. c.begin_object.new.self.tokens ++ tokens_of_member (codes "rule", text_json t)) c.deref.ensures.value) in
    let two = member_behind front c.put_member.new.json.tokens c.put_member-2.new.json.tokens (a ∷ []) b one
    (c.in_ok-put_member-2.ensures.tokens ∙ ap (λ t. c.put_member.new.json.tokens ++ tokens_of_member (codes "asks", text_json t)) c.asks_word.ensures) in
    let three = members_behind front c.put_member-2.new.json.tokens c.put_cause.new.json.tokens (a ∷ b ∷ []) (cause_member c.deref-2.result.now) two c.in_ok-put_cause.ensures.tokens in
    on_ok_weaker c.end_object.result
    (object_closed c.args.json.now.tokens c.put_cause.new.json.tokens c.end_object.new.self.tokens _ _ three (ap (λ t. a ∷ b ∷ cause_member t) c.deref-2.ensures.value)) c.end_object.ensures.ok
