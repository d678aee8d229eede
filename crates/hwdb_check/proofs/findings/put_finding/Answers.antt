use Rattle.std.proofs.Common.{List, ℕ, ◌++◌, ◌∷◌, [], codes, refl, ◌∙◌, ap}
use Rattle.std.proofs.lemmas.Result.{on_ok_weaker}
use Rattle.std.specs.Option.{option_map}
use Rattle.json.specs.Json.{Json}
use Rattle.json.specs.Token.{begin_object}
use Rattle.hwdb_spec_commands.specs.Findings.{column, fix_members, severity_name}
use Rattle.hwdb_spec_commands.specs.Json.{number_json, text_json}
use Rattle.hwdb_show.specs.JsonTokens.{tokens_of_member}
use Rattle.hwdb_show.specs.Lemmas.Json.{member_behind, members_behind, no_members_yet, object_closed}
use Rattle.hwdb_check.proofs.findings.put_finding.Goals as goal

pub returns-clause-tokens : goal.returns-clause-tokens
returns-clause-tokens c =
    let found = c.args.found.now in
    let front = c.args.json.now.tokens ++ begin_object ∷ [] in
    let a : List ℕ × Json = (codes "path", text_json found.path.now) in
    let b : List ℕ × Json = (codes "line", number_json found.line) in
    let d : List ℕ × Json = (codes "column", number_json (column found.place)) in
    let e : List ℕ × Json = (codes "kind", text_json found.kind.now) in
    let h : List ℕ × Json = (codes "text", text_json found.text.now) in
    let i : List ℕ × Json = (codes "hint", text_json found.hint.now) in
    let s : List ℕ × Json = (codes "severity", text_json (severity_name found.fault)) in
    let o : List ℕ × Json = (codes "source", text_json found.source.now) in
    let none = no_members_yet front c.begin_object.new.self.tokens c.in_ok-begin_object.ensures.ok in
    let one = member_behind front c.begin_object.new.self.tokens c.put_member.new.json.tokens [] a none c.in_ok-put_member.ensures.tokens in
    let two = member_behind front c.put_member.new.json.tokens c.put_count.new.json.tokens (a ∷ []) b one c.in_ok-put_count.ensures.tokens in
    let three = member_behind front c.put_count.new.json.tokens c.put_count-2.new.json.tokens (a ∷ b ∷ []) d two
    (c.in_ok-put_count-2.ensures.tokens ∙ ap (λ n. c.put_count.new.json.tokens ++ tokens_of_member (codes "column", number_json n)) c.column_of.ensures) in
    let four = member_behind front c.put_count-2.new.json.tokens c.put_member-2.new.json.tokens (a ∷ b ∷ d ∷ []) e three
    (c.in_ok-put_member-2.ensures.tokens ∙ ap (λ k. c.put_count-2.new.json.tokens ++ tokens_of_member (codes "kind", text_json k)) c.as_bytes.ensures.value) in
    let five = member_behind front c.put_member-2.new.json.tokens c.put_member-3.new.json.tokens (a ∷ b ∷ d ∷ e ∷ []) h four c.in_ok-put_member-3.ensures.tokens in
    let six = member_behind front c.put_member-3.new.json.tokens c.put_member-4.new.json.tokens (a ∷ b ∷ d ∷ e ∷ h ∷ []) i five c.in_ok-put_member-4.ensures.tokens in
    let seven = member_behind front c.put_member-4.new.json.tokens c.put_member-5.new.json.tokens (a ∷ b ∷ d ∷ e ∷ h ∷ i ∷ []) s six
    (c.in_ok-put_member-5.ensures.tokens ∙ ap (λ k. c.put_member-4.new.json.tokens ++ tokens_of_member (codes "severity", text_json k)) (c.as_bytes-2.ensures.value ∙ c.severity_name.ensures)) in
    let eight = member_behind front c.put_member-5.new.json.tokens c.put_member-6.new.json.tokens (a ∷ b ∷ d ∷ e ∷ h ∷ i ∷ s ∷ []) o seven
    c.in_ok-put_member-6.ensures.tokens in
    let more = fix_members (option_map (λ t. t.items) found.fix.now) in
    let nine = members_behind front c.put_member-6.new.json.tokens c.put_fix.new.json.tokens (a ∷ b ∷ d ∷ e ∷ h ∷ i ∷ s ∷ o ∷ []) more eight c.in_ok-put_fix.ensures.tokens in
    let all : List (List ℕ × Json) = a ∷ b ∷ d ∷ e ∷ h ∷ i ∷ s ∷ o ∷ more in
    on_ok_weaker c.end_object.result (object_closed c.args.json.now.tokens c.put_fix.new.json.tokens c.end_object.new.self.tokens all all nine refl) c.end_object.ensures.ok
