use Rattle.std.proofs.Common.{Global, List, Vec, ℕ, ◌++◌, ◌∙◌, ◌∷◌, ◌≡◌, [], ap, append_assoc, codes, map}
use Rattle.std.proofs.lemmas.Result.{on_ok_weaker}
use Rattle.json.specs.Json.{Json}
use Rattle.json.specs.Token.{begin_object}
use Rattle.hwdb_spec_commands.specs.Json.{array_of, text_json}
use Rattle.hwdb_spec_commands.specs.Status.{amount_json, bare_members, maybe_json, remedy_members, state_members, state_word}
use Rattle.hwdb_databases.specs.Views.{report_shown}
use Rattle.hwdb_databases.proofs.json_reports.put_report.Goals as goal
use Rattle.hwdb_show.specs.Lemmas.Json.{member_behind, members_behind, no_members_yet, object_closed}

pub returns-clause-tokens : goal.returns-clause-tokens
returns-clause-tokens c =
    let r = report_shown c.args.report.now in
    let front = c.args.json.now.tokens ++ begin_object ∷ [] in
    let masked : List (Vec ℕ Global) → List ℕ × Json = λ paths. (codes "masked", array_of (map text_json (map (λ t. t.items) paths))) in
    let ignored : List (Vec ℕ Global) → List ℕ × Json = λ paths. (codes "ignored", array_of (map text_json (map (λ t. t.items) paths))) in
    let state : List ℕ → List ℕ × Json = λ word. (codes "state", text_json word) in
    let m1 : List ℕ × Json = (codes "database", maybe_json r.database) in
    let m2 : List ℕ × Json = (codes "holds", amount_json r.holds) in
    let m3 : List ℕ × Json = (codes "hides", maybe_json r.hides) in
    let m4 : List ℕ × Json = (codes "hidden", amount_json r.hidden) in
    let m5 = masked c.deref.result.now in
    let m6 = ignored c.deref-2.result.now in
    let m7 = state c.as_bytes.result.now in
    let bare = bare_members r.bare in
    let changes = state_members r.state in
    let run = remedy_members r.remedy in
    let last = bare ++ (changes ++ run) in
    let rest : List (List ℕ × Json) → List (List ℕ × Json) = λ ms. m1 ∷ m2 ∷ m3 ∷ m4 ∷ ms in
    let own_masked = c.args.report.now.masked.items in
    let own_ignored = c.args.report.now.ignored.items in
    let done : List (List ℕ × Json) = rest (m5 ∷ m6 ∷ m7 ∷ ((bare ++ changes) ++ run)) in
    let all : List (List ℕ × Json) = rest (masked own_masked ∷ ignored own_ignored ∷ state (state_word r.bare r.state) ∷ last) in
    let whole : done ≡ all =
    ap (λ (ms : List (List ℕ × Json)). rest (m5 ∷ m6 ∷ m7 ∷ ms)) (append_assoc bare changes run)
    ∙ ap (λ (paths : List (Vec ℕ Global)). rest (masked paths ∷ m6 ∷ m7 ∷ last)) c.deref.ensures.value
    ∙ ap (λ (paths : List (Vec ℕ Global)). rest (masked own_masked ∷ ignored paths ∷ m7 ∷ last)) c.deref-2.ensures.value
    ∙ ap (λ (word : List ℕ). rest (masked own_masked ∷ ignored own_ignored ∷ state word ∷ last)) (c.as_bytes.ensures.value ∙ c.state_word.ensures) in
    let none = no_members_yet front c.begin_object.new.self.tokens c.in_ok-begin_object.ensures.ok in
    let s1 = member_behind front c.begin_object.new.self.tokens c.put_maybe_at.new.json.tokens [] m1 none c.in_ok-put_maybe_at.ensures.tokens in
    let s2 = member_behind front c.put_maybe_at.new.json.tokens c.put_amount_at.new.json.tokens (m1 ∷ []) m2 s1 c.in_ok-put_amount_at.ensures.tokens in
    let s3 = member_behind front c.put_amount_at.new.json.tokens c.put_maybe_at-2.new.json.tokens (m1 ∷ m2 ∷ []) m3 s2 c.in_ok-put_maybe_at-2.ensures.tokens in
    let s4 = member_behind front c.put_maybe_at-2.new.json.tokens c.put_amount_at-2.new.json.tokens (m1 ∷ m2 ∷ m3 ∷ []) m4 s3 c.in_ok-put_amount_at-2.ensures.tokens in
    let s5 = member_behind front c.put_amount_at-2.new.json.tokens c.put_texts_at.new.json.tokens (rest []) m5 s4 c.in_ok-put_texts_at.ensures.tokens in
    let s6 = member_behind front c.put_texts_at.new.json.tokens c.put_texts_at-2.new.json.tokens (rest (m5 ∷ [])) m6 s5 c.in_ok-put_texts_at-2.ensures.tokens in
    let s7 = member_behind front c.put_texts_at-2.new.json.tokens c.put_member.new.json.tokens (rest (m5 ∷ m6 ∷ [])) m7 s6 c.in_ok-put_member.ensures.tokens in
    let s8 = members_behind front c.put_member.new.json.tokens c.put_bare.new.json.tokens (rest (m5 ∷ m6 ∷ m7 ∷ [])) bare s7 c.in_ok-put_bare.ensures.tokens in
    let s9 = members_behind front c.put_bare.new.json.tokens c.put_state.new.json.tokens (rest (m5 ∷ m6 ∷ m7 ∷ bare)) changes s8 c.in_ok-put_state.ensures.tokens in
    let s10 = members_behind front c.put_state.new.json.tokens c.put_remedy.new.json.tokens (rest (m5 ∷ m6 ∷ m7 ∷ (bare ++ changes))) run s9 c.in_ok-put_remedy.ensures.tokens in
    on_ok_weaker c.end_object.result (object_closed c.args.json.now.tokens c.put_remedy.new.json.tokens c.end_object.new.self.tokens done all s10 whole) c.end_object.ensures.ok
