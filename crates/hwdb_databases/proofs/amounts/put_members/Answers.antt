use Rattle.std.proofs.Common.{List, ℕ, ◌++◌, ◌∷◌, ◌≡◌, OnOk, [], codes, refl, subst, sym}
use Rattle.std.proofs.lemmas.Result.{on_ok_weaker}
use Rattle.json.specs.Json.{Json}
use Rattle.hwdb_spec_commands.specs.Json.{number_json}
use Rattle.hwdb_spec_commands.specs.Status.{amount_members}
use Rattle.hwdb_show.specs.JsonTokens.{tokens_of_members}
use Rattle.hwdb_show.specs.Lemmas.Json.{member_behind, no_members_yet}
use Rattle.hwdb_databases.specs.Views.{amount_shown}
use Rattle.hwdb_databases.specs.declared.amounts.Amount.{Amount}
use Rattle.hwdb_databases.proofs.amounts.put_members.Goals as goal

pub returns-in_ok-put_count-in-Counted-2-clause-tokens : goal.returns-in_ok-put_count-in-Counted-2-clause-tokens
returns-in_ok-put_count-in-Counted-2-clause-tokens c =
    let front = c.args.json.now.tokens in
    let m1 : List ℕ × Json = (codes "files", number_json c.in-Counted.files) in
    let m2 : List ℕ × Json = (codes "assignments", number_json c.in-Counted.assignments) in
    let m3 : List ℕ × Json = (codes "bytes", number_json c.in-Counted.bytes) in
    let t1 = c.put_count.new.json.tokens in
    let t2 = c.put_count-in-Counted.new.json.tokens in
    let t3 = c.put_count-in-Counted-2.new.json.tokens in
    let s1 = member_behind front front t1 [] m1 (no_members_yet front front refl) c.in_ok-put_count-in-Counted.ensures.tokens in
    let s2 = member_behind front t1 t2 (m1 ∷ []) m2 s1 c.in_ok-put_count-in-Counted-2.ensures.tokens in
    subst (λ (a : Amount). OnOk c.put_count-in-Counted-2.result (t3 ≡ front ++ tokens_of_members (amount_members (amount_shown a)))) (sym c.in-Counted.is)
    (on_ok_weaker c.put_count-in-Counted-2.result (member_behind front t2 t3 (m1 ∷ m2 ∷ []) m3 s2) c.put_count-in-Counted-2.ensures.tokens)
