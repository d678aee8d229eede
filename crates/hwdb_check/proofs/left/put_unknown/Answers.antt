use Rattle.std.proofs.Common.{◌≡◌, ◌∙◌, ◌++◌, ◌∷◌, [], ℕ, List, OnOk, codes, false, subst}
use Rattle.std.specs.Prelude.{None}
use Rattle.hwdb_spec_commands.specs.AllowedKinds.{one_unknown, unknown_hint, unknown_text}
use Rattle.hwdb_spec_commands.specs.Findings as spec
use Rattle.hwdb_check.specs.Found.{finds}
use Rattle.hwdb_check.proofs.left.put_unknown.Goals as goal

pub returns : goal.returns
unfolding one_unknown
returns c =
    let line = c.args.line.now in
    let name : List ℕ = c.args.name.now in
    let at : (place : ℕ) (text hint : List ℕ) → spec.Finding = λ place text hint. record {
      path = line.path.now;
      line = line.number;
      place = place;
      fault = false;
      kind = codes "unknown-kind";
      text = text;
      hint = hint;
      source = line.text.now;
      fix = None;
    } in
    let Is : spec.Finding → Type 0 = λ f. OnOk c.put_found.result (finds c.put_found.new.all.items ≡ finds c.args.found.now.items ++ f ∷ []) in
    subst (λ (p : ℕ). Is (at p (unknown_text name) (unknown_hint name))) c.place_of.ensures
    (subst (λ (t : List ℕ). Is (at c.place_of.result t (unknown_hint name))) (c.deref.ensures.value ∙ c.in_ok-told.ensures)
    (subst (λ (h : List ℕ). Is (at c.place_of.result c.deref.result.now h)) (c.deref-2.ensures.value ∙ c.in_ok-hint.ensures) c.put_found.ensures))
