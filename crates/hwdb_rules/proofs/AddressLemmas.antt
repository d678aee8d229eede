-- What the builtin net_id asks.
use Rattle.std.proofs.Common.{◌≡◌, ◌∙◌, ap, codes, refl, subst, sym, Bool, List, [], ◌∷◌, ◌++◌, true, false, ℕ}
use Rattle.std.specs.Prelude.{if◌then◌else◌}
use Rattle.hwdb_spec_commands.specs.Lookups.{Question, Scene, address_digits, address_rule, ask_one, has_own_address, is_owned, itself, question_at, when}
use Rattle.hwdb_rules.specs.Views.{strings_in}

no_more : (questions : List Question) → questions ++ [] ≡ questions
no_more [] = refl
no_more (q ∷ more) = ap (λ (l : List Question). q ∷ l) (no_more more)

-- of an address of its own
pub address_asked : (s : Scene) (digits text : List ℕ) (questions : List Question) → has_own_address s ≡ true → digits ≡ address_digits s → is_owned digits ≡ true → text ≡ codes "OUI:" ++ digits
    → questions ≡ question_at (itself s) text → questions ≡ strings_in (address_rule s)
address_asked s digits text questions own are owned is put =
    put ∙ ap (question_at (itself s)) (is ∙ ap (λ (d : List ℕ). codes "OUI:" ++ d) are) ∙ sym (no_more (question_at (itself s) (codes "OUI:" ++ address_digits s)))
    ∙ sym (ap (λ (b : Bool). strings_in (when b (ask_one (codes "net_id") (itself s) (codes "OUI:" ++ address_digits s)))) holds)
  where
    holds : (if has_own_address s then is_owned (address_digits s) else false) ≡ true
    holds = subst (λ (b : Bool). (if b then is_owned (address_digits s) else false) ≡ true) (sym own) (subst (λ (d : List ℕ). is_owned d ≡ true) are owned)
