-- What the tests of forms say.
use Rattle.std.proofs.Common.{◌≡◌, ℕ, Bool, true, false, IsTrue, List, [], ◌∷◌, ◌++◌, refl, sym, ap, subst, ◌∙◌, inl, inr, ◌||◌, ◌<◌, ◌≤◌, append_assoc, arith, drop, get_or, length, map, suc, zero}
use Rattle.std.proofs.Math.Seq.{drop-cons}
use Rattle.hwdb_spec.specs.Patterns.{Token, star, Matches}
use Rattle.hwdb_spec.specs.Forms.{Form, HasForm, HasOneOf, CanMatch, CanBegin, can_match, meets_form}
use Rattle.hwdb_forms.specs.Internal.{Fits, IsMet}
use Rattle.hwdb_forms.specs.Laws.{FormsAreTested, FrontsAreTested}
use Rattle.hwdb_forms.proofs.MeetLemmas.{or_cases, or_first, or_second}
use Rattle.hwdb_forms.proofs.RowLemmas.{form_met}
use Rattle.hwdb_forms.proofs.ReadLemmas.{form_out, form_in}
use Rattle.hwdb_spec.specs.Lemmas.Truth.{or_left}

pub met_out : (form : Form) (ts : List Token) → IsTrue (meets_form ts form) → (text : List ℕ) × HasForm form text × Matches ts text
met_out form ts h = let m : IsMet (Fits form) ts = (form_met form ts).0 h in (m.0, form_out form m.0 m.1, m.2)

pub met_in : (form : Form) (ts : List Token) (text : List ℕ) → HasForm form text → Matches ts text → IsTrue (meets_form ts form)
met_in form ts text f m = (form_met form ts).1 (text, form_in form text f, m)

match_out : (forms : List Form) (ts : List Token) → IsTrue (can_match forms ts) → CanMatch forms ts
match_out [] ts h = cc
match_out (form ∷ more) ts h = elim (or_cases (meets_form ts form) (can_match more ts) h) [
  | inl here ↦ let m : (text : List ℕ) × HasForm form text × Matches ts text = met_out form ts here in (m.0, inl m.1, m.2)
  | inr later ↦ let m : CanMatch more ts = match_out more ts later in (m.0, inr m.1, m.2)
]

match_in : (forms : List Form) (ts : List Token) (text : List ℕ) → HasOneOf forms text → Matches ts text → IsTrue (can_match forms ts)
match_in [] ts text f m = absurd f
match_in (form ∷ more) ts text f m = elim f [
  | inl here ↦ or_first (meets_form ts form) (can_match more ts) (met_in form ts text here m)
  | inr later ↦ or_second (meets_form ts form) (can_match more ts) (match_in more ts text later m)
]

pub forms_tested : FormsAreTested
forms_tested forms ts = (match_out forms ts, λ m. match_in forms ts m.0 m.1 m.2)

-- tokens match a text exactly if it has two parts that they match in two parts
pub match_parted : (a c : List Token) (text : List ℕ) → Matches (a ++ c) text → (front : List ℕ) × (rest : List ℕ) × (text ≡ front ++ rest) × Matches a front × Matches c rest
match_parted [] c text m = ([], text, refl, refl, m)
match_parted (t ∷ a) c text m =
    let more : (front : List ℕ) × (rest : List ℕ) × (m.1 ≡ front ++ rest) × Matches a front × Matches c rest = match_parted a c m.1 m.4 in
    (m.0 ++ more.0, more.1, m.2 ∙ ap (λ r. m.0 ++ r) more.2 ∙ sym (append_assoc m.0 more.0 more.1), (m.0, more.0, refl, m.3, more.3), more.4)

pub match_joined : (a c : List Token) (front rest : List ℕ) → Matches a front → Matches c rest → Matches (a ++ c) (front ++ rest)
match_joined [] c front rest m k = subst (λ (f : List ℕ). Matches c (f ++ rest)) (sym m) k
match_joined (t ∷ a) c front rest m k =
    (m.0, m.1 ++ rest, ap (λ f. f ++ rest) m.2 ∙ append_assoc m.0 m.1 rest, m.3, match_joined a c m.1 rest m.4 k)

pub append_none : (l : List ℕ) → l ≡ l ++ []
append_none [] = refl
append_none (x ∷ l) = ap (λ r. x ∷ r) (append_none l)

pub star_any : (text : List ℕ) → Matches (star ∷ []) text
star_any text = (text, [], append_none text, tt, refl)

begin_out : (forms : List Form) (ts : List Token) → CanMatch forms (ts ++ star ∷ []) → CanBegin forms ts
begin_out forms ts m =
    let parts : (a : List ℕ) × (b : List ℕ) × (m.0 ≡ a ++ b) × Matches ts a × Matches (star ∷ []) b = match_parted ts (star ∷ []) m.0 m.2 in
    (parts.0, parts.1, subst (λ (t : List ℕ). HasOneOf forms t) parts.2 m.1, parts.3)

begin_in : (forms : List Form) (ts : List Token) → CanBegin forms ts → CanMatch forms (ts ++ star ∷ [])
begin_in forms ts m = (m.0 ++ m.1, m.2, match_joined ts (star ∷ []) m.0 m.1 m.3 (star_any m.1))

pub fronts_tested : FrontsAreTested
fronts_tested forms ts =
    (λ h. begin_out forms ts ((forms_tested forms (ts ++ star ∷ [])).0 h), λ m. (forms_tested forms (ts ++ star ∷ [])).1 (begin_in forms ts m))

-- a search through some forms, which Rust's values mean
next_form : (A : Type 0) (f : A → Form) (l : List A) (i : ℕ) (d : A) (ts : List Token) → i < length l
    → can_match (map f (drop i l)) ts ≡ (meets_form ts (f (get_or l i d)) || can_match (map f (drop (suc i) l)) ts)
next_form A f l i d ts h = rw (drop-cons l i d h) refl

or_false : (a b : Bool) → a ≡ false → (a || b) ≡ b
or_false true b e = cc
or_false false b e = refl

pub form_found : (A : Type 0) (f : A → Form) (l : List A) (i : ℕ) (d : A) (ts : List Token) (met whole : Bool) → i < length l → met ≡ meets_form ts (f (get_or l i d)) → met ≡ true
    → can_match (map f (drop i l)) ts ≡ whole → true ≡ whole
form_found A f l i d ts met whole h e t w =
    sym (or_left (meets_form ts (f (get_or l i d))) (can_match (map f (drop (suc i) l)) ts) (sym e ∙ t)) ∙ sym (next_form A f l i d ts h) ∙ w

pub form_passed : (A : Type 0) (f : A → Form) (l : List A) (i n : ℕ) (d : A) (ts : List Token) (met whole : Bool) → i < length l → n ≡ suc i → met ≡ meets_form ts (f (get_or l i d)) → met ≡ false
    → can_match (map f (drop i l)) ts ≡ whole → can_match (map f (drop n l)) ts ≡ whole
form_passed A f l i n d ts met whole h k e t w =
    ap (λ (j : ℕ). can_match (map f (drop j l)) ts) k
    ∙ sym (next_form A f l i d ts h ∙ or_false (meets_form ts (f (get_or l i d))) (can_match (map f (drop (suc i) l)) ts) (sym e ∙ t)) ∙ w

long_drop : (A : Type 0) (l : List A) (n : ℕ) → length l ≤ n → drop n l ≡ []
long_drop A [] zero h = refl
long_drop A [] (suc n) h = refl
long_drop A (x ∷ l) zero h = absurd (omega arith)
long_drop A (x ∷ l) (suc n) h = long_drop A l n (omega arith)

pub no_form : (A : Type 0) (f : A → Form) (l : List A) (i : ℕ) (ts : List Token) (whole : Bool) → length l ≤ i → can_match (map f (drop i l)) ts ≡ whole → false ≡ whole
no_form A f l i ts whole h w = ap (λ (r : List A). can_match (map f r) ts) (sym (long_drop A l i h)) ∙ w

-- two lists of forms
pub match_both : (first second : List Form) (ts : List Token) → can_match (first ++ second) ts ≡ (can_match first ts || can_match second ts)
match_both [] second ts = refl
match_both (form ∷ more) second ts = ap (λ b. meets_form ts form || b) (match_both more second ts) ∙ or_again (meets_form ts form) (can_match more ts) (can_match second ts)
  where
    or_again : (a b c : Bool) → (a || (b || c)) ≡ ((a || b) || c)
    or_again true b c = refl
    or_again false b c = refl

pub first_matches : (first second : List Form) (ts : List Token) (met : Bool) → met ≡ can_match first ts → met ≡ true → true ≡ can_match (first ++ second) ts
first_matches first second ts met e t = sym (match_both first second ts ∙ or_left (can_match first ts) (can_match second ts) (sym e ∙ t))

pub second_tells : (first second : List Form) (ts : List Token) (met told : Bool) → met ≡ can_match first ts → met ≡ false → told ≡ can_match second ts → told ≡ can_match (first ++ second) ts
second_tells first second ts met told e f k = k ∙ sym (match_both first second ts ∙ or_false (can_match first ts) (can_match second ts) (sym e ∙ f))
