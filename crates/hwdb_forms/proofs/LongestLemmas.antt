-- How many tokens a text of some forms begins with.
use Rattle.std.proofs.Common.{◌≡◌, ℕ, ◌-◌, ◌<◌, ◌≤◌, ◌||◌, Bool, true, false, List, [], ◌∷◌, ◌++◌, refl, sym, ap, subst, ◌∙◌, append_assoc, arith, drop, get_or, length, map, nat_lt, suc, take, zero}
use Rattle.std.specs.Prelude.{max}
use Rattle.std.proofs.lemmas.Bool.{ltb-false, ltb-true}
use Rattle.std.proofs.lemmas.List.{take_all, take-append-drop}
use Rattle.std.proofs.Math.Nat.{le-max_left, le-max_right, max-eq_left, max-eq_right}
use Rattle.std.proofs.Math.Seq.{take-take}
use Rattle.hwdb_spec.specs.Patterns.{Token, star}
use Rattle.hwdb_spec.specs.Forms.{Form, can_begin, can_match, front_length, meets_form}
use Rattle.hwdb_forms.specs.Internal.{Every, IsFar, IsFront}
use Rattle.hwdb_forms.proofs.AnswerLemmas.{match_both}
use Rattle.hwdb_forms.proofs.FrontLemmas.{front_is}

-- ---- one form
alone : (form : Form) (ts : List Token) (b : Bool) → meets_form (ts ++ star ∷ []) form ≡ b → can_begin (form ∷ []) ts ≡ b
alone form ts b e = ap (λ (x : Bool). x || false) e ∙ or_no b
  where
    or_no : (b : Bool) → (b || false) ≡ b
    or_no true = refl
    or_no false = refl

-- ---- a form more
both_are : (forms : List Form) (form : Form) (ts : List Token) (a b : Bool) → can_begin forms ts ≡ a → can_begin (form ∷ []) ts ≡ b → can_begin (forms ++ form ∷ []) ts ≡ (a || b)
both_are forms form ts a b e k =
    match_both forms (form ∷ []) (ts ++ star ∷ []) ∙ ap (λ (x : Bool). x || can_begin (form ∷ []) ts) e ∙ ap (λ (x : Bool). a || x) k

either_way : (b : Bool) → (b || true) ≡ true
either_way true = refl
either_way false = refl

-- the longer one of two fronts
pub front_max : (forms : List Form) (form : Form) (ts : List Token) (low more high : ℕ) → high ≡ max low more → IsFront forms ts low → IsFront (form ∷ []) ts more → IsFront (forms ++ form ∷ []) ts high
front_max forms form ts low more high e f g = record {
  within = by (nat_lt low more) refl;
  met = λ some. met some (nat_lt low more) refl;
  none = λ n k l. both_are forms form (take n ts) false false (f.none n (omega (arith, k, e, le-max_left low more)) l) (g.none n (omega (arith, k, e, le-max_right low more)) l);
}
  where
    low_is : nat_lt low more ≡ false → high ≡ low
    low_is k = e ∙ max-eq_left (ltb-false low more k)

    more_is : nat_lt low more ≡ true → high ≡ more
    more_is k = e ∙ max-eq_right (omega (arith, ltb-true low more k))

    by : (c : Bool) → nat_lt low more ≡ c → high ≤ length ts
    by true k = omega (arith, more_is k, g.within)
    by false k = omega (arith, low_is k, f.within)

    met : 0 < high → (c : Bool) → nat_lt low more ≡ c → can_begin (forms ++ form ∷ []) (take high ts) ≡ true
    met some true k =
        both_are forms form (take high ts) (can_begin forms (take high ts)) true refl
        (ap (λ (n : ℕ). can_begin (form ∷ []) (take n ts)) (more_is k) ∙ g.met (omega (arith, more_is k, some))) ∙ either_way (can_begin forms (take high ts))
    met some false k =
        both_are forms form (take high ts) true (can_begin (form ∷ []) (take high ts)) (ap (λ (n : ℕ). can_begin forms (take n ts)) (low_is k) ∙ f.met (omega (arith, low_is k, some))) refl

-- tokens that match no text of the form, whatever comes after them
pub front_dead : (forms : List Form) (form : Form) (ts us : List Token) (low some : ℕ) → us ≡ take some ts → low ≤ length ts → (low < length ts → some ≡ suc low) → (length ts ≤ low → some ≡ low)
    → ((more : List Token) → meets_form (us ++ more) form ≡ false) → IsFront forms ts low → IsFront (forms ++ form ∷ []) ts low
front_dead forms form ts us low some u within less all dead f = record {
  within = f.within;
  met = λ k. both_are forms form (take low ts) true (can_begin (form ∷ []) (take low ts)) (f.met k) refl;
  none = λ n k l. both_are forms form (take n ts) false false (f.none n k l) (alone form (take n ts) false (longer n (omega (arith, k, less (omega (arith, k, l))))));
}
  where
    longer : (n : ℕ) → some ≤ n → meets_form (take n ts ++ star ∷ []) form ≡ false
    longer n h =
        ap (λ (l : List Token). meets_form l form)
        (ap (λ (l : List Token). l ++ star ∷ []) (sym (take-append-drop some (take n ts)) ∙ ap (λ (l : List Token). l ++ drop some (take n ts)) (take-take some n ts h ∙ sym u))
        ∙ append_assoc us (drop some (take n ts)) (star ∷ []))
        ∙ dead (drop some (take n ts) ++ star ∷ [])

-- all of them don't, too
pub all_dead : (form : Form) (ts us : List Token) (some : ℕ) → us ≡ take some ts → ((more : List Token) → meets_form (us ++ more) form ≡ false) → false ≡ meets_form ts form
all_dead form ts us some u dead =
    sym (dead (drop some ts)) ∙ ap (λ (l : List Token). meets_form l form) (ap (λ (l : List Token). l ++ drop some ts) u ∙ take-append-drop some ts)

-- how far a walk goes
pub far_front : (form : Form) (ts : List Token) (n : ℕ) → IsFar (λ us. meets_form us form) ts n → IsFront (form ∷ []) ts n
far_front form ts n f = record {
  within = f.within;
  met = λ k. alone form (take n ts) true (f.met k);
  none = λ more k l. alone form (take more ts) false (f.none more k l);
}

-- ---- the loop over all forms
pub front_none : (ts : List Token) → IsFront [] ts 0
front_none ts = record { within = omega arith; met = λ h. absurd (omega arith); none = λ more h k. refl }

pub front_begun : (A : Type 0) (f : A → Form) (l : List A) (ts : List Token) → IsFront (map f (take 0 l)) ts 0
front_begun A f [] ts = front_none ts
front_begun A f (x ∷ l) ts = front_none ts

pub match_begun : (A : Type 0) (f : A → Form) (l : List A) (ts : List Token) → can_match (map f (drop 0 l)) ts ≡ can_match (map f l) ts
match_begun A f [] ts = refl
match_begun A f (x ∷ l) ts = refl

pub every_at : (A B : Type 0) (f : A → B) (Told : B → Type 0) (l : List A) (i : ℕ) (d : A) → i < length l → Every B Told (map f l) → Told (f (get_or l i d))
every_at A B f Told [] i d h e = absurd (omega arith)
every_at A B f Told (x ∷ l) zero d h e = e.0
every_at A B f Told (x ∷ l) (suc i) d h e = every_at A B f Told l i d (omega arith) e.1

one_more : (A : Type 0) (f : A → Form) (l : List A) (i : ℕ) (d : A) → i < length l → map f (take (suc i) l) ≡ map f (take i l) ++ f (get_or l i d) ∷ []
one_more A f [] i d h = absurd (omega arith)
one_more A f (x ∷ l) zero d h = ap (λ (r : List A). f x ∷ map f r) (none l) ∙ sym (ap (λ (r : List A). map f r ++ f x ∷ []) (none (x ∷ l)))
  where
    none : (r : List A) → take 0 r ≡ []
    none [] = refl
    none (y ∷ r) = refl
one_more A f (x ∷ l) (suc i) d h = ap (λ (r : List Form). f x ∷ r) (one_more A f l i d (omega arith))

pub front_next : (A : Type 0) (f : A → Form) (l : List A) (i n : ℕ) (d : A) (ts : List Token) (low : ℕ) → i < length l → n ≡ suc i → IsFront (map f (take i l) ++ f (get_or l i d) ∷ []) ts low → IsFront (map f (take n l)) ts low
front_next A f l i n d ts low h e k =
    subst (λ (fs : List Form). IsFront fs ts low) (sym (ap (λ (j : ℕ). map f (take j l)) e ∙ one_more A f l i d h)) k

pub front_all : (A : Type 0) (f : A → Form) (l : List A) (i : ℕ) (ts : List Token) (low : ℕ) → length l ≤ i → IsFront (map f (take i l)) ts low → IsFront (map f l) ts low
front_all A f l i ts low h k = subst (λ (r : List A). IsFront (map f r) ts low) (take_all i l h) k

pub front_told : (forms all : List Form) (ts : List Token) (front : ℕ) → forms ≡ all → IsFront forms ts front → front ≡ front_length all ts
front_told forms all ts front e f =
    let g : IsFront all ts front = subst (λ (fs : List Form). IsFront fs ts front) e f in
    sym (front_is all ts front (length ts - front) (length ts) (omega (arith, g.within)) g.met g.none)
