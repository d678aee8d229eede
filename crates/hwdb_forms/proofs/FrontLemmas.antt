-- Fronts of tokens.
use Rattle.std.proofs.Common.{◌≡◌, ℕ, ◌+◌, ◌<◌, ◌≤◌, Bool, true, false, IsTrue, List, [], ◌∷◌, ◌++◌, refl, sym, ap, subst, ◌∙◌, ◌↔◌, Bor, length, map, take, suc, zero, append_assoc, arith, codes, min, nat_le, nat_lt, not}
use Rattle.std.proofs.lemmas.Bool.{leb-true, leb-false, lt-ltb}
use Rattle.std.specs.Prelude.{if◌then◌else◌}
use Rattle.hwdb_spec.specs.Patterns.{Token, Matches, star, token_at, tokens}
use Rattle.hwdb_spec.specs.declared.Judgement.{Judgement}
use Rattle.hwdb_spec.specs.declared.Judgement.TheVariants.{Dead, Fine, UnknownPrefix}
use Rattle.hwdb_spec.specs.Forms.{CanBegin, CanMatch, Form, HasOneOf, can_begin, can_match, front_from, is_unknown, judged, prefix_size}
use Rattle.hwdb_forms.specs.Internal.{views}
use Rattle.hwdb_forms.specs.Laws.{FrontsAreLongest}
use Rattle.hwdb_forms.proofs.AnswerLemmas.{append_none, forms_tested, fronts_tested}

-- the tokens of fewer texts
pub views_take : (texts : List (Bor (List ℕ))) (n : ℕ) → views (take n texts) ≡ take n (views texts)
views_take [] zero = refl
views_take [] (suc n) = refl
views_take (t ∷ texts) zero = refl
views_take (t ∷ texts) (suc n) = ap (λ r. token_at t.now ∷ r) (views_take texts n)

pub views_long : (texts : List (Bor (List ℕ))) → length (views texts) ≡ length texts
views_long [] = refl
views_long (t ∷ texts) = ap suc (views_long texts)

pub views_pushed : (texts : List (Bor (List ℕ))) (t : Bor (List ℕ)) → views (texts ++ t ∷ []) ≡ views texts ++ token_at t.now ∷ []
views_pushed [] t = refl
views_pushed (x ∷ texts) t = ap (λ r. token_at x.now ∷ r) (views_pushed texts t)

-- fewer tokens match the beginning of what more match
shorter : (ts : List Token) (k j : ℕ) (text : List ℕ) → k ≤ j → Matches (take j ts) text → (front : List ℕ) × (rest : List ℕ) × (text ≡ front ++ rest) × Matches (take k ts) front
shorter ts zero j text h m = ([], text, refl, refl)
shorter ts (suc k) zero text h m = absurd (omega arith)
shorter [] (suc k) (suc j) text h m = (text, [], append_none text, m)
shorter (t ∷ ts) (suc k) (suc j) text h m =
    let less : k ≤ j = omega arith in
    let more : (front : List ℕ) × (rest : List ℕ) × (m.1 ≡ front ++ rest) × Matches (take k ts) front = shorter ts k j m.1 less m.4 in
    (m.0 ++ more.0, more.1, m.2 ∙ ap (λ r. m.0 ++ r) more.2 ∙ sym (append_assoc m.0 more.0 more.1), (m.0, more.0, refl, m.3, more.3))

front_shorter : (forms : List Form) (ts : List Token) (k j : ℕ) → k ≤ j → CanBegin forms (take j ts) → CanBegin forms (take k ts)
front_shorter forms ts k j h m =
    let parts : (front : List ℕ) × (rest : List ℕ) × (m.0 ≡ front ++ rest) × Matches (take k ts) front = shorter ts k j m.0 h m.3 in
    (parts.0, parts.1 ++ m.1, subst (λ (t : List ℕ). HasOneOf forms t) (ap (λ f. f ++ m.1) parts.2 ∙ append_assoc parts.0 parts.1 m.1) m.2, parts.3)

by_case : (b : Bool) → (IsTrue b → ⊥) → b ≡ false
by_case true n = absurd (n refl)
by_case false n = refl

pub no_longer : (forms : List Form) (ts : List Token) (middle : ℕ) (b : Bool) → b ≡ false → b ≡ can_begin forms (take middle ts) → (more : ℕ) → middle ≤ more → can_begin forms (take more ts) ≡ false
no_longer forms ts middle b f k more h =
    by_case (can_begin forms (take more ts)) (λ t.
    let shown : IsTrue (can_begin forms (take middle ts)) = (fronts_tested forms (take middle ts)).1 (front_shorter forms ts middle more h ((fronts_tested forms (take more ts)).0 t)) in
    let no : can_begin forms (take middle ts) ≡ false = sym k ∙ f in
    cc)

if_false : (b : Bool) (x y : ℕ) → b ≡ false → (if b then x else y) ≡ y
if_false false x y e = refl
if_false true x y e = cc

if_true : (b : Bool) (x y : ℕ) → b ≡ true → (if b then x else y) ≡ x
if_true true x y e = refl
if_true false x y e = cc

-- a front that is one, and no longer one is; `d` more are tried
pub front_is : (forms : List Form) (ts : List Token) (low d n : ℕ) → n ≡ d + low → (0 < low → can_begin forms (take low ts) ≡ true) → ((more : ℕ) → low < more → more ≤ n → can_begin forms (take more ts) ≡ false) → front_from forms ts n ≡ low
unfolding front_from
front_is forms ts zero zero zero e met none = refl
front_is forms ts low zero (suc n) e met none =
    let same : low ≡ suc n = omega arith in
    if_true (can_begin forms (take (suc n) ts)) (suc n) (front_from forms ts n) (ap (λ (k : ℕ). can_begin forms (take k ts)) (sym same) ∙ met (omega arith)) ∙ sym same
front_is forms ts (suc low) zero zero e met none = absurd (omega (arith, e))
front_is forms ts low (suc d) zero e met none = absurd (omega (arith, e))
front_is forms ts low (suc d) (suc n) e met none =
    if_false (can_begin forms (take (suc n) ts)) (suc n) (front_from forms ts n) (none (suc n) (omega (arith, e)) (omega arith))
    ∙ front_is forms ts low d n (omega (arith, e)) met (λ more k m. none more k (omega arith))

-- a list of Rust's bytes, as bytes
pub mapped : (f : List ℕ → Form) (l : List (Bor (List ℕ))) → map (λ prefix. f prefix.now) l ≡ map f (map (λ prefix. prefix.now) l)
mapped f [] = refl
mapped f (x ∷ l) = ap (λ r. f x.now ∷ r) (mapped f l)

pub star_is : token_at (codes "*") ≡ star
unfolding token_at
star_is = refl

pub starred : (front pushed l : List (Bor (List ℕ))) (t : Bor (List ℕ)) → l ≡ pushed ++ t ∷ [] → pushed ≡ front → token_at t.now ≡ star → views l ≡ views front ++ star ∷ []
starred front pushed l t e p s =
    ap views e ∙ views_pushed pushed t ∙ ap (λ (x : Token). views pushed ++ x ∷ []) s ∙ ap (λ (x : List (Bor (List ℕ))). views x ++ star ∷ []) p

long_take : (l : List (Bor (List ℕ))) (n : ℕ) → length l ≤ n → take n l ≡ l
long_take [] zero h = refl
long_take [] (suc n) h = refl
long_take (x ∷ l) zero h = absurd (omega arith)
long_take (x ∷ l) (suc n) h = ap (λ r. x ∷ r) (long_take l n (omega arith))

-- the lesser of a number and all
lesser_take : (l : List (Bor (List ℕ))) (m n : ℕ) → m ≡ min n (length l) → (e : Bool) → nat_le n (length l) ≡ e → take m l ≡ take n l
lesser_take l m n k true e = let h : n ≤ length l = leb-true n (length l) e in ap (λ (i : ℕ). take i l) (omega (arith, k, h))
lesser_take l m n k false e =
    let h : length l < n = leb-false n (length l) e in
    ap (λ (i : ℕ). take i l) (omega (arith, k, h)) ∙ long_take l (length l) (omega arith) ∙ sym (long_take l n (omega arith))

not_false : (b : Bool) (a : Bool) → b ≡ true → a ≡ (if b then a else false)
not_false true a e = refl
not_false false a e = cc

pub unknown_told : (forms : List Form) (pattern : List ℕ) (texts : List (Bor (List ℕ))) (size m : ℕ) (begins : Bool) → size ≡ prefix_size pattern → (size ≡ 0 → ⊥) → m ≡ min size (length texts) → views texts ≡ tokens pattern
    → begins ≡ can_begin forms (views (take m texts)) → not begins ≡ is_unknown forms pattern
unknown_told forms pattern texts size m begins e n k v b =
    let some : nat_lt 0 (prefix_size pattern) ≡ true = ap (nat_lt 0) (sym e) ∙ lt-ltb 0 size (omega (arith, n)) in
    let front : views (take m texts) ≡ take (prefix_size pattern) (tokens pattern) =
    ap views (lesser_take texts m size k (nat_le size (length texts)) refl) ∙ views_take texts size ∙ ap (take size) v ∙ ap (λ (i : ℕ). take i (tokens pattern)) e in
    ap not (b ∙ ap (can_begin forms) front) ∙ not_false (nat_lt 0 (prefix_size pattern)) (not (can_begin forms (take (prefix_size pattern) (tokens pattern)))) some

-- what is said of a pattern that matches, and of one that doesn't
pub is_fine : (forms : List Form) (ts : List Token) (met : Bool) → met ≡ can_match forms ts → met ≡ true → (Fine ≡ Fine) ↔ CanMatch forms ts
is_fine forms ts met e t = (λ same. (forms_tested forms ts).0 (sym e ∙ t), λ m. refl)

pub fine_told : (forms : List Form) (pattern : List ℕ) → can_match forms (tokens pattern) ≡ true → Fine ≡ judged forms pattern
fine_told forms pattern e = by (can_match forms (tokens pattern)) _ e
  where
    by : (b : Bool) (other : Judgement) → b ≡ true → Fine ≡ (if b then Fine else other)
    by true other e = refl
    by false other e = cc

pub not_fine : (forms : List Form) (told : Judgement) (ts : List Token) (met : Bool) → (told ≡ Fine → ⊥) → met ≡ can_match forms ts → met ≡ false → (told ≡ Fine) ↔ CanMatch forms ts
not_fine forms told ts met n e f =
    (λ same. absurd (n same), λ m. let shown : can_match forms ts ≡ true = (forms_tested forms ts).1 m in let no : can_match forms ts ≡ false = sym e ∙ f in cc)

-- the front that is found is one, and no longer one is
picked : (b : Bool) (x y : ℕ) → (b ≡ true → (if b then x else y) ≡ x) × (b ≡ false → (if b then x else y) ≡ y)
picked true x y = (λ e. refl, λ e. cc)
picked false x y = (λ e. cc, λ e. refl)

by_both : (A : Type 0) (b : Bool) → (b ≡ true → A) → (b ≡ false → A) → A
by_both A true f g = f refl
by_both A false f g = g refl

found_met : (forms : List Form) (ts : List Token) (n : ℕ) → 0 < front_from forms ts n → can_begin forms (take (front_from forms ts n) ts) ≡ true
unfolding front_from
found_met forms ts zero h = absurd (omega arith)
found_met forms ts (suc n) h =
    let b : Bool = can_begin forms (take (suc n) ts) in
    by_both _ b
    (λ e. ap (λ (i : ℕ). can_begin forms (take i ts)) ((picked b (suc n) (front_from forms ts n)).0 e) ∙ e)
    (λ e. let same : front_from forms ts (suc n) ≡ front_from forms ts n = (picked b (suc n) (front_from forms ts n)).1 e in
    ap (λ (i : ℕ). can_begin forms (take i ts)) same ∙ found_met forms ts n (subst (λ (i : ℕ). 0 < i) same h))

found_longest : (forms : List Form) (ts : List Token) (n m : ℕ) → m ≤ n → can_begin forms (take m ts) ≡ true → m ≤ front_from forms ts n
unfolding front_from
found_longest forms ts zero m h t = omega arith
found_longest forms ts (suc n) m h t =
    let b : Bool = can_begin forms (take (suc n) ts) in
    by_both _ b
    (λ e. subst (λ (i : ℕ). m ≤ i) (sym ((picked b (suc n) (front_from forms ts n)).0 e)) h)
    (λ e. let differs : m ≡ suc n → ⊥ = λ same. let now : can_begin forms (take (suc n) ts) ≡ true = ap (λ (i : ℕ). can_begin forms (take i ts)) (sym same) ∙ t in cc in
    subst (λ (i : ℕ). m ≤ i) (sym ((picked b (suc n) (front_from forms ts n)).1 e)) (found_longest forms ts n m (omega (arith, differs)) t))

pub longest : FrontsAreLongest
longest forms ts = (
  λ h. (fronts_tested forms (take (front_from forms ts (length ts)) ts)).0 (found_met forms ts (length ts) h),
  λ n h m. found_longest forms ts (length ts) n h ((fronts_tested forms (take n ts)).1 m),
)

-- a pattern of which nothing is said by fewer texts
fine_matched : (forms : List Form) (pattern : List ℕ) → Fine ≡ judged forms pattern → can_match forms (tokens pattern) ≡ true
fine_matched forms pattern e = by (can_match forms (tokens pattern)) (is_unknown forms pattern) _ e
  where
    by : (b u : Bool) (n : ℕ) → Fine ≡ (if b then Fine else (if u then UnknownPrefix else Dead n)) → b ≡ true
    by true u n e = refl
    by false true n e = cc
    by false false n e = cc

pub fine_both : (fewer all : List Form) → ((text : List ℕ) → HasOneOf fewer text → HasOneOf all text) → (pattern : List ℕ) → Fine ≡ judged fewer pattern → Fine ≡ judged all pattern
fine_both fewer all sub pattern e =
    let m : CanMatch fewer (tokens pattern) = (forms_tested fewer (tokens pattern)).0 (fine_matched fewer pattern e) in
    fine_told all pattern ((forms_tested all (tokens pattern)).1 (m.0, sub m.0 m.1, m.2))
