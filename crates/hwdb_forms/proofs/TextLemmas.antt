-- Rows of texts, as they are made from their ends, and the bytes that tokens take.
use Rattle.std.proofs.Common.{◌≡◌, ◌∙◌, ap, sym, refl, subst, ℕ, ◌+◌, ◌-◌, ◌<◌, ◌≤◌, add-one, Bool, true, false, cond, IsTrue, List, [], ◌∷◌, ◌++◌, Bor, drop, length, map, get_or, nat_eq, Option, Some, None, Vec, arith, eqb-true, suc, zero, inl, inr}
use Rattle.std.proofs.Math.ListN.{replicate, set}
use Rattle.std.proofs.lemmas.List.{drop_all, drop_more, drop-set, get_or-set_other, get_or-map, length-map, set-set}
use Rattle.std.specs.Prelude.{find, if◌then◌else◌}
use Rattle.std.specs.declared.alloc.Global.{Global}
use Rattle.hwdb_spec.specs.Forms.{Form, Piece, all_bytes_from, candidates, is_in, is_star}
use Rattle.hwdb_spec.specs.Patterns.{Token, admits_byte, literal, star, token_at}
use Rattle.hwdb_spec.specs.declared.ByteSet.{ByteSet}
use Rattle.hwdb_spec.specs.declared.ByteSet.TheVariants.{Only}
use Rattle.hwdb_spec_commands.specs.FormTexts as spec
use Rattle.hwdb_spec_commands.specs.FormTexts.{Text, byte_cell, byte_for, first, many_cell, others, shorter, takes}
use Rattle.hwdb_spec_commands.specs.SampleTexts.{usual}
use Rattle.hwdb_forms.specs.Internal.{views}
use Rattle.hwdb_forms.specs.TextViews.{row_view, text_view}
use Rattle.hwdb_forms.proofs.MeetLemmas.{both_first, both_second, candidate, is_among, or_cases, or_second, own_in, own_span}

-- ---- the first byte that passes

found_at : (p : ℕ → Bool) (xs : List ℕ) (i : ℕ) → i < length xs → find p (drop i xs) ≡ cond (p (get_or xs i 0)) (Some (get_or xs i 0)) (find p (drop (i + 1) xs))
found_at p xs i h = ap (find p) (drop_more xs i 0 h)

pub find_here : (p : ℕ → Bool) (xs : List ℕ) (i : ℕ) → i < length xs → p (get_or xs i 0) ≡ true → find p (drop i xs) ≡ find p xs → Some (get_or xs i 0) ≡ find p xs
find_here p xs i h t so_far = ap (λ (b : Bool). cond b (Some (get_or xs i 0)) (find p (drop (i + 1) xs))) (sym t) ∙ sym (found_at p xs i h) ∙ so_far

pub find_next : (p : ℕ → Bool) (xs : List ℕ) (i : ℕ) → i < length xs → p (get_or xs i 0) ≡ false → find p (drop i xs) ≡ find p xs → find p (drop (i + 1) xs) ≡ find p xs
find_next p xs i h f so_far = ap (λ (b : Bool). cond b (Some (get_or xs i 0)) (find p (drop (i + 1) xs))) (sym f) ∙ sym (found_at p xs i h) ∙ so_far

pub find_none : (p : ℕ → Bool) (xs : List ℕ) (i : ℕ) → length xs ≤ i → find p (drop i xs) ≡ find p xs → None ≡ find p xs
find_none p xs i h so_far = ap (find p) (sym (drop_all i xs h)) ∙ so_far

-- among all bytes
next_bytes : (p : ℕ → Bool) (n b k : ℕ) → n ≡ suc k → find p (all_bytes_from n b) ≡ cond (p b) (Some b) (find p (all_bytes_from k (suc b)))
unfolding all_bytes_from
next_bytes p n b k e = rw e refl

pub all_here : (p : ℕ → Bool) (n b : ℕ) (whole : Option ℕ) → p b ≡ true → 0 < n → find p (all_bytes_from n b) ≡ whole → Some b ≡ whole
all_here p n b whole t h k =
    ap (λ (c : Bool). cond c (Some b) (find p (all_bytes_from (n - 1) (suc b)))) (sym t) ∙ sym (next_bytes p n b (n - 1) (omega arith)) ∙ k

pub all_next : (p : ℕ → Bool) (n k b c : ℕ) (whole : Option ℕ) → p b ≡ false → n ≡ suc k → c ≡ suc b → find p (all_bytes_from n b) ≡ whole → find p (all_bytes_from k c) ≡ whole
all_next p n k b c whole f l m h =
    ap (λ (x : ℕ). find p (all_bytes_from k x)) m ∙ ap (λ (d : Bool). cond d (Some b) (find p (all_bytes_from k (suc b)))) (sym f) ∙ sym (next_bytes p n b k l) ∙ h

pub all_last : (p : ℕ → Bool) (n b : ℕ) (found whole : Option ℕ) → found ≡ find p (b ∷ []) → n ≡ 1 → find p (all_bytes_from n b) ≡ whole → found ≡ whole
unfolding all_bytes_from
all_last p n b found whole e l h = e ∙ sym (ap (λ (i : ℕ). find p (all_bytes_from i b)) l) ∙ h

-- the first of two lists
pub found_head : (p : ℕ → Bool) (x : ℕ) (xs : List ℕ) (c : Bool) → p x ≡ c → find p (x ∷ xs) ≡ cond c (Some x) (find p xs)
found_head p x xs c e = ap (λ (d : Bool). cond d (Some x) (find p xs)) e

pub find_both : (p : ℕ → Bool) (xs ys : List ℕ) → find p xs ≡ None → find p (xs ++ ys) ≡ find p ys
find_both p [] ys e = refl
find_both p (x ∷ xs) ys e = passed (p x) refl (λ h. find_both p xs ys h)
  where
    passed : (b : Bool) → p x ≡ b → (find p xs ≡ None → find p (xs ++ ys) ≡ find p ys) → find p ((x ∷ xs) ++ ys) ≡ find p ys
    passed true k more = absurd (let clash : Some x ≡ None = sym (found_head p x xs true k) ∙ e in cc)
    passed false k more = found_head p x (xs ++ ys) false k ∙ more (sym (found_head p x xs false k) ∙ e)

pub find_first : (p : ℕ → Bool) (xs ys : List ℕ) (b : ℕ) → find p xs ≡ Some b → find p (xs ++ ys) ≡ Some b
find_first p [] ys b e = cc
find_first p (x ∷ xs) ys b e = passed (p x) refl (λ h. find_first p xs ys b h)
  where
    passed : (c : Bool) → p x ≡ c → (find p xs ≡ Some b → find p (xs ++ ys) ≡ Some b) → find p ((x ∷ xs) ++ ys) ≡ Some b
    passed true k more = found_head p x (xs ++ ys) true k ∙ sym (found_head p x xs true k) ∙ e
    passed false k more = found_head p x (xs ++ ys) false k ∙ more (sym (found_head p x xs false k) ∙ e)

-- one byte alone may pass: it is found, if it does
find_nothing : (p : ℕ → Bool) (xs : List ℕ) → ((b : ℕ) → IsTrue (p b) → ⊥) → find p xs ≡ None
find_nothing p [] h = refl
find_nothing p (x ∷ xs) h = passed (p x) refl (find_nothing p xs h)
  where
    passed : (c : Bool) → p x ≡ c → find p xs ≡ None → find p (x ∷ xs) ≡ None
    passed true k more = absurd (h x k)
    passed false k more = found_head p x xs false k ∙ more

other_one : (p : ℕ → Bool) (x own : ℕ) → p x ≡ false → IsTrue (p own) → own ≡ x → ⊥
other_one p x own k t same = let clash : false ≡ true = sym k ∙ subst (λ (y : ℕ). IsTrue (p y)) same t in cc

later_one : (p : ℕ → Bool) (x own : ℕ) (xs : List ℕ) → p x ≡ false → IsTrue (p own) → IsTrue (is_among (x ∷ xs) own) → IsTrue (is_among xs own)
later_one p x own xs k t i = elim (or_cases (nat_eq own x) (is_among xs own) i) [
  | inl here ↦ absurd (other_one p x own k t (eqb-true own x here))
  | inr there ↦ there
]

find_alone : (p : ℕ → Bool) (xs : List ℕ) (own : ℕ) → ((b : ℕ) → IsTrue (p b) → b ≡ own) → IsTrue (p own) → IsTrue (is_among xs own) → find p xs ≡ Some own
find_alone p [] own only t i = cc
find_alone p (x ∷ xs) own only t i = passed (p x) refl (λ j. find_alone p xs own only t j)
  where
    passed : (c : Bool) → p x ≡ c → (IsTrue (is_among xs own) → find p xs ≡ Some own) → find p (x ∷ xs) ≡ Some own
    passed true k more = found_head p x xs true k ∙ ap Some (only x k)
    passed false k more = found_head p x xs false k ∙ more (later_one p x own xs k t i)

pub among_more : (xs ys : List ℕ) (b : ℕ) → IsTrue (is_among ys b) → IsTrue (is_among (xs ++ ys) b)
among_more [] ys b h = h
among_more (x ∷ xs) ys b h = or_second (nat_eq b x) (is_among (xs ++ ys) b) (among_more xs ys b h)

find_of_one : (p : ℕ → Bool) (xs : List ℕ) (own : ℕ) → ((b : ℕ) → IsTrue (p b) → b ≡ own) → (IsTrue (p own) → IsTrue (is_among xs own)) → find p (own ∷ []) ≡ find p xs
find_of_one p xs own only i = passed (p own) refl
  where
    passed : (c : Bool) → p own ≡ c → find p (own ∷ []) ≡ find p xs
    passed true k = ap (λ (c : Bool). cond c (Some own) None) k ∙ sym (find_alone p xs own only k (i k))
    passed false k = ap (λ (c : Bool). cond c (Some own) None) k ∙ sym (find_nothing p xs (λ b t. let same : b ≡ own = only b t in let clash : false ≡ true = sym k ∙ subst (λ (y : ℕ). IsTrue (p y)) same t in cc))

-- what is found passes, and if nothing is found nothing passes
pub find_some : (p : ℕ → Bool) (xs : List ℕ) (b : ℕ) → find p xs ≡ Some b → IsTrue (p b)
find_some p [] b e = cc
find_some p (x ∷ xs) b e = passed (p x) refl (λ h. find_some p xs b h)
  where
    passed : (c : Bool) → p x ≡ c → (find p xs ≡ Some b → IsTrue (p b)) → IsTrue (p b)
    passed true k more = let same : Some x ≡ Some b = sym (found_head p x xs true k) ∙ e in let own : x ≡ b = cc in subst (λ (y : ℕ). IsTrue (p y)) own k
    passed false k more = more (sym (found_head p x xs false k) ∙ e)

pub find_nowhere : (p : ℕ → Bool) (xs : List ℕ) (b : ℕ) → find p xs ≡ None → IsTrue (is_among xs b) → IsTrue (p b) → ⊥
find_nowhere p [] b e i t = cc
find_nowhere p (x ∷ xs) b e i t = passed (p x) refl (λ h j. find_nowhere p xs b h j t)
  where
    passed : (c : Bool) → p x ≡ c → (find p xs ≡ None → IsTrue (is_among xs b) → ⊥) → ⊥
    passed true k more = let clash : Some x ≡ None = sym (found_head p x xs true k) ∙ e in cc
    passed false k more = more (sym (found_head p x xs false k) ∙ e) (later_one p x b xs k t i)

taken_in : (t : Token) (set : ByteSet) (b : ℕ) → IsTrue (takes t set b) → IsTrue (is_in set b)
taken_in t set b h = both_first (is_in set b) (if is_star t then true else admits_byte t b) h

-- a byte of a set is looked for
pub byte_searched : (t : Token) (set : ByteSet) (found : Option ℕ) → find (takes t set) usual ≡ None → found ≡ find (takes t set) (candidates set) → found ≡ byte_for t set
byte_searched t set found e k = k ∙ sym (find_both (takes t set) usual (candidates set) e)

pub byte_usual : (t : Token) (set : ByteSet) (b : ℕ) → find (takes t set) usual ≡ Some b → Some b ≡ byte_for t set
byte_usual t set b e = sym (find_first (takes t set) usual (candidates set) b e)

pub byte_of_one : (t : Token) (own : ℕ) → find (takes t (Only own)) (own ∷ []) ≡ byte_for t (Only own)
byte_of_one t own =
    find_of_one (takes t (Only own)) (usual ++ candidates (Only own)) own (λ b h. own_span b own (taken_in t (Only own) b h))
    (λ h. among_more usual (candidates (Only own)) own (candidate (Only own) own (own_in own)))

pub byte_of_literal : (t : Token) (set : ByteSet) (own : ℕ) → t ≡ literal own → find (takes t set) (own ∷ []) ≡ byte_for t set
byte_of_literal t set own e = subst (λ (x : Token). find (takes x set) (own ∷ []) ≡ byte_for x set) (sym e) (find_of_one (takes (literal own) set) (usual ++ candidates set) own
    (λ b h. eqb-true b own (both_second (is_in set b) (nat_eq b own) h))
    (λ h. among_more usual (candidates set) own (candidate set own (taken_in (literal own) set own h))))

-- ---- rows
pub first_drop : (row : List Text) (m : ℕ) → first (drop m row) ≡ get_or row m None
first_drop [] zero = refl
first_drop [] (suc m) = refl
first_drop (text ∷ row) zero = refl
first_drop (text ∷ row) (suc m) = first_drop row m

pub others_drop : (row : List Text) (m : ℕ) → others (drop m row) ≡ drop (m + 1) row
others_drop row m = raw row m ∙ ap (λ (k : ℕ). drop k row) (sym (add-one m))
  where
    raw : (row : List Text) (m : ℕ) → others (drop m row) ≡ drop (suc m) row
    raw [] zero = refl
    raw [] (suc m) = refl
    raw (text ∷ row) zero = refl
    raw (text ∷ row) (suc m) = raw row m

pub view_long : (row : List (Option (Vec ℕ Global))) → length (row_view row) ≡ length row
view_long row = length-map row text_view

pub views_more : (texts : List (Bor (List ℕ))) (m : ℕ) → m < length texts → (d : Bor (List ℕ)) → drop m (views texts) ≡ token_at (get_or texts m d).now ∷ drop (m + 1) (views texts)
views_more texts m h d =
    drop_more (views texts) m star (subst (λ (k : ℕ). m < k) (sym (length-map texts (λ text. token_at text.now))) h)
    ∙ ap (λ (t : Token). t ∷ drop (m + 1) (views texts)) (get_or-map (λ text. token_at text.now) texts m d star h)

-- a row at a place, by its cell and what was there
pub set_there : (row old new : List Text) (m : ℕ) (x : Text) → m < length row → new ≡ set row m x → drop m new ≡ x ∷ drop (m + 1) row
set_there row old new m x h e = ap (drop m) e ∙ drop-set row m x h

-- the cells before a place stay
abbrev pub Kept : List Text → List Text → ℕ → Type 0
Kept row old n = (k : ℕ) → k < n → get_or row k None ≡ get_or old k None

pub kept_set : (row old new : List Text) (m n : ℕ) (x : Text) → n ≡ m + 1 → new ≡ set row m x → Kept row old n → Kept new old m
kept_set row old new m n x e s h = λ k l.
    ap (λ r. get_or r k None) s ∙ get_or-set_other row m k x None (λ (same : k ≡ m). absurd (omega (arith, l, same))) ∙ h k (omega (arith, l, e))

pub ended : (f : List Token → List Text → List Text) (row old : List Text) (ts : List Token) (n : ℕ) → n ≡ 0 → drop n row ≡ f (drop n ts) (drop n old) → row ≡ f ts old
ended f row old ts n e h = subst (λ (k : ℕ). drop k row ≡ f (drop k ts) (drop k old)) e h

-- one byte of a set
pub byte_begun : (bytes : ByteSet) (ts : List Token) (old new : List Text) (n : ℕ) → length ts ≡ n → length old ≡ suc n → new ≡ set old n None → drop n new ≡ spec.byte_texts bytes (drop n ts) (drop n old)
unfolding spec.byte_texts
byte_begun bytes ts old new n e l s =
    set_there old old new n None (omega (arith, l)) s ∙ ap (λ (r : List Text). None ∷ r) (drop_all (n + 1) old (omega (arith, l)))
    ∙ ap (λ (us : List Token). spec.byte_texts bytes us (drop n old)) (sym (drop_all n ts (omega (arith, e))))

pub byte_next : (bytes : ByteSet) (t : Token) (ts : List Token) (row old new : List Text) (m n : ℕ) (after : Text) → drop m ts ≡ t ∷ drop (m + 1) ts → n ≡ m + 1 → n < length row → Kept row old n
    → after ≡ get_or old n None → new ≡ set row m (byte_cell (is_star t) (byte_for t bytes) (get_or row m None) after (get_or row (m + 1) None))
    → drop n row ≡ spec.byte_texts bytes (drop n ts) (drop n old) → drop m new ≡ spec.byte_texts bytes (drop m ts) (drop m old)
unfolding spec.byte_texts
byte_next bytes t ts row old new m n after u e l kept a s h =
    let here : get_or row m None ≡ first (drop m old) = kept m (omega (arith, e)) ∙ sym (first_drop old m) in
    let rest : drop (m + 1) row ≡ spec.byte_texts bytes (drop (m + 1) ts) (others (drop m old)) =
    subst (λ (k : ℕ). drop k row ≡ spec.byte_texts bytes (drop k ts) (drop k old)) e h ∙ ap (spec.byte_texts bytes (drop (m + 1) ts)) (sym (others_drop old m)) in
    let behind : after ≡ first (others (drop m old)) = a ∙ ap (λ (k : ℕ). get_or old k None) e ∙ sym (first_drop old (m + 1)) ∙ ap first (sym (others_drop old m)) in
    let next : get_or row (m + 1) None ≡ first (spec.byte_texts bytes (drop (m + 1) ts) (others (drop m old))) = sym (first_drop row (m + 1)) ∙ ap first rest in
    set_there row old new m _ (omega (arith, e, l)) s
    ∙ ap (λ (x : Text). byte_cell (is_star t) (byte_for t bytes) x after (get_or row (m + 1) None) ∷ drop (m + 1) row) here
    ∙ ap (λ (x : Text). byte_cell (is_star t) (byte_for t bytes) (first (drop m old)) x (get_or row (m + 1) None) ∷ drop (m + 1) row) behind
    ∙ ap (λ (x : Text). byte_cell (is_star t) (byte_for t bytes) (first (drop m old)) (first (others (drop m old))) x ∷ drop (m + 1) row) next
    ∙ ap (λ (r : List Text). byte_cell (is_star t) (byte_for t bytes) (first (drop m old)) (first (others (drop m old))) (first (spec.byte_texts bytes (drop (m + 1) ts) (others (drop m old)))) ∷ r) rest
    ∙ ap (λ (us : List Token). spec.byte_texts bytes us (drop m old)) (sym u)

-- any number of bytes
pub many_begun : (bytes : ByteSet) (ts : List Token) (old : List Text) (n : ℕ) → length ts ≡ n → length old ≡ suc n → drop n old ≡ spec.many_texts bytes (drop n ts) (drop n old)
unfolding spec.many_texts
many_begun bytes ts old n e l =
    drop_more old n None (omega (arith, l)) ∙ ap (λ (r : List Text). get_or old n None ∷ r) (drop_all (n + 1) old (omega (arith, l)))
    ∙ ap (λ (x : Text). x ∷ []) (sym (first_drop old n)) ∙ ap (λ (us : List Token). spec.many_texts bytes us (drop n old)) (sym (drop_all n ts (omega (arith, e))))

pub many_next : (bytes : ByteSet) (t : Token) (ts : List Token) (row old new : List Text) (m n : ℕ) → drop m ts ≡ t ∷ drop (m + 1) ts → n ≡ m + 1 → n < length row → Kept row old n
    → new ≡ set row m (many_cell (is_star t) (byte_for t bytes) (get_or row m None) (get_or row (m + 1) None))
    → drop n row ≡ spec.many_texts bytes (drop n ts) (drop n old) → drop m new ≡ spec.many_texts bytes (drop m ts) (drop m old)
unfolding spec.many_texts
many_next bytes t ts row old new m n u e l kept s h =
    let here : get_or row m None ≡ first (drop m old) = kept m (omega (arith, e)) ∙ sym (first_drop old m) in
    let rest : drop (m + 1) row ≡ spec.many_texts bytes (drop (m + 1) ts) (others (drop m old)) =
    subst (λ (k : ℕ). drop k row ≡ spec.many_texts bytes (drop k ts) (drop k old)) e h ∙ ap (spec.many_texts bytes (drop (m + 1) ts)) (sym (others_drop old m)) in
    let next : get_or row (m + 1) None ≡ first (spec.many_texts bytes (drop (m + 1) ts) (others (drop m old))) = sym (first_drop row (m + 1)) ∙ ap first rest in
    set_there row old new m _ (omega (arith, e, l)) s
    ∙ ap (λ (x : Text). many_cell (is_star t) (byte_for t bytes) x (get_or row (m + 1) None) ∷ drop (m + 1) row) here
    ∙ ap (λ (x : Text). many_cell (is_star t) (byte_for t bytes) (first (drop m old)) x ∷ drop (m + 1) row) next
    ∙ ap (λ (r : List Text). many_cell (is_star t) (byte_for t bytes) (first (drop m old)) (first (spec.many_texts bytes (drop (m + 1) ts) (others (drop m old)))) ∷ r) rest
    ∙ ap (λ (us : List Token). spec.many_texts bytes us (drop m old)) (sym u)

-- one thing or another
pub either_begun : (ts : List Token) (old other new : List Text) (n : ℕ) → length ts ≡ n → length old ≡ suc n → new ≡ set old n (shorter (get_or old n None) (get_or other n None))
    → drop n new ≡ spec.either_texts (drop n ts) (drop n old) (drop n other)
unfolding spec.either_texts
either_begun ts old other new n e l s =
    set_there old old new n _ (omega (arith, l)) s
    ∙ ap (λ (r : List Text). shorter (get_or old n None) (get_or other n None) ∷ r) (drop_all (n + 1) old (omega (arith, l)))
    ∙ ap (λ (x : Text). shorter x (get_or other n None) ∷ []) (sym (first_drop old n))
    ∙ ap (λ (x : Text). shorter (first (drop n old)) x ∷ []) (sym (first_drop other n))
    ∙ ap (λ (us : List Token). spec.either_texts us (drop n old) (drop n other)) (sym (drop_all n ts (omega (arith, e))))

pub either_next : (t : Token) (ts : List Token) (row left old other new : List Text) (m n : ℕ) → drop m ts ≡ t ∷ drop (m + 1) ts → n ≡ m + 1 → n < length row → Kept row old n → Kept left other n
    → new ≡ set row m (shorter (get_or row m None) (get_or left m None))
    → drop n row ≡ spec.either_texts (drop n ts) (drop n old) (drop n other) → drop m new ≡ spec.either_texts (drop m ts) (drop m old) (drop m other)
unfolding spec.either_texts
either_next t ts row left old other new m n u e l kept same s h =
    let here : get_or row m None ≡ first (drop m old) = kept m (omega (arith, e)) ∙ sym (first_drop old m) in
    let there : get_or left m None ≡ first (drop m other) = same m (omega (arith, e)) ∙ sym (first_drop other m) in
    let rest : drop (m + 1) row ≡ spec.either_texts (drop (m + 1) ts) (others (drop m old)) (others (drop m other)) =
    subst (λ (k : ℕ). drop k row ≡ spec.either_texts (drop k ts) (drop k old) (drop k other)) e h
    ∙ ap (λ (r : List Text). spec.either_texts (drop (m + 1) ts) r (drop (m + 1) other)) (sym (others_drop old m))
    ∙ ap (λ (r : List Text). spec.either_texts (drop (m + 1) ts) (others (drop m old)) r) (sym (others_drop other m)) in
    set_there row old new m _ (omega (arith, e, l)) s
    ∙ ap (λ (x : Text). shorter x (get_or left m None) ∷ drop (m + 1) row) here
    ∙ ap (λ (x : Text). shorter (first (drop m old)) x ∷ drop (m + 1) row) there
    ∙ ap (λ (r : List Text). shorter (first (drop m old)) (first (drop m other)) ∷ r) rest
    ∙ ap (λ (us : List Token). spec.either_texts us (drop m old) (drop m other)) (sym u)

-- nothing, and the end
pub none_made : (ts : List Token) → replicate (suc (length ts)) None ≡ spec.no_texts ts
unfolding spec.no_texts
none_made [] = refl
none_made (t ∷ ts) = ap (λ (r : List Text). None ∷ r) (none_made ts)

pub end_begun : (ts : List Token) (row new : List Text) (n : ℕ) → length ts ≡ n → length row ≡ suc n → new ≡ set row n (Some []) → drop n new ≡ spec.end_texts (drop n ts)
unfolding spec.end_texts
end_begun ts row new n e l s =
    set_there row row new n _ (omega (arith, l)) s ∙ ap (λ (r : List Text). Some [] ∷ r) (drop_all (n + 1) row (omega (arith, l)))
    ∙ ap spec.end_texts (sym (drop_all n ts (omega (arith, e))))

pub end_next : (t : Token) (ts : List Token) (row new : List Text) (m n : ℕ) → drop m ts ≡ t ∷ drop (m + 1) ts → n ≡ m + 1 → n < length row
    → new ≡ set row m (if is_star t then get_or row (m + 1) None else None)
    → drop n row ≡ spec.end_texts (drop n ts) → drop m new ≡ spec.end_texts (drop m ts)
unfolding spec.end_texts
end_next t ts row new m n u e l s h =
    let rest : drop (m + 1) row ≡ spec.end_texts (drop (m + 1) ts) = subst (λ (k : ℕ). drop k row ≡ spec.end_texts (drop k ts)) e h in
    let next : get_or row (m + 1) None ≡ first (spec.end_texts (drop (m + 1) ts)) = sym (first_drop row (m + 1)) ∙ ap first rest in
    set_there row row new m _ (omega (arith, e, l)) s
    ∙ ap (λ (x : Text). (if is_star t then x else None) ∷ drop (m + 1) row) next
    ∙ ap (λ (r : List Text). (if is_star t then first (spec.end_texts (drop (m + 1) ts)) else None) ∷ r) rest
    ∙ ap spec.end_texts (sym u)

-- a cell that is put in place of another one
pub view_there : (row : List (Option (Vec ℕ Global))) (m : ℕ) (d : Option (Vec ℕ Global)) → m < length row → text_view (get_or row m d) ≡ get_or (row_view row) m None
view_there row m d h = sym (get_or-map text_view row m d None h)

pub cell_put : (old mid new : List Text) (m : ℕ) (cell : Text → Text → Text) (here next x : Text) → mid ≡ set old m None → new ≡ set mid m x → x ≡ cell here next → here ≡ get_or old m None → next ≡ get_or mid (m + 1) None
    → new ≡ set old m (cell (get_or old m None) (get_or old (m + 1) None))
cell_put old mid new m cell here next x a b e h n =
    let later : next ≡ get_or old (m + 1) None = n ∙ ap (λ (r : List Text). get_or r (m + 1) None) a ∙ get_or-set_other old m (m + 1) None None (λ same. absurd (omega (arith, same))) in
    b ∙ ap (λ (r : List Text). set r m x) a ∙ set-set old m None x ∙ ap (set old m) (e ∙ ap (λ (y : Text). cell y next) h ∙ ap (cell (get_or old m None)) later)

pub either_put : (old other mid new : List Text) (m : ℕ) (left two x : Text) → mid ≡ set old m None → new ≡ set mid m x → x ≡ shorter left two → left ≡ get_or old m None → two ≡ get_or other m None
    → new ≡ set old m (shorter (get_or old m None) (get_or other m None))
either_put old other mid new m left two x a b e h k =
    b ∙ ap (λ (r : List Text). set r m x) a ∙ set-set old m None x ∙ ap (set old m) (e ∙ ap (λ (y : Text). shorter y two) h ∙ ap (shorter (get_or old m None)) k)

pub kept_begun : (old new : List Text) (n : ℕ) (x : Text) → new ≡ set old n x → Kept new old n
kept_begun old new n x s = λ k l. ap (λ (r : List Text). get_or r k None) s ∙ get_or-set_other old n k x None (λ same. absurd (omega (arith, l, same)))

pub either_whole : (row old other : List Text) (ts : List Token) (n : ℕ) → n ≡ 0 → drop n row ≡ spec.either_texts (drop n ts) (drop n old) (drop n other) → row ≡ spec.either_texts ts old other
either_whole row old other ts n e h = subst (λ (k : ℕ). drop k row ≡ spec.either_texts (drop k ts) (drop k old) (drop k other)) e h

pub end_whole : (row : List Text) (ts : List Token) (n : ℕ) → n ≡ 0 → drop n row ≡ spec.end_texts (drop n ts) → row ≡ spec.end_texts ts
end_whole row ts n e h = subst (λ (k : ℕ). drop k row ≡ spec.end_texts (drop k ts)) e h

pub some_put : (row new : List Text) (n : ℕ) (made : List ℕ) → made ≡ [] → new ≡ set row n (Some made) → new ≡ set row n (Some [])
some_put row new n made e h = h ∙ ap (λ (x : List ℕ). set row n (Some x)) e

pub none_all : (ts : List Token) (n : ℕ) → n ≡ length ts → replicate (suc n) None ≡ spec.no_texts ts
none_all ts n e = ap (λ (k : ℕ). replicate (suc k) None) e ∙ none_made ts

-- ---- the rows of a form's parts, from the last one to the first
pub fixed_begun : (bytes : List ℕ) (ts : List Token) (row : List Text) → row ≡ spec.fixed_texts (drop (length bytes) bytes) ts row
unfolding spec.fixed_texts
fixed_begun bytes ts row = ap (λ (l : List ℕ). spec.fixed_texts l ts row) (sym (drop_all (length bytes) bytes (omega arith)))

pub fixed_next : (bytes : List ℕ) (ts : List Token) (row before new : List Text) (m n d : ℕ) → m < length bytes → n ≡ m + 1 → new ≡ spec.byte_texts (Only (get_or bytes m d)) ts before
    → before ≡ spec.fixed_texts (drop n bytes) ts row → new ≡ spec.fixed_texts (drop m bytes) ts row
unfolding spec.fixed_texts
fixed_next bytes ts row before new m n d h e s b =
    s ∙ ap (spec.byte_texts (Only (get_or bytes m d)) ts) (b ∙ ap (λ (k : ℕ). spec.fixed_texts (drop k bytes) ts row) e)
    ∙ ap (λ (l : List ℕ). spec.fixed_texts l ts row) (sym (drop_more bytes m d h))

pub counted_begun : (bytes : ByteSet) (ts : List Token) (row : List Text) → row ≡ spec.counted_texts bytes 0 ts row
unfolding spec.counted_texts
counted_begun bytes ts row = refl

pub counted_next : (bytes : ByteSet) (ts : List Token) (row before new : List Text) (m n : ℕ) → n ≡ suc m → new ≡ spec.byte_texts bytes ts before → before ≡ spec.counted_texts bytes m ts row
    → new ≡ spec.counted_texts bytes n ts row
unfolding spec.counted_texts
counted_next bytes ts row before new m n e s b = s ∙ ap (spec.byte_texts bytes ts) b ∙ ap (λ (k : ℕ). spec.counted_texts bytes k ts row) (sym e)

-- those of things that Rust's values mean
mapped_more : (A B : Type 0) (f : A → B) (l : List A) (m : ℕ) (d : A) → m < length l → f (get_or l m d) ∷ map f (drop (m + 1) l) ≡ map f (drop m l)
mapped_more A B f l m d h = ap (map f) (sym (drop_more l m d h))

mapped_all : (A B : Type 0) (f : A → B) (l : List A) → [] ≡ map f (drop (length l) l)
mapped_all A B f l = ap (map f) (sym (drop_all (length l) l (omega arith)))

pub pieces_begun : (A : Type 0) (f : A → Piece) (l : List A) (ts : List Token) (row : List Text) → row ≡ spec.pieces_texts (map f (drop (length l) l)) ts row
unfolding spec.pieces_texts
pieces_begun A f l ts row = ap (λ (ps : List Piece). spec.pieces_texts ps ts row) (mapped_all A Piece f l)

pub pieces_next : (A : Type 0) (f : A → Piece) (l : List A) (ts : List Token) (row before new : List Text) (m n : ℕ) (d : A) → m < length l → n ≡ m + 1 → new ≡ spec.piece_texts (f (get_or l m d)) ts before
    → before ≡ spec.pieces_texts (map f (drop n l)) ts row → new ≡ spec.pieces_texts (map f (drop m l)) ts row
unfolding spec.pieces_texts
pieces_next A f l ts row before new m n d h e s b =
    s ∙ ap (spec.piece_texts (f (get_or l m d)) ts) (b ∙ ap (λ (k : ℕ). spec.pieces_texts (map f (drop k l)) ts row) e)
    ∙ ap (λ (ps : List Piece). spec.pieces_texts ps ts row) (mapped_more A Piece f l m d h)

pub field_begun : (A : Type 0) (f : A → List Piece) (l : List A) (ts : List Token) (row made : List Text) → made ≡ spec.no_texts ts → made ≡ spec.field_texts (map f (drop (length l) l)) ts row
unfolding spec.field_texts
field_begun A f l ts row made e = e ∙ ap (λ (ways : List (List Piece)). spec.field_texts ways ts row) (mapped_all A (List Piece) f l)

pub field_next : (A : Type 0) (f : A → List Piece) (l : List A) (ts : List Token) (row copy way before new : List Text) (m n : ℕ) (d : A) → m < length l → n ≡ m + 1 → copy ≡ row → way ≡ spec.pieces_texts (f (get_or l m d)) ts copy
    → new ≡ spec.either_texts ts way before → before ≡ spec.field_texts (map f (drop n l)) ts row → new ≡ spec.field_texts (map f (drop m l)) ts row
unfolding spec.field_texts
field_next A f l ts row copy way before new m n d h e c w s b =
    s ∙ ap (λ (r : List Text). spec.either_texts ts r before) (w ∙ ap (spec.pieces_texts (f (get_or l m d)) ts) c)
    ∙ ap (spec.either_texts ts (spec.pieces_texts (f (get_or l m d)) ts row)) (b ∙ ap (λ (k : ℕ). spec.field_texts (map f (drop k l)) ts row) e)
    ∙ ap (λ (ways : List (List Piece)). spec.field_texts ways ts row) (mapped_more A (List Piece) f l m d h)

pub fields_begun : (A : Type 0) (f : A → List (List Piece)) (l : List A) (ts : List Token) (made : List Text) → made ≡ spec.end_texts ts → made ≡ spec.fields_texts (map f (drop (length l) l)) ts
unfolding spec.fields_texts
fields_begun A f l ts made e = e ∙ ap (λ (fields : List (List (List Piece))). spec.fields_texts fields ts) (mapped_all A (List (List Piece)) f l)

pub fields_next : (A : Type 0) (f : A → List (List Piece)) (l : List A) (ts : List Token) (before new : List Text) (m n : ℕ) (d : A) → m < length l → n ≡ m + 1 → new ≡ spec.field_texts (f (get_or l m d)) ts before
    → before ≡ spec.fields_texts (map f (drop n l)) ts → new ≡ spec.fields_texts (map f (drop m l)) ts
unfolding spec.fields_texts
fields_next A f l ts before new m n d h e s b =
    s ∙ ap (spec.field_texts (f (get_or l m d)) ts) (b ∙ ap (λ (k : ℕ). spec.fields_texts (map f (drop k l)) ts) e)
    ∙ ap (λ (fields : List (List (List Piece))). spec.fields_texts fields ts) (mapped_more A (List (List Piece)) f l m d h)

pub among_begun : (A : Type 0) (f : A → Form) (l : List A) (ts : List Token) → None ≡ spec.text_among (map f (drop (length l) l)) ts
unfolding spec.text_among
among_begun A f l ts = ap (λ (forms : List Form). spec.text_among forms ts) (mapped_all A Form f l)

pub among_next : (A : Type 0) (f : A → Form) (l : List A) (ts : List Token) (text before new : Text) (m n : ℕ) (d : A) → m < length l → n ≡ m + 1 → text ≡ spec.text_in ts (f (get_or l m d)) → new ≡ shorter text before
    → before ≡ spec.text_among (map f (drop n l)) ts → new ≡ spec.text_among (map f (drop m l)) ts
unfolding spec.text_among
among_next A f l ts text before new m n d h e t s b =
    s ∙ ap (λ (x : Text). shorter x before) t ∙ ap (shorter (spec.text_in ts (f (get_or l m d)))) (b ∙ ap (λ (k : ℕ). spec.text_among (map f (drop k l)) ts) e)
    ∙ ap (λ (forms : List Form). spec.text_among forms ts) (mapped_more A Form f l m d h)
