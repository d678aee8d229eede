-- What is read of a written database.
use Rattle.std.proofs.Common.{◌≡◌, ◌≤◌, ◌<◌, ℕ, zero, suc, ◌+◌, ◌-◌, ◌^◌, List, [], ◌∷◌, ◌++◌, length, drop, get_or, true, not, cond, refl, sym, ◌∙◌, ap, subst, arith, length-append, length-drop, append_assoc, Ordering, ⊎_elim, ◌==◌}
use Rattle.std.specs.declared.cmp.Ordering.TheVariants.{Less, Equal, Greater}
use Rattle.std.specs.Ordering.{nat_cmp}
use Rattle.std.specs.Cmp.{tied_itself}
use Rattle.std.specs.Cmp.Lexicographic.{slice_cmp, nat_list_cmp_total}
use Rattle.std.specs.FinMap.{slice_cmp-IsAntisymmetric, nat_cmp-IsAntisymmetric}
use Rattle.std.specs.FinMap.Entries.{by_order}
use Rattle.std.specs.List.{AllByRecursion, take_while}
use Rattle.std.specs.List.Sorted.{IsStrictlySortedBy}
use Rattle.std.proofs.lemmas.List.Sums.{take_while-cons}
use Rattle.std.proofs.lemmas.Bool.Decides.{nat_tests}
use Rattle.byteorder.specs.Endian.{little_bytes, little_number}
use Rattle.byteorder.specs.Numbers.{little_number-reads_back}
use Rattle.hwdb_spec.specs.Format.{number_at, text_at}
use Rattle.hwdb_spec.specs.Written.{place_of, section_of, ended}
use Rattle.hwdb_writer.specs.Internal.Storable.{HasNoZero}
use Rattle.hwdb_text.specs.Lemmas.Ascending.{IsOrdered}
use Rattle.hwdb_text.specs.Lemmas.Members.{Holds}

-- the text is in b at i
pub record Stands (b : List ℕ) (i : ℕ) (text : List ℕ) : Type 0 where
  pub rest : List ℕ
  pub is : drop i b ≡ text ++ rest

pub stands_front : (b : List ℕ) (i : ℕ) (x y : List ℕ) → Stands b i (x ++ y) → Stands b i x
stands_front b i x y s = record { rest = y ++ s.rest; is = s.is ∙ append_assoc x y s.rest }

drop-nil : (n : ℕ) → drop {A = ℕ} n [] ≡ []
drop-nil zero = refl
drop-nil (suc n) = refl

drop-drop : (b : List ℕ) (i n : ℕ) → drop (i + n) b ≡ drop n (drop i b)
drop-drop b zero n = ap (λ m. drop m b) (omega arith)
drop-drop [] (suc i) n = drop-nil (suc i + n) ∙ sym (drop-nil n)
drop-drop (x ∷ b) (suc i) n = ap (λ m. drop m (x ∷ b)) (let e : suc i + n ≡ suc (i + n) = omega arith in e) ∙ drop-drop b i n

drop-front : (x y : List ℕ) → drop (length x) (x ++ y) ≡ y
drop-front [] y = refl
drop-front (c ∷ x) y = drop-front x y

pub stands_back : (b : List ℕ) (i n : ℕ) (x y : List ℕ) → n ≡ length x → Stands b i (x ++ y) → Stands b (i + n) y
stands_back b i n x y e s = record {
  rest = s.rest;
  is = drop-drop b i n ∙ (λ j. drop (e j) (s.is j)) ∙ ap (drop (length x)) (append_assoc x y s.rest) ∙ drop-front x (y ++ s.rest);
}

pub stands_bound : (b : List ℕ) (i : ℕ) (text : List ℕ) → 0 < length text → Stands b i text → i + length text ≤ length b
stands_bound b i text p s = let e = sym (length-drop i b) ∙ ap length s.is ∙ length-append text s.rest in omega (arith, e, p)

pub stands_same : (b : List ℕ) (i j : ℕ) (x y : List ℕ) → i ≡ j → x ≡ y → Stands b i x → Stands b j y
stands_same b i j x y e f s = let P : ℕ → Type 0 = λ n. Stands b n y in let Q : List ℕ → Type 0 = λ z. Stands b i z in subst P e (subst Q f s)

pub number_read : (b : List ℕ) (n i x : ℕ) → x < 256 ^ n → Stands b i (little_bytes n x) → number_at n i b ≡ x
unfolding number_at
number_read b n i x lt s = ap (λ y. little_number n y) s.is ∙ little_number-reads_back n x s.rest lt

get-drop : (b : List ℕ) (i : ℕ) → get_or b i 0 ≡ get_or (drop i b) 0 0
get-drop [] zero = refl
get-drop [] (suc i) = refl
get-drop (x ∷ b) zero = refl
get-drop (x ∷ b) (suc i) = get-drop b i

pub byte_read : (b : List ℕ) (i c : ℕ) (ys : List ℕ) → Stands b i (c ∷ ys) → get_or b i 0 ≡ c
byte_read b i c ys s = get-drop b i ∙ ap (λ z. get_or z 0 0) s.is

not_zero : (c : ℕ) → 0 < c → not (c == 0) ≡ true
not_zero c lt = grind (arith, nat_tests)

-- a string without byte 0 ends at the next byte 0
cut : (s rest : List ℕ) → HasNoZero s → take_while (λ x. not (x == 0)) (s ++ 0 ∷ rest) ≡ s
cut [] rest n = take_while-cons (λ x. not (x == 0)) 0 rest
cut (c ∷ s) rest n =
    take_while-cons (λ x. not (x == 0)) c (s ++ 0 ∷ rest) ∙ ap (λ z. cond z (c ∷ take_while (λ x. not (x == 0)) (s ++ 0 ∷ rest)) []) (not_zero c n.0) ∙ ap (λ z. c ∷ z) (cut s rest n.1)

pub text_read : (b : List ℕ) (i : ℕ) (s : List ℕ) → HasNoZero s → Stands b i (ended s) → text_at b i ≡ s
unfolding text_at
text_read b i s n h = ap (take_while (λ x. not (x == 0))) (h.is ∙ append_assoc s (0 ∷ []) h.rest) ∙ cut s h.rest n

above : (t : List ℕ) (ts : List (List ℕ)) (s : List ℕ) → AllByRecursion (λ y. slice_cmp nat_cmp t y ≡ Less) ts → Holds ts s → slice_cmp nat_cmp t s ≡ Less
above t [] s a h = absurd h
above t (u ∷ us) s a h = ⊎_elim {C = slice_cmp nat_cmp t s ≡ Less} (λ e. ap (slice_cmp nat_cmp t) e ∙ a.0) (λ r. above t us s a.1 r) h

-- each string of an ascending table is at its place
place_step : (b : List ℕ) (from : ℕ) (t : List ℕ) (ts : List (List ℕ)) (s : List ℕ) (r : Ordering) → slice_cmp nat_cmp s t ≡ r → AllByRecursion (λ y. slice_cmp nat_cmp t y ≡ Less) ts → Holds (t ∷ ts) s → Stands b from (section_of (t ∷ ts)) →
    (Holds ts s → Stands b (from + length t + 1) (section_of ts) → Stands b (place_of (from + length t + 1) ts s) (ended s)) →
    Stands b (by_order r from from (place_of (from + length t + 1) ts s)) (ended s)
place_step b from t ts s Less e a h st ih =
    absurd (⊎_elim {C = ⊥}
    (λ same. let k = ap (slice_cmp nat_cmp s) same ∙ sym (ap (slice_cmp nat_cmp s) same) in let tied = ap (slice_cmp nat_cmp s) (sym same) ∙ tied_itself nat_list_cmp_total s in cc)
    (λ r. let less = above t ts s a r in let loop = nat_list_cmp_total.trans s t s e less in let tied = tied_itself nat_list_cmp_total s in cc) h)
place_step b from t ts s Equal e a h st ih =
    let is = slice_cmp-IsAntisymmetric nat_cmp-IsAntisymmetric s t e in
    stands_same b from from (ended t) (ended s) refl (ap ended (sym is)) (stands_front b from (ended t) (section_of ts) st)
place_step b from t ts s Greater e a h st ih =
    let back = stands_back b from (length t + 1) (ended t) (section_of ts) (sym (length-append t (0 ∷ []))) st in
    let next = stands_same b (from + (length t + 1)) (from + length t + 1) (section_of ts) (section_of ts) (omega arith) refl back in
    ⊎_elim {C = Stands b (place_of (from + length t + 1) ts s) (ended s)}
    (λ same. absurd (let tied = ap (slice_cmp nat_cmp s) (sym same) ∙ tied_itself nat_list_cmp_total s in cc)) (λ r. ih r next) h

pub place_stands : (b : List ℕ) (from : ℕ) (table : List (List ℕ)) (s : List ℕ) → IsOrdered table → Holds table s → Stands b from (section_of table) → Stands b (place_of from table s) (ended s)
unfolding place_of IsStrictlySortedBy
place_stands b from [] s o h st = absurd h
place_stands b from (t ∷ ts) s o h st =
    place_step b from t ts s (slice_cmp nat_cmp s t) refl o.0 h st (λ r n. place_stands b (from + length t + 1) ts s o.1 r n)

pub place_above : (from : ℕ) (table : List (List ℕ)) (s : List ℕ) → from ≤ place_of from table s
unfolding place_of
place_above from [] s = omega arith
place_above from (t ∷ ts) s =
    let h = place_above (from + length t + 1) ts s in
    elim (slice_cmp nat_cmp s t) as (λ r. from ≤ by_order r from from (place_of (from + length t + 1) ts s)) [ Less ↦ omega arith | Equal ↦ omega arith | Greater ↦ omega (arith, h) ]

-- the section ends with byte 0
pub last_zero : (b : List ℕ) (from : ℕ) (t : List ℕ) (ts : List (List ℕ)) → Stands b from (section_of (t ∷ ts)) → get_or b (from + length (section_of (t ∷ ts)) - 1) 0 ≡ 0
last_zero b from t [] st =
    let one = stands_front b from (ended t) [] st in
    let zero_at = stands_back b from (length t) t (0 ∷ []) refl one in
    let l = length-append (ended t) [] in
    let k = length-append t (0 ∷ []) in
    let e : from + length (section_of (t ∷ [])) - 1 ≡ from + length t = omega (arith, l, k) in
    ap (λ n. get_or b n 0) e ∙ byte_read b (from + length t) 0 [] zero_at
last_zero b from t (u ∷ us) st =
    let back = stands_back b from (length (ended t)) (ended t) (section_of (u ∷ us)) refl st in
    let l = length-append (ended t) (section_of (u ∷ us)) in
    let e : from + length (section_of (t ∷ u ∷ us)) - 1 ≡ from + length (ended t) + length (section_of (u ∷ us)) - 1 = omega (arith, l) in
    ap (λ n. get_or b n 0) e ∙ last_zero b (from + length (ended t)) u us back
