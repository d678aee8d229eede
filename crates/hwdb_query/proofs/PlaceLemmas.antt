-- The place of a hit among others.
use Rattle.std.proofs.Common.{◌≡◌, ◌∙◌, ap, sym, refl, ℕ, zero, suc, ◌-◌, ◌≤◌, ◌<◌, List, [], ◌∷◌, ◌++◌, take, drop, reverse, length, arith}
use mathlib.Core.List.{reverse_aux}
use Rattle.hwdb_query.specs.declared.hit.Hit.{Hit}
use Rattle.hwdb_spec.specs.Assignment.{Assignment, assignment_cmp, put}
use Rattle.hwdb_query.specs.Views.{assignment_of_hit, assignments_of_hits}

pub founds_length : (hits : List Hit) → length (assignments_of_hits hits) ≡ length hits
founds_length [] = refl
founds_length (h ∷ hits) = ap suc (founds_length hits)

pub founds_take : (n : ℕ) (hits : List Hit) → assignments_of_hits (take n hits) ≡ take n (assignments_of_hits hits)
founds_take zero hits = refl
founds_take (suc n) [] = refl
founds_take (suc n) (h ∷ hits) = ap (λ r. assignment_of_hit h ∷ r) (founds_take n hits)

pub founds_put : (i : ℕ) (h : Hit) (hits : List Hit) → assignments_of_hits (take i hits ++ h ∷ drop i hits) ≡ take i (assignments_of_hits hits) ++ assignment_of_hit h ∷ drop i (assignments_of_hits hits)
founds_put zero h hits = refl
founds_put (suc i) h [] = refl
founds_put (suc i) h (k ∷ hits) = ap (λ r. assignment_of_hit k ∷ r) (founds_put i h hits)

-- a list cut before or after one more member
pub cut_put : {A : Type 0} (i k : ℕ) (x : A) (l : List A) → i ≤ k → i ≤ length l → take i (take k l) ++ x ∷ drop i (take k l) ≡ take (suc k) (take i l ++ x ∷ drop i l)
cut_put zero k x l m n = refl
cut_put (suc i) zero x l m n = absurd (omega arith)
cut_put (suc i) (suc k) x [] m n = absurd (omega arith)
cut_put (suc i) (suc k) x (y ∷ l) m n = ap (λ r. y ∷ r) (cut_put i k x l (omega arith) (omega arith))

founds_onto : (hits done : List Hit) → assignments_of_hits (reverse_aux hits done) ≡ reverse_aux (assignments_of_hits hits) (assignments_of_hits done)
founds_onto [] done = refl
founds_onto (h ∷ hits) done = founds_onto hits (h ∷ done)

pub founds_reverse : (hits : List Hit) → assignments_of_hits (reverse hits) ≡ reverse (assignments_of_hits hits)
founds_reverse hits = founds_onto hits []

pub kept_here : (most m i : ℕ) (hits old into cut : List Hit) (h : Hit) (x : Assignment) (o : List Assignment) → i < most → i ≤ length old
    → assignments_of_hits old ≡ o → assignment_of_hit h ≡ x → cut ≡ take (most - 1) old → into ≡ take i cut ++ h ∷ drop i cut
    → put assignment_cmp x o ≡ take i o ++ x ∷ drop i o → assignments_of_hits into ≡ take most (put assignment_cmp x o)
kept_here zero m i hits old into cut h x o l n os hx cs is p = absurd (omega arith)
kept_here (suc k) m i hits old into cut h x o l n os hx cs is p =
    let less : suc k - 1 ≡ k = omega arith in
    let size : length o ≡ length old = ap length (sym os) ∙ founds_length old in
    ap assignments_of_hits is ∙ founds_put i h cut
    ∙ ap (λ f. take i (assignments_of_hits cut) ++ f ∷ drop i (assignments_of_hits cut)) hx
    ∙ ap (λ r. take i r ++ x ∷ drop i r) (ap assignments_of_hits (cs ∙ ap (λ q. take q old) less) ∙ founds_take k old ∙ ap (take k) os)
    ∙ cut_put i k x o (omega arith) (omega arith) ∙ ap (take (suc k)) (sym p)
