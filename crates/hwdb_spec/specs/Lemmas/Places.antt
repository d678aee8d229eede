-- Patterns and keys: their orders, and when two places are one.
use Rattle.std.proofs.Common.{◌≡◌, ◌∙◌, ap, sym, refl, ℕ, List, [], ◌∷◌, true, false, Some, None, filter, if◌then◌else◌, ◌==◌, eqb-true}
use Rattle.std.specs.FinMap as finite
use Rattle.std.specs.Cmp.{IsTotalOrder}
use Rattle.std.specs.Cmp.Lexicographic.{slice_cmp}
use Rattle.std.specs.Ordering.{eq_by_cmp, nat_cmp}
use Rattle.std.proofs.lemmas.Cmp.{nat_cmp_total, nat_list_cmp_total, on_total, then_total}
use Rattle.hwdb_spec.specs.Answers.{is_after, is_behind, is_same_place}
use Rattle.hwdb_spec.specs.Assignment.{Assignment, Position, assignment_cmp, position_cmp}
use Rattle.hwdb_spec.specs.Folders.{same}
use Rattle.hwdb_spec.specs.Last.{HaveOnePlace}
use Rattle.hwdb_spec.specs.Tree.{key_of, place_cmp}
use Rattle.hwdb_spec.specs.Lemmas.Orders.{equal_of, equal_text, same_itself, same_text, then_equal}

pub place_total : IsTotalOrder place_cmp
place_total = then_total (on_total (λ (p : List ℕ × List ℕ). p.0) nat_list_cmp_total) (on_total (λ (p : List ℕ × List ℕ). p.1) nat_list_cmp_total)

pub position_total : IsTotalOrder position_cmp
unfolding position_cmp
position_total =
    then_total (on_total (λ (s : Position). s.priority) nat_cmp_total)
    (then_total (on_total (λ (s : Position). s.line) nat_cmp_total)
    (then_total (on_total (λ (s : Position). s.pattern) nat_list_cmp_total) (on_total (λ (s : Position). s.key) nat_list_cmp_total)))

pub assignment_total : IsTotalOrder assignment_cmp
unfolding assignment_cmp
assignment_total = on_total (λ (f : Assignment). f.position) position_total

-- places that tie are one
pub equal_place : finite.IsAntisymmetric place_cmp
equal_place x y e =
    let both = then_equal (slice_cmp nat_cmp x.0 y.0) (slice_cmp nat_cmp x.1 y.1) e in
    let pattern : x.0 ≡ y.0 = equal_text x.0 y.0 both.0 in
    let key : x.1 ≡ y.1 = equal_text x.1 y.1 both.1 in
    λ i. (pattern i, key i)

pub same_place : (p q : List ℕ × List ℕ) → eq_by_cmp place_cmp p q ≡ true → p ≡ q
same_place p q e = equal_place p q (equal_of (place_cmp p q) e)

-- one place, as a test and as a claim
pub place_same : (a b : Assignment) → HaveOnePlace a b → is_same_place a b ≡ true
place_same a b h =
    ap (λ p. if same a.position.pattern p then same a.position.key b.position.key else false) (sym h.0)
    ∙ ap (λ k. if same a.position.pattern a.position.pattern then same a.position.key k else false) (sym h.1)
    ∙ ap (λ x. if x then same a.position.key a.position.key else false) (same_itself a.position.pattern)
    ∙ same_itself a.position.key

pub one_place : (a b : Assignment) → is_same_place a b ≡ true → HaveOnePlace a b
one_place a b h =
    elim (same a.position.pattern b.position.pattern) as (λ x. same a.position.pattern b.position.pattern ≡ x
    → (if x then same a.position.key b.position.key else false) ≡ true → HaveOnePlace a b) [
      | true ↦ λ e k. (same_text a.position.pattern b.position.pattern e, same_text a.position.key b.position.key k)
      | false ↦ λ e k. cc
    ] refl h

-- a stored key is a space and the key
pub key_is : (k key : List ℕ) → key_of k ≡ Some key → k ≡ 32 ∷ key
key_is [] key h = cc
key_is (c ∷ rest) key h =
    elim (c == 32) as (λ b. (c == 32) ≡ b → (if b then Some rest else None) ≡ Some key → c ∷ rest ≡ 32 ∷ key) [
      | true ↦ λ e k. let n : c ≡ 32 = eqb-true c 32 e in let r : rest ≡ key = cc in cc
      | false ↦ λ e k. cc
    ] refl h

-- all assignments come after no position
pub all_behind : (xs : List Assignment) → filter (is_behind None) xs ≡ xs
unfolding is_after
all_behind [] = refl
all_behind (x ∷ xs) = ap (λ l. x ∷ l) (all_behind xs)
