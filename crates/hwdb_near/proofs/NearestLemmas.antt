-- The nearest patterns, found one after another.
use Rattle.std.proofs.Common.{◌≡◌, ◌∙◌, ap, sym, refl, ℕ, ◌-◌, ◌≤◌, Bool, true, false, List, [], ◌∷◌, ◌++◌, take, drop, length, map, filter, not, reverse, cond}
use mathlib.Core.List.{reverse_aux}
use Rattle.std.specs.Borrow.{Bor}
use Rattle.std.specs.FinMap as finite
use Rattle.std.specs.declared.cmp.Ordering.TheVariants.{Equal}
use Rattle.std.specs.Ordering.{eq_by_cmp, nat_cmp}
use Rattle.std.specs.List.{dedup}
use Rattle.std.specs.List.Sorted.{IsSorted, IsPermutation}
use Rattle.std.proofs.lemmas.List.{append-nil, take_at, take-append-drop, reverse-append, length-reverse, length-drop, drop-map, take-map}
use Rattle.hwdb_spec.specs.Assignment.{in_order, text_cmp}
use Rattle.hwdb_spec.specs.Patterns.{tokens}
use Rattle.hwdb_spec_commands.specs.Near.{PatternAt, Rated, folded, hits, literals, missing, front_literals, front_tokens, near_cmp, place_cmp, rated, unmet}
use Rattle.hwdb_pattern.specs.Fronts.{token_of}
use Rattle.hwdb_near.specs.Views.{pattern_at}
use Rattle.hwdb_near.specs.declared.found.PatternAt.{PatternAt as At}
use Rattle.hwdb_near.specs.declared.found.Rated.{Rated as Found}
use Rattle.hwdb_near.specs.Internal.Ratings.{by_nearness, by_nearness_total, by_place, by_place_total, hitting, misses, near_total, place_total, rated_of}
use Rattle.hwdb_near.proofs.OrderedLemmas.{sorted_once}
use Rattle.hwdb_spec.specs.Lemmas.Orders.{then_equal}

abbrev Text : Type 0
Text = Bor (List ℕ)

-- ---- two that tie are one

same_place : (x y : PatternAt) → place_cmp x y ≡ Equal → x ≡ y
same_place x y h =
    let c = then_equal (nat_cmp x.file y.file) _ h in
    let d = then_equal (nat_cmp x.line y.line) _ c.1 in
    let e = then_equal (text_cmp x.pattern y.pattern) (text_cmp x.path y.path) d.1 in
    let file_is : x.file ≡ y.file = finite.nat_cmp-IsAntisymmetric x.file y.file c.0 in
    let line_is : x.line ≡ y.line = finite.nat_cmp-IsAntisymmetric x.line y.line d.0 in
    let pattern_is : x.pattern ≡ y.pattern = finite.slice_cmp-IsAntisymmetric finite.nat_cmp-IsAntisymmetric x.pattern y.pattern e.0 in
    let path_is : x.path ≡ y.path = finite.slice_cmp-IsAntisymmetric finite.nat_cmp-IsAntisymmetric x.path y.path e.1 in
    λ i. record { path = path_is i; file = file_is i; line = line_is i; pattern = pattern_is i }

single : (x y : Rated) → near_cmp x y ≡ Equal → x ≡ y
single x y h =
    let a = then_equal (nat_cmp x.missing y.missing) _ h in
    let b = then_equal (nat_cmp y.front x.front) (place_cmp x.at y.at) a.1 in
    let missing_is : x.missing ≡ y.missing = finite.nat_cmp-IsAntisymmetric x.missing y.missing a.0 in
    let front_is : x.front ≡ y.front = sym (finite.nat_cmp-IsAntisymmetric y.front x.front b.0) in
    let at_is : x.at ≡ y.at = same_place x.at y.at b.1 in
    λ i. record { missing = missing_is i; front = front_is i; at = at_is i }

pub sorted_nearest : (old sorted new : List Found) → IsPermutation old sorted → IsSorted by_nearness sorted → new ≡ dedup (eq_by_cmp by_nearness) sorted → map rated_of new ≡ in_order near_cmp (map rated_of old)
sorted_nearest old sorted new moved up left = sorted_once rated_of near_cmp near_total by_nearness_total single old sorted new moved up left

pub sorted_places : (old sorted new : List At) → IsPermutation old sorted → IsSorted by_place sorted → new ≡ dedup (eq_by_cmp by_place) sorted → map pattern_at new ≡ in_order place_cmp (map pattern_at old)
sorted_places old sorted new moved up left = sorted_once pattern_at place_cmp place_total by_place_total same_place old sorted new moved up left

-- ---- one more pattern

misses_append : (device : List ℕ) (xs ys : List PatternAt) → misses device (xs ++ ys) ≡ misses device xs ++ misses device ys
misses_append device [] ys = refl
misses_append device (x ∷ xs) ys =
    let again = misses_append device xs ys in
    elim (hits device x) as (λ h. map (rated device) (cond (not h) (x ∷ filter (λ at. not (hits device at)) (xs ++ ys)) (filter (λ at. not (hits device at)) (xs ++ ys)))
    ≡ map (rated device) (cond (not h) (x ∷ filter (λ at. not (hits device at)) xs) (filter (λ at. not (hits device at)) xs)) ++ misses device ys) [
      | true ↦ again
      | false ↦ ap (λ (l : List Rated). rated device x ∷ l) again
    ]

pub hitting_more : (device : List ℕ) (done more : List PatternAt) (old new : List PatternAt) → old ≡ hitting device done → new ≡ old ++ hitting device more → new ≡ hitting device (done ++ more)
hitting_more device done more old new o n = n ∙ ap (λ (l : List PatternAt). l ++ hitting device more) o ∙ sym (both done)
  where
    both : (xs : List PatternAt) → hitting device (xs ++ more) ≡ hitting device xs ++ hitting device more
    both [] = refl
    both (x ∷ xs) =
        let again = both xs in
        elim (hits device x) as (λ h. cond h (x ∷ hitting device (xs ++ more)) (hitting device (xs ++ more)) ≡ cond h (x ∷ hitting device xs) (hitting device xs) ++ hitting device more) [
          | true ↦ ap (λ (l : List PatternAt). x ∷ l) again
          | false ↦ again
        ]

-- ---- how near it is

map_onto : {A B : Type 0} (f : A → B) (xs done : List A) → map f (reverse_aux xs done) ≡ reverse_aux (map f xs) (map f done)
map_onto f [] done = refl
map_onto f (x ∷ xs) done = map_onto f xs (x ∷ done)

pub map_reverse : {A B : Type 0} (f : A → B) (xs : List A) → map f (reverse xs) ≡ reverse (map f xs)
map_reverse f xs = map_onto f xs []

pub reverse_drop : {A : Type 0} (l : List A) (k : ℕ) → k ≤ length l → take (length l - k) (reverse l) ≡ reverse (drop k l)
reverse_drop l k le =
    let size = length-drop k l ∙ sym (length-drop k l) in
    ap (take (length l - k)) (ap reverse (sym (take-append-drop k l)) ∙ reverse-append (take k l) (drop k l))
    ∙ take_at (reverse (drop k l)) (reverse (take k l)) (length l - k) (length-reverse (drop k l) ∙ length-drop k l)

-- the missing literals, as the code counts them
pub missing_is : (ts rest : List Text) (device back : List ℕ) (k j n : ℕ) → k ≡ front_tokens (map token_of ts) device → k ≤ length ts → rest ≡ take (length ts - k) (reverse ts) → back ≡ reverse device
    → j ≡ front_tokens (map token_of rest) back → n ≡ literals (map token_of (drop j rest)) → n ≡ missing (map token_of ts) device
missing_is ts rest device back k j n k_is le rest_is back_is j_is n_is =
    let whole = map token_of ts in
    let more : map token_of rest ≡ reverse (unmet whole device) =
    ap (map token_of) (rest_is ∙ reverse_drop ts k le) ∙ map_reverse token_of (drop k ts) ∙ ap reverse (sym (drop-map token_of k ts) ∙ ap (λ (m : ℕ). drop m whole) k_is) in
    n_is ∙ ap literals (sym (drop-map token_of j rest) ∙ ap (λ (m : ℕ). drop m (map token_of rest)) j_is)
    ∙ (λ i. literals (unmet (more i) (back_is i)))

-- the literals of the front, as the code counts them
pub front_is : (ts : List Text) (device : List ℕ) (k n : ℕ) → k ≡ front_tokens (map token_of ts) device → n ≡ literals (map token_of (take k ts)) → n ≡ front_literals (map token_of ts) device
front_is ts device k n k_is n_is = n_is ∙ ap literals (sym (take-map token_of k ts) ∙ ap (λ (m : ℕ). take m (map token_of ts)) k_is)

-- ---- one pattern more

pub hit_put : (device : List ℕ) (at : PatternAt) (l : List Rated) → hits device at ≡ true → l ≡ l ++ misses device (at ∷ [])
hit_put device at l h = sym (append-nil l) ∙ ap (λ (b : Bool). l ++ map (rated device) (cond (not b) (at ∷ []) [])) (sym h)

pub miss_put : (device folded_device : List ℕ) (at : PatternAt) (m f : ℕ) (l new : List Rated) → hits device at ≡ false → folded_device ≡ folded device
    → m ≡ missing (tokens (folded at.pattern)) folded_device → f ≡ front_literals (tokens (folded at.pattern)) folded_device → new ≡ l ++ record { missing = m; front = f; at = at } ∷ []
    → new ≡ l ++ misses device (at ∷ [])
miss_put device folded_device at m f l new h d mm ff k =
    let ts = tokens (folded at.pattern) in
    k ∙ (λ i. l ++ record { missing = (mm ∙ ap (missing ts) d) i; front = (ff ∙ ap (front_literals ts) d) i; at = at } ∷ [])
    ∙ ap (λ (b : Bool). l ++ map (rated device) (cond (not b) (at ∷ []) [])) (sym h)

pub misses_more : (device : List ℕ) (done more : List PatternAt) (old new : List Rated) → old ≡ misses device done → new ≡ old ++ misses device more → new ≡ misses device (done ++ more)
misses_more device done more old new o n = n ∙ ap (λ (l : List Rated). l ++ misses device more) o ∙ sym (misses_append device done more)
