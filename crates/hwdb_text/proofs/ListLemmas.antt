-- A chosen file is in the folder that it is taken from.
use Rattle.std.proofs.Common.{◌≡◌, ℕ, suc, ◌<◌, Bool, true, false, List, [], ◌∷◌, refl, ap, ◌∙◌, sym, cond, ◌||◌, inl, inr, length, arith, All, Contains}
use Rattle.std.specs.List.{AllByRecursion as Each}
use Rattle.std.proofs.lemmas.Bool.{cases_Bool}
use Rattle.std.proofs.lemmas.List.Elements.{All-from_recursion}
use Rattle.hwdb_spec.specs.Folders.{counts, same, lists, names, choice}
use Rattle.hwdb_text.specs.Internal.Choosing.{chosen}
use Rattle.hwdb_spec.specs.Selected.{IsListed}
use Rattle.hwdb_text.proofs.NameSetLemmas.{names_are_those_that_count}
use Rattle.hwdb_text.proofs.StoreLemmas.{each_map, each_weaker}
use Rattle.hwdb_spec.specs.Lemmas.Orders.{same_itself, same_text}
use Rattle.hwdb_spec.specs.Lemmas.Truth.{or_right}

contains_more : (x n : List ℕ) (xs : List (List ℕ)) → Contains xs n → Contains (x ∷ xs) n
contains_more x n xs h = (suc h.0, (let l : h.0 < length xs = h.1 in omega arith), h.2)

contains_of : (n : List ℕ) (xs : List (List ℕ)) → lists n xs ≡ true → Contains xs n
contains_of n [] e = cc
contains_of n (x ∷ xs) e = elim (cases_Bool (same x n)) [
  | inl s ↦ (0, omega arith, same_text x n s)
  | inr s ↦ contains_more x n xs (contains_of n xs (ap (λ (b : Bool). b || lists n xs) (sym s) ∙ e))
]

-- a list has each of its names
lists_own : (xs : List (List ℕ)) → Each (λ n. lists n xs ≡ true) xs
lists_own [] = tt
lists_own (x ∷ xs) = (
  ap (λ (b : Bool). b || lists x xs) (same_itself x),
  each_weaker (λ n. lists n xs ≡ true) (λ n. lists n (x ∷ xs) ≡ true) (λ n. or_right (same x n) (lists n xs)) xs (lists_own xs),
)

listed_by : (c e u : Bool) (etc usr : List (List ℕ)) (n : List ℕ) → (e ≡ true → Contains etc n) → (u ≡ true → Contains usr n) → cond c (cond e true u) false ≡ true → Contains (cond e etc usr) n
listed_by true true u etc usr n f g h = f refl
listed_by true false u etc usr n f g h = g h
listed_by false e u etc usr n f g h = cc

is_listed : (etc usr : List (List ℕ)) (n : List ℕ) → lists n (names etc usr) ≡ true → IsListed etc usr (chosen etc (names etc usr) n)
is_listed etc usr n e =
    listed_by (counts n) (lists n etc) (lists n usr) etc usr n (contains_of n etc) (contains_of n usr) (sym (names_are_those_that_count etc usr n) ∙ e)

pub choices_listed : (etc usr : List (List ℕ)) → All (IsListed etc usr) (choice etc usr)
choices_listed etc usr =
    All-from_recursion (IsListed etc usr) (choice etc usr)
    (each_map (IsListed etc usr) (chosen etc (names etc usr)) (names etc usr)
    (each_weaker (λ n. lists n (names etc usr) ≡ true) (λ n. IsListed etc usr (chosen etc (names etc usr) n)) (is_listed etc usr) (names etc usr) (lists_own (names etc usr))))
