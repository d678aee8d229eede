-- Names as a set, and those of some names that aren't in it.
use Rattle.std.proofs.Common.{◌≡◌, ◌∙◌, ◌<◌, ◌++◌, ◌||◌, ap, sym, refl, cond, filter, get_or, map, length, string_bytes, take, ℕ, suc, Bool, Global, String, true, false, List, [], ◌∷◌}
use Rattle.std.specs.Borrow.{Bor}
use Rattle.std.specs.BTreeSet.{BTreeSet, contains}
use Rattle.std.specs.Cmp.Lexicographic.{slice_cmp}
use Rattle.std.specs.List.{list_any}
use Rattle.std.specs.Ordering.{is_eq, nat_cmp}
use Rattle.std.specs.declared.cmp.Ordering.{Ordering}
use Rattle.std.proofs.lemmas.List.Folds.{list_any-append}
use Rattle.hwdb_spec.specs.Folders.{lists, same}
use Rattle.hwdb_system.specs.Internal.{IsNameSet}
use Rattle.hwdb_spec.specs.Lemmas.Truth.{or_one_more}
use Rattle.hwdb_spec.specs.Lemmas.Lists.{mapped_more}

abbrev order : Bor (List ℕ) → Bor (List ℕ) → Ordering
order x y = slice_cmp nat_cmp x.now y.now

-- one more name in the set
pub name_step : (names : List (String Global)) (i : ℕ) (x : String Global) (old new : BTreeSet (Bor (List ℕ))) (k : Bor (List ℕ)) → i < length names → x ≡ get_or names i x
    → k.now ≡ string_bytes x → IsNameSet (map string_bytes (take i names)) old
    → ((q : Bor (List ℕ)) → contains order new q ≡ cond (is_eq (order k q)) true (contains order old q)) → IsNameSet (map string_bytes (take (suc i) names)) new
name_step names i x old new k lt is own so_far put = λ q.
    let before = map string_bytes (take i names) in
    let next : map string_bytes (take (suc i) names) ≡ before ++ string_bytes x ∷ [] = mapped_more string_bytes names i x lt is in
    put q
    ∙ or_one_more (is_eq (order k q)) _ _ (so_far q)
    ∙ ap (λ (t : List ℕ). lists q.now before || (same t q.now || false)) own
    ∙ sym (ap (list_any (λ n. same n q.now)) next ∙ list_any-append (λ n. same n q.now) before (string_bytes x ∷ []))

-- what is kept of one more name
kept_one : (p : List ℕ → Bool) (x : List ℕ) (xs : List (List ℕ)) → filter p (xs ++ x ∷ []) ≡ filter p xs ++ cond (p x) (x ∷ []) []
kept_one p x [] = refl
kept_one p x (y ∷ xs) = kept_by (p y) y (filter p (xs ++ x ∷ [])) (filter p xs) (cond (p x) (x ∷ []) []) (kept_one p x xs)
  where
    kept_by : (b : Bool) (y : List ℕ) (whole part end : List (List ℕ)) → whole ≡ part ++ end → cond b (y ∷ whole) whole ≡ cond b (y ∷ part) part ++ end
    kept_by true y whole part end e = ap (λ l. y ∷ l) e
    kept_by false y whole part end e = e

pub kept_more : (p : List ℕ → Bool) (names : List (String Global)) (i : ℕ) (x : String Global) (old new : List (List ℕ)) → i < length names → x ≡ get_or names i x
    → old ≡ filter p (map string_bytes (take i names)) → new ≡ old ++ cond (p (string_bytes x)) (string_bytes x ∷ []) []
    → new ≡ filter p (map string_bytes (take (suc i) names))
kept_more p names i x old new lt is so_far added =
    added ∙ ap (λ l. l ++ cond (p (string_bytes x)) (string_bytes x ∷ []) []) so_far
    ∙ sym (ap (filter p) (mapped_more string_bytes names i x lt is) ∙ kept_one p (string_bytes x) (map string_bytes (take i names)))
