-- The last entry of each pattern and key: a stable sort of the entries, the last first, and the first of each run.
use Rattle.std.proofs.Common.{◌≡◌, zero, suc, List, [], ◌∷◌, ◌++◌, map, reverse, Bool, true, false, cond, not, ◌&&◌, refl, sym, ◌∙◌, ap, subst, arith, Option, None, Some, Ordering, All}
use Rattle.std.specs.Prelude.{filter}
use Rattle.std.specs.List.{AllByRecursion, dedup}
use Rattle.std.specs.List.Sorted.{IsStrictlySortedBy, IsSorted, IsStable, IsPermutation, ties}
use Rattle.std.specs.declared.cmp.Ordering.TheVariants.{Less, Equal, Greater}
use Rattle.std.specs.Ordering.{is_lt, is_eq, eq_by_cmp, ordering_reverse}
use Rattle.std.specs.FinMap.{same_map, get-from_entries, from_entries}
use Rattle.std.specs.FinMap.Entries.{find}
use Rattle.std.proofs.lemmas.List.{reverse-append}
use Rattle.std.proofs.lemmas.List.Filters.{All-dedup}
use Rattle.std.proofs.lemmas.List.Sorted.{All-permutation}
use Rattle.std.proofs.lemmas.List.Kept.{IsStrictlySortedBy-dedup}
use Rattle.hwdb_spec.specs.Assignment.{Assignment}
use Rattle.hwdb_spec.specs.Tree.{Map, place_cmp, entry_of, surviving}
use Rattle.hwdb_writer.specs.Internal.Entries.{assignment_of, place_of, by_place, by_place_total, IsStorableEntry}
use Rattle.hwdb_writer.specs.declared.entries.Setting.{Setting}
use Rattle.hwdb_writer.proofs.MapLemmas.{Place, is_place}
use Rattle.hwdb_spec.specs.Lemmas.Places.{equal_place, place_total}

-- what the entries have at a place: the first
abbrev at : Place → List Setting → Option Assignment
at q es = find place_cmp q (map entry_of (map assignment_of es))

shadowed : {A : Type 0} (a b : Bool) (x y z : A) → (b ≡ true → a ≡ true) → cond a x z ≡ cond a x (cond b y z)
shadowed true b x y z h = refl
shadowed false true x y z h = let k : false ≡ true = h refl in absurd (cc)
shadowed false false x y z h = refl

-- a run's first is found
at_dedup : (q : Place) (e : Setting) (es : List Setting) → at q (dedup (eq_by_cmp by_place) (e ∷ es)) ≡ at q (e ∷ es)
at_dedup q e [] = refl
at_dedup q e (f ∷ es) = by (at_dedup q e es) (at_dedup q f es) (eq_by_cmp by_place f e) refl
  where
    same : eq_by_cmp by_place f e ≡ true → eq_by_cmp place_cmp q (place_of f) ≡ true → eq_by_cmp place_cmp q (place_of e) ≡ true
    same h k = subst (λ (p : Place). eq_by_cmp place_cmp q p ≡ true) (is_place (place_of f) (place_of e) h) k

    by : at q (dedup (eq_by_cmp by_place) (e ∷ es)) ≡ at q (e ∷ es) → at q (dedup (eq_by_cmp by_place) (f ∷ es)) ≡ at q (f ∷ es) → (b : Bool) → eq_by_cmp by_place f e ≡ b →
        at q (cond b (dedup (eq_by_cmp by_place) (e ∷ es)) (e ∷ dedup (eq_by_cmp by_place) (f ∷ es))) ≡ at q (e ∷ f ∷ es)
    by ie jf true h = ie ∙ shadowed (eq_by_cmp place_cmp q (place_of e)) (eq_by_cmp place_cmp q (place_of f)) (Some (assignment_of e)) (Some (assignment_of f)) (at q es) (same h)
    by ie jf false h = ap (cond (eq_by_cmp place_cmp q (place_of e)) (Some (assignment_of e))) jf

pub at_deduped : (q : Place) (es : List Setting) → at q (dedup (eq_by_cmp by_place) es) ≡ at q es
at_deduped q [] = refl
at_deduped q (e ∷ es) = at_dedup q e es

-- an entry at a place
entry_at : Place → Setting
entry_at q = record {
  pattern = record { ref_ptr = (0, 0); now = q.0 };
  key = record { ref_ptr = (0, 0); now = q.1 };
  value = record { ref_ptr = (0, 0); now = [] };
  path = record { ref_ptr = (0, 0); now = [] };
  line = 0;
  priority = 0;
}

first_of : List Setting → Option Assignment
first_of [] = None
first_of (e ∷ es) = Some (assignment_of e)

abbrev less : Setting → Setting → Bool
less a b = is_lt (by_place a b)

tied : (a b : Ordering) → b ≡ ordering_reverse a → (not (is_lt a) && not (is_lt b)) ≡ is_eq a
tied Less b e = refl
tied Equal b e = ap (λ o. not (is_lt o)) e
tied Greater b e = ap (λ o. not (is_lt o)) e

ties_at : (q : Place) (e : Setting) → ties less (entry_at q) e ≡ eq_by_cmp place_cmp q (place_of e)
unfolding entry_at
ties_at q e = tied (place_cmp q (place_of e)) (place_cmp (place_of e) q) (place_total.antisymm (place_of e) q)

at_first : (q : Place) (es : List Setting) → at q es ≡ first_of (filter (ties less (entry_at q)) es)
unfolding first_of
at_first q [] = refl
at_first q (e ∷ es) = by (at_first q es) (ties less (entry_at q) e) (eq_by_cmp place_cmp q (place_of e)) (ties_at q e)
  where
    by : at q es ≡ first_of (filter (ties less (entry_at q)) es) → (a b : Bool) → a ≡ b → cond b (Some (assignment_of e)) (at q es) ≡ first_of (cond a (e ∷ filter (ties less (entry_at q)) es) (filter (ties less (entry_at q)) es))
    by i true true h = refl
    by i true false h = absurd (cc)
    by i false true h = absurd (cc)
    by i false false h = i

-- a stable sort keeps which is the first
at_sorted : (q : Place) (old new : List Setting) → IsStable by_place old new → at q new ≡ at q old
at_sorted q old new stable = at_first q new ∙ ap first_of (stable (entry_at q)) ∙ sym (at_first q old)

abbrev pub map_of_entries : List Setting → Map
map_of_entries es = from_entries (map entry_of (map assignment_of es))

pub same_at : (xs ys : List Setting) → ((q : Place) → at q xs ≡ at q ys) → map_of_entries xs ≡ map_of_entries ys
same_at xs ys h = same_map place_total equal_place _ _ (λ q. get-from_entries place_total _ q ∙ h q ∙ sym (get-from_entries place_total _ q))

reversed : (es : List Setting) → map assignment_of (reverse es) ≡ reverse (map assignment_of es)
reversed [] = refl
reversed (e ∷ es) =
    ap (map assignment_of) (reverse-append (e ∷ []) es) ∙ mapped (reverse es) ∙ ap (λ l. l ++ assignment_of e ∷ []) (reversed es) ∙ sym (reverse-append (assignment_of e ∷ []) (map assignment_of es))
  where
    mapped : (xs : List Setting) → map assignment_of (xs ++ e ∷ []) ≡ map assignment_of xs ++ assignment_of e ∷ []
    mapped [] = refl
    mapped (x ∷ xs) = ap (λ l. assignment_of x ∷ l) (mapped xs)

pub to_all : {A : Type 0} (P : A → Type 0) (xs : List A) → AllByRecursion P xs → All P xs
to_all P [] a k d lt = absurd (omega (arith, lt))
to_all P (x ∷ xs) a zero d lt = a.0
to_all P (x ∷ xs) a (suc k) d lt = to_all P xs a.1 k d (omega (arith, lt))

pub from_all : {A : Type 0} (P : A → Type 0) (xs : List A) → All P xs → AllByRecursion P xs
from_all P [] a = tt
from_all P (x ∷ xs) a = (a 0 x (omega arith), from_all P xs (λ k d lt. a (suc k) d (omega (arith, lt))))

-- what reversing, sorting and leaving out leave
module _ (all back sorted new : List Setting) (turned : back ≡ reverse all) (moved : IsPermutation back sorted)
    (up : IsSorted by_place sorted) (stable : IsStable by_place back sorted) (left : new ≡ dedup (eq_by_cmp by_place) sorted) where
  pub last_ascend : IsStrictlySortedBy by_place new
  last_ascend = subst (IsStrictlySortedBy by_place) (sym left) (IsStrictlySortedBy-dedup by_place_total (λ x y. refl) sorted up)

  pub last_same : map_of_entries new ≡ surviving (map assignment_of all)
  last_same =
      ap map_of_entries left
      ∙ same_at (dedup (eq_by_cmp by_place) sorted) back (λ q. at_deduped q sorted ∙ at_sorted q back sorted stable)
      ∙ ap map_of_entries turned
      ∙ ap (λ l. from_entries (map entry_of l)) (reversed all)

  pub last_storable : AllByRecursion IsStorableEntry all → AllByRecursion IsStorableEntry new
  last_storable a =
      let r : All IsStorableEntry back = subst (All IsStorableEntry) (sym turned) (to_all IsStorableEntry (reverse all) (turned_all all a)) in
      subst (AllByRecursion IsStorableEntry) (sym left) (from_all IsStorableEntry _ (All-dedup (eq_by_cmp by_place) IsStorableEntry sorted (All-permutation IsStorableEntry back sorted moved r)))
    where
      behind : (xs : List Setting) (x : Setting) → AllByRecursion IsStorableEntry xs → IsStorableEntry x → AllByRecursion IsStorableEntry (xs ++ x ∷ [])
      behind [] x a s = (s, tt)
      behind (y ∷ xs) x a s = (a.0, behind xs x a.1 s)

      turned_all : (xs : List Setting) → AllByRecursion IsStorableEntry xs → AllByRecursion IsStorableEntry (reverse xs)
      turned_all [] a = tt
      turned_all (x ∷ xs) a = subst (AllByRecursion IsStorableEntry) (sym (reverse-append (x ∷ []) xs)) (behind (reverse xs) x (turned_all xs a.1) a.0)
