-- Which assignments a later one replaced, from the last to the first.
use Rattle.std.proofs.Common.{◌≡◌, ◌∙◌, ap, sym, refl, subst, ℕ, ◌+◌, ◌<◌, Bool, true, false, List, [], ◌∷◌, ◌++◌, drop, length, map, get_or, reverse, cond, arith, Option, None, Some}
use Rattle.std.specs.List.{list_any}
use Rattle.std.specs.List.Sorted.{IsPermutation}
use Rattle.std.specs.Prelude.{find, if◌then◌else◌, is_some, option_map, ◌||◌}
use Rattle.std.specs.Borrow.{Bor}
use Rattle.std.specs.BTreeMap.{get_by, is_at}
use Rattle.std.specs.Cmp.Lexicographic.{slice_cmp}
use Rattle.std.specs.Map.{lookup}
use Rattle.std.specs.Option.{option_or}
use Rattle.std.specs.Ordering.{is_eq, nat_cmp, ordering_then}
use Rattle.std.specs.declared.cmp.Ordering.{Ordering}
use Rattle.std.specs.declared.cmp.Ordering.TheVariants.{Less, Equal, Greater}
use Rattle.std.proofs.lemmas.Cmp.{nat_list_cmp_total}
use Rattle.std.proofs.lemmas.List.{drop_all, drop_more, map-append, reverse-append}
use Rattle.std.proofs.lemmas.List.Folds.{find-append}
use Rattle.std.proofs.lemmas.List.Sorted.{IsPermutation-cons, IsPermutation-middle, IsPermutation-refl, IsPermutation-trans}
use Rattle.hwdb_spec.specs.Answers.{is_same_place, last_of_each}
use Rattle.hwdb_spec.specs.Assignment.{Assignment}
use Rattle.hwdb_spec.specs.Folders.{same}
use Rattle.hwdb_spec.specs.Lemmas.Orders.{same_text, turned}
use Rattle.hwdb_spec_commands.specs.Replacements.{Replacement, last_like, replaced_by, replacements}
use Rattle.hwdb_near.specs.Internal.Places.{AreLastOf, AreTaken, Last, Takes, last_at}
use Rattle.hwdb_near.specs.Views.{assignment_of, replacement_of}
use Rattle.hwdb_near.specs.declared.replacements.Replaced.{Replaced}
use Rattle.hwdb_near.specs.declared.wanted.FileAssignment.{FileAssignment}

-- ---- the last of some assignments with a pattern and a key

same_turned : (m n : List ℕ) → same m n ≡ same n m
same_turned m n = sym (turned (slice_cmp nat_cmp m n)) ∙ sym (ap is_eq (nat_list_cmp_total.antisymm n m))

left : (a b : Bool) → cond a b false ≡ true → a ≡ true
left true b e = refl
left false b e = cc

right : (a b : Bool) → cond a b false ≡ true → b ≡ true
right true b e = e
right false b e = cc

equal_pair : (a b : Ordering) → is_eq (ordering_then a b) ≡ cond (is_eq a) (is_eq b) false
equal_pair Less b = refl
equal_pair Equal b = refl
equal_pair Greater b = refl

-- one more before them
pub like_more : (b a : Assignment) (all : List Assignment) → last_like b (a ∷ all) ≡ option_or (last_like b all) (cond (is_same_place b a) (Some a) None)
like_more b a all = ap (find (is_same_place b)) (reverse-append (a ∷ []) all) ∙ find-append (is_same_place b) (reverse all) (a ∷ [])

kept_or : {A : Type 0} (x : A) (o p : Option A) → o ≡ Some x → option_or o p ≡ o
kept_or x o p e = ap (λ q. option_or q p) e ∙ sym e

none_or : {A : Type 0} (o p : Option A) → o ≡ None → option_or o p ≡ p
none_or o p e = ap (λ q. option_or q p) e

or_none : {A : Type 0} (o : Option A) → option_or o None ≡ o
or_none None = refl
or_none (Some x) = refl

-- what a map has with the pattern and key of an assignment it has with those of one like it
like_at : (last : Last) (b a : Assignment) → is_same_place b a ≡ true → last_at last b ≡ last_at last a
like_at last b a e =
    let p = same_text b.position.pattern a.position.pattern (left (same b.position.pattern a.position.pattern) (same b.position.key a.position.key) e) in
    let k = same_text b.position.key a.position.key (right (same b.position.pattern a.position.pattern) (same b.position.key a.position.key) e) in
    ap (λ (x : List ℕ). option_map assignment_of (get_by (λ q. ordering_then (slice_cmp nat_cmp x q.0.now) (slice_cmp nat_cmp b.position.key q.1.now)) last)) p
    ∙ ap (λ (x : List ℕ). option_map assignment_of (get_by (λ q. ordering_then (slice_cmp nat_cmp a.position.pattern q.0.now) (slice_cmp nat_cmp x q.1.now)) last)) k

-- ---- one more assignment

last_first : (pairs : List Replaced) (r : Replaced) → reverse (map replacement_of (pairs ++ r ∷ [])) ≡ replacement_of r ∷ reverse (map replacement_of pairs)
last_first pairs r = ap reverse (map-append replacement_of pairs (r ∷ [])) ∙ reverse-append (map replacement_of pairs) (replacement_of r ∷ [])

-- a later one has its pattern and its key
pub taken_replaced : (last : Last) (pairs pairs_now : List Replaced) (w new : FileAssignment) → last_at last (assignment_of w) ≡ Some (assignment_of new)
    → pairs_now ≡ pairs ++ record { old = w; new = new } ∷ [] → Takes last pairs w last pairs_now
unfolding replacements
taken_replaced last pairs pairs_now w new at now all taken = record { lasts = lasts; replaced = replaced }
  where
    a : Assignment
    a = assignment_of w

    lasts : AreLastOf (a ∷ all) last
    lasts b = taken.lasts b ∙ by (is_same_place b a) refl ∙ sym (like_more b a all)
      where
        by : (t : Bool) → is_same_place b a ≡ t → last_like b all ≡ option_or (last_like b all) (cond (is_same_place b a) (Some a) None)
        by true e = sym (kept_or (assignment_of new) (last_like b all) _ (sym (taken.lasts b) ∙ like_at last b a e ∙ at))
        by false e = sym (ap (λ (t : Bool). option_or (last_like b all) (cond t (Some a) None)) e ∙ or_none (last_like b all))

    replaced : reverse (map replacement_of pairs_now) ≡ replacements (a ∷ all)
    replaced =
        ap (λ (l : List Replaced). reverse (map replacement_of l)) now ∙ last_first pairs (record { old = w; new = new })
        ∙ ap (λ l. replacement_of (record { old = w; new = new }) ∷ l) taken.replaced
        ∙ ap (λ o. replaced_by a o ++ replacements all) (sym at ∙ taken.lasts a)

-- none has
pub taken_last : (last last_now : Last) (pairs : List Replaced) (w : FileAssignment) → last_at last (assignment_of w) ≡ None
    → ((q : Bor (List ℕ) × Bor (List ℕ)) → get_by (λ k. ordering_then (slice_cmp nat_cmp q.0.now k.0.now) (slice_cmp nat_cmp q.1.now k.1.now)) last_now
    ≡ cond (is_eq (ordering_then (slice_cmp nat_cmp w.given.pattern.now q.0.now) (slice_cmp nat_cmp w.given.key.now q.1.now))) (Some w)
    (get_by (λ k. ordering_then (slice_cmp nat_cmp q.0.now k.0.now) (slice_cmp nat_cmp q.1.now k.1.now)) last))
    → Takes last pairs w last_now pairs
unfolding replacements
taken_last last last_now pairs w at put all taken = record { lasts = lasts; replaced = replaced }
  where
    a : Assignment
    a = assignment_of w

    text : List ℕ → Bor (List ℕ)
    text bytes = record { ref_ptr = (0, 0); now = bytes }

    test : (b : Assignment) → is_eq (ordering_then (slice_cmp nat_cmp a.position.pattern b.position.pattern) (slice_cmp nat_cmp a.position.key b.position.key)) ≡ is_same_place b a
    test b =
        equal_pair (slice_cmp nat_cmp a.position.pattern b.position.pattern) (slice_cmp nat_cmp a.position.key b.position.key)
        ∙ ap (λ (t : Bool). cond t (same a.position.key b.position.key) false) (same_turned a.position.pattern b.position.pattern)
        ∙ ap (λ (t : Bool). cond (same b.position.pattern a.position.pattern) t false) (same_turned a.position.key b.position.key)

    now_at : (b : Assignment) → last_at last_now b ≡ option_map assignment_of (cond (is_same_place b a) (Some w) (get_by (λ q. ordering_then (slice_cmp nat_cmp b.position.pattern q.0.now) (slice_cmp nat_cmp b.position.key q.1.now)) last))
    now_at b =
        ap (option_map assignment_of) (put (text b.position.pattern, text b.position.key))
        ∙ ap (λ (t : Bool). option_map assignment_of (cond t (Some w) (get_by (λ q. ordering_then (slice_cmp nat_cmp b.position.pattern q.0.now) (slice_cmp nat_cmp b.position.key q.1.now)) last))) (test b)

    lasts : AreLastOf (a ∷ all) last_now
    lasts b = now_at b ∙ by (is_same_place b a) refl ∙ sym (like_more b a all)
      where
        by : (t : Bool) → is_same_place b a ≡ t
            → option_map assignment_of (cond (is_same_place b a) (Some w) (get_by (λ q. ordering_then (slice_cmp nat_cmp b.position.pattern q.0.now) (slice_cmp nat_cmp b.position.key q.1.now)) last))
            ≡ option_or (last_like b all) (cond (is_same_place b a) (Some a) None)
        by true e =
            ap (λ (t : Bool). option_map assignment_of (cond t (Some w) (get_by (λ q. ordering_then (slice_cmp nat_cmp b.position.pattern q.0.now) (slice_cmp nat_cmp b.position.key q.1.now)) last))) e
            ∙ sym (none_or (last_like b all) (cond (is_same_place b a) (Some a) None) (sym (taken.lasts b) ∙ like_at last b a e ∙ at) ∙ ap (λ (t : Bool). cond t (Some a) None) e)
        by false e =
            ap (λ (t : Bool). option_map assignment_of (cond t (Some w) (get_by (λ q. ordering_then (slice_cmp nat_cmp b.position.pattern q.0.now) (slice_cmp nat_cmp b.position.key q.1.now)) last))) e
            ∙ taken.lasts b
            ∙ sym (ap (λ (t : Bool). option_or (last_like b all) (cond t (Some a) None)) e ∙ or_none (last_like b all))

    replaced : reverse (map replacement_of pairs) ≡ replacements (a ∷ all)
    replaced = taken.replaced ∙ ap (λ o. replaced_by a o ++ replacements all) (sym at ∙ taken.lasts a)

-- none so far
pub taken_none : (last : Last) (pairs : List Replaced) (all : List FileAssignment) → last.entries ≡ [] → pairs ≡ [] → AreTaken (map assignment_of (drop (length all) all)) last pairs
unfolding replacements
taken_none last pairs all none empty =
    subst (λ (l : List FileAssignment). AreTaken (map assignment_of l) last pairs) (sym (drop_all (length all) all (omega arith)))
    record {
      lasts = λ b. ap (λ (e : List ((Bor (List ℕ) × Bor (List ℕ)) × FileAssignment)). option_map assignment_of (lookup (is_at (λ (q : Bor (List ℕ) × Bor (List ℕ)). ordering_then (slice_cmp nat_cmp b.position.pattern q.0.now) (slice_cmp nat_cmp b.position.key q.1.now))) e)) none;
      replaced = ap (λ (l : List Replaced). reverse (map replacement_of l)) empty;
    }

-- one step on
pub taken_step : (all : List FileAssignment) (i : ℕ) (d w : FileAssignment) (last last_now : Last) (pairs pairs_now : List Replaced) → i < length all → w ≡ get_or all i d
    → AreTaken (map assignment_of (drop (i + 1) all)) last pairs → Takes last pairs w last_now pairs_now → AreTaken (map assignment_of (drop i all)) last_now pairs_now
taken_step all i d w last last_now pairs pairs_now h is taken takes =
    subst (λ (l : List FileAssignment). AreTaken (map assignment_of l) last_now pairs_now) (sym (drop_more all i d h))
    (subst (λ (x : FileAssignment). AreTaken (assignment_of x ∷ map assignment_of (drop (i + 1) all)) last_now pairs_now) is (takes (map assignment_of (drop (i + 1) all)) taken))

-- ---- those that count, and those that were replaced

any_found : {A : Type 0} (p : A → Bool) (xs : List A) → is_some (find p (reverse xs)) ≡ list_any p xs
any_found p [] = refl
any_found p (x ∷ xs) =
    ap is_some (ap (find p) (reverse-append (x ∷ []) xs) ∙ find-append p (reverse xs) (x ∷ []))
    ∙ by (find p (reverse xs)) (p x)
    ∙ ap (λ (t : Bool). p x || t) (any_found p xs)
  where
    by : (o : Option _) (t : Bool) → is_some (option_or o (cond t (Some x) None)) ≡ (t || is_some o)
    by None true = refl
    by None false = refl
    by (Some y) true = refl
    by (Some y) false = refl

abbrev old_of : List Replacement → List Assignment
old_of rs = map (λ (r : Replacement). r.old) rs

pub last_and_replaced : (all : List Assignment) → IsPermutation (last_of_each all ++ map (λ (r : Replacement). r.old) (replacements all)) all
unfolding last_of_each replacements
last_and_replaced [] = IsPermutation-refl []
last_and_replaced (a ∷ more) = by (IsPermutation-cons a (last_of_each more ++ map (λ (r : Replacement). r.old) (replacements more)) more (last_and_replaced more)) (last_like a more) refl
  where
    last : List Assignment
    last = last_of_each more

    rest : List Replacement
    rest = replacements more

    parts : Bool → Option Assignment → List Assignment
    parts t o = (if t then last else a ∷ last) ++ old_of (replaced_by a o ++ rest)

    by : IsPermutation (a ∷ (last ++ old_of rest)) (a ∷ more) → (o : Option Assignment) → last_like a more ≡ o → IsPermutation (parts (list_any (is_same_place a) more) (last_like a more)) (a ∷ more)
    by both None e =
        subst (λ (t : Bool). IsPermutation (parts t (last_like a more)) (a ∷ more)) (ap is_some (sym e) ∙ any_found (is_same_place a) more)
        (subst (λ (o : Option Assignment). IsPermutation (parts false o) (a ∷ more)) (sym e) both)
    by both (Some b) e =
        subst (λ (t : Bool). IsPermutation (parts t (last_like a more)) (a ∷ more)) (ap is_some (sym e) ∙ any_found (is_same_place a) more)
        (subst (λ (o : Option Assignment). IsPermutation (parts true o) (a ∷ more)) (sym e)
        (IsPermutation-trans (last ++ a ∷ old_of rest) (a ∷ (last ++ old_of rest)) (a ∷ more) (IsPermutation-middle last a (old_of rest)) both))
