-- Which properties a line is about, found by halving and by a set of keys.
use Rattle.std.proofs.Common.{◌≡◌, ◌∙◌, ◌<◌, ◌≤◌, ◌+◌, ◌++◌, ap, arith, sym, refl, subst, ℕ, zero, suc, Bool, true, false, cond, not, List, [], ◌∷◌, drop, get_or, length, map, take, ◌||◌, Result, Err}
use Rattle.std.specs.Prelude.{filter, slice_index_or}
use Rattle.std.specs.Borrow.{Bor}
use Rattle.std.specs.BTreeSet.{BTreeSet, contains}
use Rattle.std.specs.List.{AllByRecursion, HoldsAt, list_any}
use Rattle.std.specs.List.Sorted.{IsBinarySearchResult, IsPartitionPoint, IsSearchInRange, IsSortedBy, IsStrictlySortedBy}
use Rattle.std.specs.Ordering.{is_eq, is_lt, nat_cmp, ordering_reverse}
use Rattle.std.specs.Cmp.Lexicographic.{slice_cmp}
use Rattle.std.specs.declared.cmp.Ordering.{Ordering}
use Rattle.std.specs.declared.cmp.Ordering.TheVariants.{Less, Equal, Greater}
use Rattle.std.proofs.Math.Seq.{drop-cons}
use Rattle.std.proofs.lemmas.Cmp.{nat_list_cmp_total}
use Rattle.std.proofs.lemmas.List.{map-append, take_more}
use Rattle.std.proofs.lemmas.List.Elements.{filter-append}
use Rattle.std.proofs.lemmas.List.Folds.{list_any-append}
use Rattle.std.proofs.lemmas.List.Sorted.{searchable_from_sorted}
use Rattle.hwdb_spec.specs.Answers.{effective_of, key_of_answer, last_value}
use Rattle.hwdb_spec.specs.Assignment.{Assignment, in_order, text_cmp}
use Rattle.hwdb_spec.specs.Folders.{same}
use Rattle.hwdb_spec.specs.Lemmas.Orders.{equal_text, turned}
use Rattle.hwdb_spec.specs.Lemmas.Truth.{or_one_more}
use Rattle.hwdb_spec.specs.Lines.{Line, has_equals, has_key, is_none, value}
use Rattle.hwdb_spec_commands.specs.Wanted.{GivenValue, about, holds, is_about, is_given, names, wanted_key, wants_no_others, wants_value}
use Rattle.hwdb_text.specs.Lemmas.Members.{in_order_rises}
use Rattle.hwdb_test.specs.Internal.{AreNamed, AscendByKey, has_text, holds_by, unnamed}
use Rattle.hwdb_test.specs.Views.{given_at, line_at, pair_at, pair_of}
use Rattle.hwdb_test.specs.declared.given_values.GivenValue.{GivenValue as Found}
use Rattle.hwdb_test.specs.declared.wanted_lines.WantedLine.{WantedLine}

abbrev key_of : Found → List ℕ
key_of g = g.key.now

-- whether a property has a key
abbrev has_it : List ℕ → GivenValue → Bool
has_it k g = same g.key k

-- ---- the one with a key

-- a key below another isn't that one, and neither is one above it
below_differs : (x y k : List ℕ) → text_cmp x y ≡ Less → text_cmp y k ≡ Equal → same x k ≡ false
below_differs x y k less e = ap is_eq (subst (λ (z : List ℕ). text_cmp x z ≡ Less) (equal_text y k e) less)

above_differs : (x y k : List ℕ) → text_cmp x y ≡ Less → text_cmp x k ≡ Equal → same y k ≡ false
above_differs x y k less e =
    let below : text_cmp k y ≡ Less = subst (λ (z : List ℕ). text_cmp z y ≡ Less) (equal_text x k e) less in
    ap is_eq (nat_list_cmp_total.antisymm y k ∙ ap ordering_reverse below)

none_with : (k : List ℕ) (xs : List Found) → AllByRecursion (λ g. same (key_of g) k ≡ false) xs → filter (has_it k) (map given_at xs) ≡ []
none_with k [] h = refl
none_with k (x ∷ xs) h =
    ap (λ (t : Bool). cond t (given_at x ∷ filter (has_it k) (map given_at xs)) (filter (has_it k) (map given_at xs))) h.0 ∙ none_with k xs h.1

all_above : (x k : List ℕ) (xs : List Found) → text_cmp x k ≡ Equal → AllByRecursion (λ y. text_cmp x y ≡ Less) (map key_of xs) → AllByRecursion (λ g. same (key_of g) k ≡ false) xs
all_above x k [] e h = tt
all_above x k (y ∷ ys) e h = (above_differs x (key_of y) k h.0 e, all_above x k ys e h.1)

reach : (x k : List ℕ) (xs : List Found) (i : ℕ) → i < length xs → AllByRecursion (λ y. text_cmp x y ≡ Less) (map key_of xs)
    → HoldsAt (λ g. text_cmp (key_of g) k ≡ Equal) xs i → same x k ≡ false
reach x k [] i lt all at = absurd (omega arith)
reach x k (y ∷ ys) zero lt all at = below_differs x (key_of y) k all.0 (at y)
reach x k (y ∷ ys) (suc i) lt all at = reach x k ys i (omega arith) all.1 (λ d. at d)

one_with : (k : List ℕ) (xs : List Found) (i : ℕ) (d : Found) → i < length xs → AscendByKey xs → HoldsAt (λ g. text_cmp (key_of g) k ≡ Equal) xs i
    → filter (has_it k) (map given_at xs) ≡ given_at (get_or xs i d) ∷ []
unfolding IsStrictlySortedBy
one_with k [] i d lt up at = absurd (omega arith)
one_with k (x ∷ xs) zero d lt up at =
    ap (λ (t : Bool). cond t (given_at x ∷ filter (has_it k) (map given_at xs)) (filter (has_it k) (map given_at xs))) (ap is_eq (at x))
    ∙ ap (λ (l : List GivenValue). given_at x ∷ l) (none_with k xs (all_above (key_of x) k xs (at x) up.0))
one_with k (x ∷ xs) (suc i) d lt up at =
    ap (λ (t : Bool). cond t (given_at x ∷ filter (has_it k) (map given_at xs)) (filter (has_it k) (map given_at xs)))
    (reach (key_of x) k xs i (omega arith) up.0 (λ d. at d))
    ∙ one_with k xs i d (omega arith) up.1 (λ d. at d)

take_none : (xs : List Found) → take 0 xs ≡ []
take_none [] = refl
take_none (x ∷ xs) = refl

pub found_with : (k : List ℕ) (xs rest one : List Found) (i : ℕ) → i < length xs → AscendByKey xs → HoldsAt (λ g. text_cmp (key_of g) k ≡ Equal) xs i
    → rest ≡ drop i xs → one ≡ take 1 rest → map given_at one ≡ filter (has_it k) (map given_at xs)
found_with k [] rest one i lt up at r o = absurd (omega arith)
found_with k (x ∷ xs) rest one i lt up at r o =
    ap (map given_at) (o ∙ ap (take 1) (r ∙ drop-cons (x ∷ xs) i x lt) ∙ ap (λ (l : List Found). get_or (x ∷ xs) i x ∷ l) (take_none (drop (suc i) (x ∷ xs))))
    ∙ sym (one_with k (x ∷ xs) i x lt up at)

-- properties that ascend are sorted
sorted : (xs : List Found) → AscendByKey xs → IsSortedBy (λ a b. is_lt (text_cmp (key_of a) (key_of b))) xs
unfolding IsStrictlySortedBy
sorted [] up k d le lt = absurd (omega arith)
sorted (x ∷ []) up k d le lt = absurd (omega arith)
sorted (x ∷ y ∷ xs) up zero d le lt = ap is_lt (nat_list_cmp_total.antisymm (key_of y) (key_of x) ∙ ap ordering_reverse up.0.0)
sorted (x ∷ y ∷ xs) up (suc k) d le lt =
    let P : ℕ → Type 0 = λ m. is_lt (text_cmp (key_of (slice_index_or (x ∷ y ∷ xs) m d)) (key_of (slice_index_or (x ∷ y ∷ xs) (suc k) d))) ≡ false in
    let next : suc (k + 1) ≡ suc k + 1 = omega arith in
    subst P next (sorted (y ∷ xs) up.1 k d (omega arith) (omega arith))

none_between : (k : List ℕ) (xs : List Found) (i : ℕ) → i ≤ length xs
    → IsPartitionPoint (λ g. text_cmp (key_of g) k ≡ Less) (λ g. text_cmp (key_of g) k ≡ Greater) xs i → AllByRecursion (λ g. same (key_of g) k ≡ false) xs
none_between k [] i le parted = tt
none_between k (x ∷ xs) zero le parted = (
  ap is_eq (parted.1 0 x (omega arith) (omega arith)),
  none_between k xs zero (omega arith) ((λ n d from lt. absurd (omega (arith, lt))), λ n d from lt. parted.1 (suc n) d (omega arith) (omega (arith, lt))),
)
none_between k (x ∷ xs) (suc i) le parted = (
  ap is_eq (parted.0 0 x (omega arith) (omega arith)),
  none_between k xs i (omega arith)
      ((λ n d from lt. parted.0 (suc n) d (omega arith) (omega (arith, lt))), λ n d from lt. parted.1 (suc n) d (omega (arith, from)) (omega (arith, lt))),
)

pub absent_with : (k : List ℕ) (xs : List Found) (i : ℕ) (r : Result ℕ ℕ) → AscendByKey xs → r ≡ Err i → IsSearchInRange r (length xs)
    → IsBinarySearchResult (λ g. text_cmp (key_of g) k) xs r → [] ≡ filter (has_it k) (map given_at xs)
absent_with k xs i r up is range result =
    sym (none_with k xs
    (none_between k xs i (subst (λ q. IsSearchInRange q (length xs)) is range)
    (subst (IsBinarySearchResult (λ g. text_cmp (key_of g) k) xs) is result (searchable_from_sorted nat_list_cmp_total key_of xs k (sorted xs up)))))

-- ---- the keys of a device ascend

keys_of : (found : List Found) → map key_of found ≡ map (λ (p : List ℕ × List ℕ). p.0) (map pair_at found)
keys_of [] = refl
keys_of (g ∷ more) = ap (λ (l : List (List ℕ)). key_of g ∷ l) (keys_of more)

firsts : (f : List ℕ → List ℕ) (ks : List (List ℕ)) → map (λ (p : List ℕ × List ℕ). p.0) (map (λ (k : List ℕ). (k, f k)) ks) ≡ ks
firsts f [] = refl
firsts f (k ∷ ks) = ap (λ (l : List (List ℕ)). k ∷ l) (firsts f ks)

pub ascending_found : (answers : List Assignment) (found : List Found) → map pair_at found ≡ effective_of answers → AscendByKey found
unfolding effective_of
ascending_found answers found is =
    subst (IsStrictlySortedBy text_cmp)
    (sym (keys_of found ∙ ap (map (λ (p : List ℕ × List ℕ). p.0)) is ∙ firsts (last_value answers) (in_order text_cmp (map key_of_answer answers))))
    (in_order_rises text_cmp nat_list_cmp_total (map key_of_answer answers))

-- ---- the keys that lines name

same_turned : (m n : List ℕ) → same m n ≡ same n m
same_turned m n = sym (turned (slice_cmp nat_cmp m n)) ∙ sym (ap is_eq (nat_list_cmp_total.antisymm n m))

somewhere : List ℕ → Bor (List ℕ)
somewhere text = record { ref_ptr = (0, 0); now = text }

abbrev by_text : Bor (List ℕ) → Bor (List ℕ) → Ordering
by_text p q = slice_cmp nat_cmp p.now q.now

pub no_names : (keys : BTreeSet (Bor (List ℕ))) → keys.keys ≡ [] → AreNamed [] keys
no_names keys e = λ k. ap (list_any (λ q. is_eq (text_cmp k q.now))) e

pub names_step : (all : List WantedLine) (i : ℕ) (d : WantedLine) (key : Bor (List ℕ)) (old new : BTreeSet (Bor (List ℕ))) → i < length all
    → key.now ≡ wanted_key (line_at (get_or all i d))
    → ((q : Bor (List ℕ)) → contains by_text new q ≡ cond (is_eq (by_text key q)) true (contains by_text old q))
    → AreNamed (map line_at (take i all)) old → AreNamed (map line_at (take (i + 1) all)) new
unfolding somewhere
names_step all i d key old new h is put so_far = λ k.
    let l = line_at (get_or all i d) in
    put (somewhere k)
    ∙ ap (λ (t : Bool). cond t true (has_text old k)) (same_turned key.now k ∙ ap (same k) is)
    ∙ or_one_more (names k l) (has_text old k) (list_any (names k) (map line_at (take i all))) (so_far k)
    ∙ sym (ap (list_any (names k)) (ap (map line_at) (take_more all i d h) ∙ map-append line_at (take i all) (get_or all i d ∷ []))
    ∙ list_any-append (names k) (map line_at (take i all)) (l ∷ []))

pub unnamed_is : (all : List Line) (keys : BTreeSet (Bor (List ℕ))) (gs : List GivenValue) → AreNamed all keys → filter (λ g. not (has_text keys g.key)) gs ≡ unnamed all gs
unnamed_is all keys [] are = refl
unnamed_is all keys (g ∷ gs) are =
    ap (λ (t : Bool). cond (not t) (g ∷ filter (λ g. not (has_text keys g.key)) gs) (filter (λ g. not (has_text keys g.key)) gs)) (are g.key)
    ∙ ap (λ (l : List GivenValue). cond (not (list_any (names g.key) all)) (g ∷ l) l) (unnamed_is all keys gs are)

-- one property more is added, if its key isn't one of the set's
pub without_step : (keys : BTreeSet (Bor (List ℕ))) (xs : List Found) (i : ℕ) (d : Found) (old new : List GivenValue) → i < length xs
    → new ≡ old ++ filter (λ g. not (has_text keys g.key)) (given_at (get_or xs i d) ∷ []) → old ≡ filter (λ g. not (has_text keys g.key)) (map given_at (take i xs))
    → new ≡ filter (λ g. not (has_text keys g.key)) (map given_at (take (i + 1) xs))
without_step keys xs i d old new h pushed so_far =
    let kept : GivenValue → Bool = λ g. not (has_text keys g.key) in
    let last = given_at (get_or xs i d) in
    pushed
    ∙ ap (λ (l : List GivenValue). l ++ filter kept (last ∷ [])) so_far
    ∙ sym (ap (filter kept) (ap (map given_at) (take_more xs i d h) ∙ map-append given_at (take i xs) (get_or xs i d ∷ []))
    ∙ filter-append kept (map given_at (take i xs)) (last ∷ []))

-- ---- what a line is about

pub about_others : (all : List Line) (found : List GivenValue) (l : Line) → wants_no_others l ≡ true → unnamed all found ≡ about all found l
about_others all found l e = sym (ap (λ (t : Bool). filter (λ g. cond t (not (list_any (names g.key) all)) (names g.key l)) found) e)

pub about_one : (all : List Line) (found : List GivenValue) (l : Line) → wants_no_others l ≡ false → filter (has_it (wanted_key l)) found ≡ about all found l
about_one all found l e = sym (ap (λ (t : Bool). filter (λ g. cond t (not (list_any (names g.key) all)) (names g.key l)) found) e)

-- ---- whether it holds

key_wanted : (e k : Bool) → cond e k false ≡ true → cond e (not k) false ≡ false
key_wanted true true h = refl
key_wanted true false h = cc
key_wanted false k h = refl

-- a line that wants a value is `KEY=VALUE`, and so isn't `=`
not_others : (l : Line) → wants_value l ≡ true → wants_no_others l ≡ false
not_others l e = key_wanted (has_equals l) (has_key l) e

abbrev pairs_about : (all : List Line) (l : Line) → List GivenValue → List (List ℕ × List ℕ)
pairs_about all l gs = map pair_of (about all gs l)

given_among : (all : List Line) (l : Line) (gs : List GivenValue) → wants_no_others l ≡ false → list_any (is_given l) (pairs_about all l gs) ≡ list_any (is_given l) (map pair_of gs)
given_among all l [] e = refl
given_among all l (g ∷ gs) e = by (given_among all l gs e) (names g.key l) refl
  where
    named : is_about all l g.key ≡ names g.key l
    named = ap (λ (t : Bool). cond t (not (list_any (names g.key) all)) (names g.key l)) e

    kept : (t : Bool) → List (List ℕ × List ℕ)
    kept t = map pair_of (cond t (g ∷ about all gs l) (about all gs l))

    by : list_any (is_given l) (pairs_about all l gs) ≡ list_any (is_given l) (map pair_of gs) → (t : Bool) → names g.key l ≡ t
        → list_any (is_given l) (kept (is_about all l g.key)) ≡ (is_given l (pair_of g) || list_any (is_given l) (map pair_of gs))
    by more true n =
        ap (λ (t : Bool). list_any (is_given l) (kept t)) (named ∙ n)
        ∙ ap (λ (t : Bool). is_given l (pair_of g) || t) more
    by more false n =
        ap (λ (t : Bool). list_any (is_given l) (kept t)) (named ∙ n)
        ∙ more
        ∙ sym (ap (λ (t : Bool). cond t (same g.value (value l)) false || list_any (is_given l) (map pair_of gs)) n)

none_among : (all : List Line) (l : Line) (gs : List GivenValue) → is_none (pairs_about all l gs) ≡ not (list_any (λ p. is_about all l p.0) (map pair_of gs))
none_among all l [] = refl
none_among all l (g ∷ gs) = by (none_among all l gs) (is_about all l g.key)
  where
    by : is_none (pairs_about all l gs) ≡ not (list_any (λ (p : List ℕ × List ℕ). is_about all l p.0) (map pair_of gs)) → (t : Bool)
        → is_none (map pair_of (cond t (g ∷ about all gs l) (about all gs l))) ≡ not (t || list_any (λ (p : List ℕ × List ℕ). is_about all l p.0) (map pair_of gs))
    by more true = refl
    by more false = more

holds_pairs : (all : List Line) (l : Line) (gs : List GivenValue) → holds_by l (pairs_about all l gs) ≡ holds all (map pair_of gs) l
holds_pairs all l gs = by (wants_value l) refl
  where
    by : (t : Bool) → wants_value l ≡ t
        → cond (wants_value l) (list_any (is_given l) (pairs_about all l gs)) (is_none (pairs_about all l gs))
        ≡ cond (wants_value l) (list_any (is_given l) (map pair_of gs)) (not (list_any (λ (p : List ℕ × List ℕ). is_about all l p.0) (map pair_of gs)))
    by true e =
        ap (λ (b : Bool). cond (wants_value l) b (is_none (pairs_about all l gs))) (given_among all l gs (not_others l e))
        ∙ ap (λ (t : Bool). cond t (list_any (is_given l) (map pair_of gs)) (is_none (pairs_about all l gs))) e
        ∙ sym (ap (λ (t : Bool). cond t (list_any (is_given l) (map pair_of gs)) (not (list_any (λ (p : List ℕ × List ℕ). is_about all l p.0) (map pair_of gs)))) e)
    by false e =
        ap (λ (t : Bool). cond t (list_any (is_given l) (pairs_about all l gs)) (is_none (pairs_about all l gs))) e
        ∙ none_among all l gs
        ∙ sym (ap (λ (t : Bool). cond t (list_any (is_given l) (map pair_of gs)) (not (list_any (λ (p : List ℕ × List ℕ). is_about all l p.0) (map pair_of gs)))) e)

pairs_of : (found : List Found) → map pair_at found ≡ map pair_of (map given_at found)
pairs_of [] = refl
pairs_of (g ∷ more) = ap (λ (l : List (List ℕ × List ℕ)). pair_at g ∷ l) (pairs_of more)

-- a line holds of the properties of a device if it holds by those that it is about
pub holds_is : (all : List Line) (found these : List Found) (l : Line) → map given_at these ≡ about all (map given_at found) l → holds_by l (map pair_at these) ≡ holds all (map pair_at found) l
holds_is all found these l is =
    ap (holds_by l) (pairs_of these ∙ ap (map pair_of) is) ∙ holds_pairs all l (map given_at found) ∙ ap (λ (ps : List (List ℕ × List ℕ)). holds all ps l) (sym (pairs_of found))
