-- The lines of the assignments that pass a test, and sets of them.
use Rattle.std.proofs.Common.{◌≡◌, ℕ, ◌+◌, ◌<◌, Bool, true, false, not, List, [], ◌∷◌, ◌++◌, map, take, length, get_or, refl, ap, ◌∙◌, sym, subst, cond, ◌||◌, ◌&&◌}
use Rattle.std.specs.Prelude.{filter}
use Rattle.std.specs.BTreeSet.{BTreeSet, contains}
use Rattle.std.specs.Borrow.{Bor}
use Rattle.std.specs.List.{list_all, list_any}
use Rattle.std.specs.Ordering.{is_eq, nat_cmp, ordering_then}
use Rattle.std.specs.declared.cmp.Ordering.{Ordering}
use Rattle.std.specs.Cmp.Lexicographic.{slice_cmp}
use Rattle.std.proofs.lemmas.Bool.{eqb-true}
use Rattle.std.proofs.lemmas.List.{map-append, take_more}
use Rattle.std.proofs.lemmas.List.Folds.{list_any-append}
use Rattle.hwdb_spec.specs.Assignment.{Assignment}
use Rattle.hwdb_spec.specs.Folders.{same}
use Rattle.hwdb_spec.specs.Lines.{byte, is, is_none, pieces}
use Rattle.hwdb_spec_commands.specs.Surroundings.{companions_text, is_alone, is_elsewhere, is_given}
use Rattle.hwdb_text.specs.declared.outcome.Given.{Given}
use Rattle.hwdb_text.specs.Views.{given_in}
use Rattle.hwdb_check.specs.Internal.{ArePlacesOf, IsSetOf, IsUnpairedOf, IsUnreadOf, has_companions, holds, is_read_there, lacks_of, lines_where, own}
use Rattle.hwdb_check.specs.declared.unread.UnreadLines.{UnreadLines}
use Rattle.hwdb_check.proofs.RaiseLemmas.{equal_pair}
use Rattle.hwdb_spec.specs.Lemmas.Truth.{or_one_more}

filter_append : (t : Assignment → Bool) (xs ys : List Assignment) → filter t (xs ++ ys) ≡ filter t xs ++ filter t ys
filter_append t [] ys = refl
filter_append t (x ∷ xs) ys = go (t x) (filter_append t xs ys)
  where
    go : (b : Bool) → filter t (xs ++ ys) ≡ filter t xs ++ filter t ys → cond b (x ∷ filter t (xs ++ ys)) (filter t (xs ++ ys)) ≡ cond b (x ∷ filter t xs) (filter t xs) ++ filter t ys
    go true h = ap (λ l. x ∷ l) h
    go false h = h

lines_append : (t : Assignment → Bool) (xs ys : List Assignment) → lines_where t (xs ++ ys) ≡ lines_where t xs ++ lines_where t ys
lines_append t xs ys = ap (map (λ a. a.position.line)) (filter_append t xs ys) ∙ map-append (λ a. a.position.line) (filter t xs) (filter t ys)

-- one assignment more
pub given_more : (all : List Given) (i : ℕ) (d : Given) → i < length all → map (given_in own) (take (i + 1) all) ≡ map (given_in own) (take i all) ++ given_in own (get_or all i d) ∷ []
given_more all i d h = ap (map (given_in own)) (take_more all i d h) ∙ map-append (given_in own) (take i all) (get_or all i d ∷ [])

pub lines_step : (t : Assignment → Bool) (all : List Given) (i : ℕ) (d : Given) (old new : List ℕ) → i < length all → new ≡ old ++ lines_where t (given_in own (get_or all i d) ∷ [])
    → old ≡ lines_where t (map (given_in own) (take i all)) → new ≡ lines_where t (map (given_in own) (take (i + 1) all))
lines_step t all i d old new h put so_far =
    put ∙ ap (λ l. l ++ lines_where t (given_in own (get_or all i d) ∷ [])) so_far
    ∙ sym (ap (lines_where t) (given_more all i d h) ∙ lines_append t (map (given_in own) (take i all)) (given_in own (get_or all i d) ∷ []))

abbrev own_of : ℕ → List Assignment → List Assignment
own_of n all = filter (λ a. is n a.position.line) all

-- a line is among them exactly if one of its assignments passes
in_lines : (t : Assignment → Bool) (all : List Assignment) (n : ℕ) → list_any (is n) (lines_where t all) ≡ list_any t (own_of n all)
in_lines t [] n = refl
in_lines t (x ∷ xs) n = go (t x) (is n x.position.line) refl refl (in_lines t xs n)
  where
    go : (b c : Bool) → t x ≡ b → is n x.position.line ≡ c → list_any (is n) (lines_where t xs) ≡ list_any t (own_of n xs)
        → list_any (is n) (map (λ a. a.position.line) (cond b (x ∷ filter t xs) (filter t xs))) ≡ list_any t (cond c (x ∷ own_of n xs) (own_of n xs))
    go true true e f h = ap (λ r. r || list_any (is n) (lines_where t xs)) f ∙ sym (ap (λ r. r || list_any t (own_of n xs)) e)
    go true false e f h = ap (λ r. r || list_any (is n) (lines_where t xs)) f ∙ h
    go false true e f h = h ∙ sym (ap (λ r. r || list_any t (own_of n xs)) e)
    go false false e f h = h

-- if a line is in the set, its assignments that aren't elsewhere are those that aren't
not_all : (elsewhere : BTreeSet ℕ) (n : ℕ) (all : List Assignment) → contains nat_cmp elsewhere n ≡ true
    → list_any (is_read_there elsewhere) (own_of n all) ≡ not (list_all is_elsewhere (own_of n all))
not_all elsewhere n [] e = refl
not_all elsewhere n (x ∷ xs) e = go (is n x.position.line) refl (not_all elsewhere n xs e)
  where
    or_not : (a b : Bool) → (not a || not b) ≡ not (a && b)
    or_not true b = refl
    or_not false b = refl

    there : is n x.position.line ≡ true → is_read_there elsewhere x ≡ not (is_elsewhere x)
    there f =
        ap (λ m. cond (contains nat_cmp elsewhere m) (not (is_elsewhere x)) false) (eqb-true x.position.line n f)
        ∙ ap (λ b. cond b (not (is_elsewhere x)) false) e

    go : (c : Bool) → is n x.position.line ≡ c → list_any (is_read_there elsewhere) (own_of n xs) ≡ not (list_all is_elsewhere (own_of n xs))
        → list_any (is_read_there elsewhere) (cond c (x ∷ own_of n xs) (own_of n xs)) ≡ not (list_all is_elsewhere (cond c (x ∷ own_of n xs) (own_of n xs)))
    go true f h =
        ap (λ b. b || list_any (is_read_there elsewhere) (own_of n xs)) (there f)
        ∙ ap (λ b. not (is_elsewhere x) || b) h
        ∙ or_not (is_elsewhere x) (list_all is_elsewhere (own_of n xs))
    go false f h = h

not_not : (b : Bool) → not (not b) ≡ b
not_not true = refl
not_not false = refl

-- some are, and all are
some_and_all : (t : Assignment → Bool) (xs : List Assignment) → cond (list_any t xs) (list_all t xs) false ≡ cond (is_none xs) false (list_all t xs)
some_and_all t [] = refl
some_and_all t (x ∷ xs) = go (t x)
  where
    go : (b : Bool) → cond (b || list_any t xs) (b && list_all t xs) false ≡ (b && list_all t xs)
    go true = refl
    go false = same_either (list_any t xs)
      where
        same_either : (c : Bool) → cond c false false ≡ false
        same_either true = refl
        same_either false = refl

by_first : (a r whole : Bool) → (a ≡ true → r ≡ not whole) → cond a (not r) false ≡ cond a whole false
by_first true r whole h = ap not (h refl) ∙ not_not whole
by_first false r whole h = refl

pub unread_is : (all : List Assignment) (u : UnreadLines) → IsSetOf (lines_where is_elsewhere all) u.elsewhere → IsSetOf (lines_where (is_read_there u.elsewhere) all) u.read → IsUnreadOf all u
unread_is all u one other = λ n.
    let a = contains nat_cmp u.elsewhere n in
    let in_first : a ≡ list_any is_elsewhere (own_of n all) = one n ∙ in_lines is_elsewhere all n in
    by_first a (contains nat_cmp u.read n) (list_all is_elsewhere (own_of n all))
    (λ e. other n ∙ in_lines (is_read_there u.elsewhere) all n ∙ not_all u.elsewhere n all e)
    ∙ ap (λ b. cond b (list_all is_elsewhere (own_of n all)) false) in_first
    ∙ some_and_all is_elsewhere (own_of n all)

-- a set of numbers, which are the same as others
pub set_is : (numbers others : List ℕ) (set : BTreeSet ℕ) → numbers ≡ others → IsSetOf numbers set → IsSetOf others set
set_is numbers others set e is = subst (λ (ns : List ℕ). IsSetOf ns set) e is

-- ---- companions

any_alike : {A : Type 0} (t u : A → Bool) → ((a : A) → t a ≡ u a) → (xs : List A) → list_any t xs ≡ list_any u xs
any_alike t u h [] = refl
any_alike t u h (x ∷ xs) = ap (λ b. b || list_any t xs) (h x) ∙ ap (λ b. u x || b) (any_alike t u h xs)

-- with the places of all the test by a set is the one by all
pub lacks_alike : (all : List Assignment) (places : BTreeSet (Bor (List ℕ) × Bor (List ℕ))) → ArePlacesOf all places → (a : Assignment)
    → lacks_of places a.position.pattern (companions_text a.position.key) ≡ is_alone all a
lacks_alike all places are a =
    any_alike (λ key. not (holds places a.position.pattern key)) (λ key. not (is_given all a.position.pattern key)) (λ key. ap not (are a.position.pattern key))
    (pieces (is (byte ",")) (companions_text a.position.key))

pub unpaired_is : (all : List Assignment) (places : BTreeSet (Bor (List ℕ) × Bor (List ℕ))) (set : BTreeSet ℕ) → ArePlacesOf all places
    → IsSetOf (lines_where (λ a. lacks_of places a.position.pattern (companions_text a.position.key)) all) set → IsUnpairedOf all set
unpaired_is all places set are is = λ n.
    is n
    ∙ in_lines (λ a. lacks_of places a.position.pattern (companions_text a.position.key)) all n
    ∙ any_alike (λ a. lacks_of places a.position.pattern (companions_text a.position.key)) (is_alone all) (lacks_alike all places are) (own_of n all)

-- no property has companions
no_keys : (all : List Assignment) (text pattern : List ℕ) → is_none text ≡ true → list_any (λ key. not (is_given all pattern key)) (pieces (is (byte ",")) text) ≡ false
unfolding pieces
no_keys all [] pattern e = refl
no_keys all (x ∷ text) pattern e = cc

none_alone : (all : List Assignment) (n : ℕ) (xs : List Assignment) → list_any has_companions xs ≡ false → list_any (is_alone all) (own_of n xs) ≡ false
none_alone all n [] e = refl
none_alone all n (x ∷ xs) e = go (is n x.position.line) (none_alone all n xs (later (has_companions x) e))
  where
    later : (b : Bool) → (b || list_any has_companions xs) ≡ false → list_any has_companions xs ≡ false
    later true f = cc
    later false f = f

    first : (b : Bool) → (not b || list_any has_companions xs) ≡ false → b ≡ true
    first true f = refl
    first false f = cc

    go : (c : Bool) → list_any (is_alone all) (own_of n xs) ≡ false → list_any (is_alone all) (cond c (x ∷ own_of n xs) (own_of n xs)) ≡ false
    go true h =
        ap (λ b. b || list_any (is_alone all) (own_of n xs)) (no_keys all (companions_text x.position.key) x.position.pattern (first (is_none (companions_text x.position.key)) e))
        ∙ h
    go false h = h

pub unpaired_none : (all : List Assignment) (set : BTreeSet ℕ) → list_any has_companions all ≡ false → set.keys ≡ [] → IsUnpairedOf all set
unpaired_none all set e empty = λ n. ap (list_any (λ k. is_eq (nat_cmp n k))) empty ∙ sym (none_alone all n all e)

-- no places, and one more
abbrev pub by_place : (x y : Bor (List ℕ) × Bor (List ℕ)) → Ordering
by_place x y = ordering_then (slice_cmp nat_cmp x.0.now y.0.now) (slice_cmp nat_cmp x.1.now y.1.now)

pub no_places : (places : BTreeSet (Bor (List ℕ) × Bor (List ℕ))) → places.keys ≡ [] → ArePlacesOf [] places
no_places places e = λ p k. ap (list_any (λ q. is_eq (ordering_then (slice_cmp nat_cmp p q.0.now) (slice_cmp nat_cmp k q.1.now)))) e

somewhere : List ℕ → Bor (List ℕ)
somewhere text = record { ref_ptr = (0, 0); now = text }

pub places_step : (all : List Given) (i : ℕ) (d : Given) (old new : BTreeSet (Bor (List ℕ) × Bor (List ℕ))) → i < length all
    → ((q : Bor (List ℕ) × Bor (List ℕ)) → contains by_place new q ≡ cond (is_eq (by_place ((get_or all i d).pattern, (get_or all i d).key) q)) true (contains by_place old q))
    → ArePlacesOf (map (given_in own) (take i all)) old → ArePlacesOf (map (given_in own) (take (i + 1) all)) new
unfolding somewhere
places_step all i d old new h put so_far = λ p k.
    let a = given_in own (get_or all i d) in
    put (somewhere p, somewhere k)
    ∙ ap (λ b. cond b true (holds old p k)) (equal_pair (slice_cmp nat_cmp a.position.pattern p) (slice_cmp nat_cmp a.position.key k))
    ∙ or_one_more (cond (same a.position.pattern p) (same a.position.key k) false) (holds old p k) (is_given (map (given_in own) (take i all)) p k) (so_far p k)
    ∙ sym (ap (λ l. is_given l p k) (given_more all i d h)
    ∙ list_any-append (λ b. cond (same b.position.pattern p) (same b.position.key k) false) (map (given_in own) (take i all)) (a ∷ []))

-- what is so of a line, by all assignments of its file
abbrev pub all_unread : ℕ → List Assignment → Bool
all_unread n all = cond (is_none (own_of n all)) false (list_all is_elsewhere (own_of n all))

abbrev pub all_unpaired : ℕ → List Assignment → Bool
all_unpaired n all = list_any (is_alone all) (own_of n all)
