-- The lines that replace an assignment, over lists of assignments.
use Rattle.std.proofs.Common.{◌≡◌, ℕ, ◌+◌, ◌<◌, ◌≤◌, ⊎_elim, Bool, true, false, not, List, [], ◌∷◌, ◌++◌, map, take, length, get_or, refl, ap, ◌∙◌, sym, cond, arith, ◌||◌}
use Rattle.std.specs.Prelude.{filter, max, nat_lt}
use Rattle.std.specs.Borrow.{Bor}
use Rattle.std.specs.BTreeMap.{BTreeMap, is_at}
use Rattle.std.specs.Map.{lookup}
use Rattle.std.specs.Option.{unwrap_or}
use Rattle.std.specs.Ordering.{nat_cmp}
use Rattle.std.specs.List.{list_any}
use Rattle.std.proofs.Math.Nat.{max_comm, max-zero, zero-max, max-eq_left, max-eq_right}
use Rattle.std.proofs.lemmas.Bool.{cases_lt, lt-ltb, ltb-true}
use Rattle.hwdb_spec.specs.Assignment.{Assignment}
use Rattle.hwdb_spec.specs.Lines.{is, is_none}
use Rattle.hwdb_spec_commands.specs.Warnings.{gives_value, greatest, last_with, replaces, replacing}
use Rattle.std.proofs.lemmas.List.{map-append, take_more}
use Rattle.hwdb_spec.specs.Records.{assignments}
use Rattle.hwdb_text.specs.declared.outcome.Given.{Given}
use Rattle.hwdb_text.specs.Views.{given_in}
use Rattle.hwdb_check.specs.Internal.{IsLastOf, IsReplacedBy, IsSameOf, RaisesLast, RaisesLine, RaisesSame, behind, gives, last_at, line_at, lines_with, own, raised, replacing_of, same_at}

max_three : (a b c : ℕ) → max a (max b c) ≡ max (max a b) c
max_three a b c = omega arith

above_le : (n a b : ℕ) → a ≤ b → behind n a ≤ behind n b
above_le n a b h = go (nat_lt n a) (nat_lt n b) refl refl
  where
    go : (s t : Bool) → nat_lt n a ≡ s → nat_lt n b ≡ t → cond s a 0 ≤ cond t b 0
    go true true e f = h
    go true false e f = grind (arith, e, f, h)
    go false t e f = omega arith

above_max : (n a b : ℕ) → behind n (max a b) ≡ max (behind n a) (behind n b)
above_max n a b =
    ⊎_elim
    (λ (h : a < b). let le : a ≤ b = omega (arith, h) in ap (behind n) (max-eq_right le) ∙ sym (max-eq_right (above_le n a b le)))
    (λ (h : b ≤ a). ap (behind n) (max-eq_left h) ∙ sym (max-eq_left (above_le n b a h)))
    (cases_lt a b)

module _ {A : Type 0} (f : A → ℕ) where
  abbrev most : (A → Bool) → List A → ℕ
  most t xs = greatest (map f (filter t xs))

  first : (t : A → Bool) (x : A) (xs : List A) → most t (x ∷ xs) ≡ cond (t x) (max (f x) (most t xs)) (most t xs)
  first t x xs = go (t x)
    where
      go : (b : Bool) → greatest (map f (cond b (x ∷ filter t xs) (filter t xs))) ≡ cond b (max (f x) (most t xs)) (most t xs)
      go true = refl
      go false = refl

  one_more : (t : A → Bool) (xs : List A) (a : A) → most t (xs ++ a ∷ []) ≡ raised (t a) (f a) (most t xs)
  one_more t [] a = go (t a)
    where
      go : (b : Bool) → greatest (map f (cond b (a ∷ []) [])) ≡ raised b (f a) 0
      go true = max_comm (f a) 0
      go false = refl
  one_more t (x ∷ xs) a =
      first t x (xs ++ a ∷ [])
      ∙ ap (λ m. cond (t x) (max (f x) m) m) (one_more t xs a)
      ∙ go (t x) (t a) (most t xs)
      ∙ sym (ap (raised (t a) (f a)) (first t x xs))
    where
      go : (b c : Bool) (m : ℕ) → cond b (max (f x) (cond c (max m (f a)) m)) (cond c (max m (f a)) m) ≡ cond c (max (cond b (max (f x) m) m) (f a)) (cond b (max (f x) m) m)
      go true true m = max_three (f x) m (f a)
      go true false m = refl
      go false c m = refl

  either : (t u : A → Bool) (xs : List A) → most (λ x. t x || u x) xs ≡ max (most t xs) (most u xs)
  either t u [] = refl
  either t u (x ∷ xs) =
      first (λ y. t y || u y) x xs
      ∙ ap (λ m. cond (t x || u x) (max (f x) m) m) (either t u xs)
      ∙ go (t x) (u x) (f x) (most t xs) (most u xs)
      ∙ sym (ap (λ m. max m (most u (x ∷ xs))) (first t x xs) ∙ ap (λ m. max (cond (t x) (max (f x) (most t xs)) (most t xs)) m) (first u x xs))
    where
      go : (b c : Bool) (v m n : ℕ) → cond (b || c) (max v (max m n)) (max m n) ≡ max (cond b (max v m) m) (cond c (max v n) n)
      go true true v m n = grind arith
      go true false v m n = grind arith
      go false true v m n = grind arith
      go false false v m n = refl

  none : (t : A → Bool) → ((x : A) → t x ≡ false) → (xs : List A) → most t xs ≡ 0
  none t h [] = refl
  none t h (x ∷ xs) = first t x xs ∙ ap (λ b. cond b (max (f x) (most t xs)) (most t xs)) (h x) ∙ none t h xs

  alike : (t u : A → Bool) → ((x : A) → t x ≡ u x) → (xs : List A) → most t xs ≡ most u xs
  alike t u h [] = refl
  alike t u h (x ∷ xs) =
      first t x xs ∙ ap (λ b. cond b (max (f x) (most t xs)) (most t xs)) (h x) ∙ ap (λ m. cond (u x) (max (f x) m) m) (alike t u h xs) ∙ sym (first u x xs)

  most_behind : (n : ℕ) (u : A → Bool) (xs : List A) → most (λ x. cond (nat_lt n (f x)) (u x) false) xs ≡ behind n (most u xs)
  most_behind n u [] = go (nat_lt n 0) 0
    where
      go : (b : Bool) (z : ℕ) → z ≡ cond b z z
      go true z = refl
      go false z = refl
  most_behind n u (x ∷ xs) =
      first (λ y. cond (nat_lt n (f y)) (u y) false) x xs
      ∙ ap (λ m. cond (cond (nat_lt n (f x)) (u x) false) (max (f x) m) m) (most_behind n u xs)
      ∙ go (nat_lt n (f x)) (u x) (behind n (most u xs))
      ∙ outer (u x)
      ∙ sym (ap (behind n) (first u x xs))
    where
      go : (b c : Bool) (r : ℕ) → cond (cond b c false) (max (f x) r) r ≡ cond c (max (cond b (f x) 0) r) r
      go true true r = refl
      go true false r = refl
      go false true r = sym (zero-max r)
      go false false r = refl

      outer : (c : Bool) → cond c (max (behind n (f x)) (behind n (most u xs))) (behind n (most u xs)) ≡ behind n (cond c (max (f x) (most u xs)) (most u xs))
      outer true = sym (above_max n (f x) (most u xs))
      outer false = refl

-- the lines with a pattern and a key, of one assignment more
pub with_more : (p k : List ℕ) (all : List Assignment) (a : Assignment)
    → greatest (lines_with p k (all ++ a ∷ [])) ≡ raised (gives a p k) a.position.line (greatest (lines_with p k all))
with_more p k all a = one_more (λ b. b.position.line) (λ b. gives b p k) all a

-- as `with_more`, with a value too
pub same_more : (p k v : List ℕ) (all : List Assignment) (a : Assignment)
    → last_with (all ++ a ∷ []) p k v ≡ raised (gives_value p k v a) a.position.line (last_with all p k v)
same_more p k v all a = one_more (λ b. b.position.line) (λ b. gives_value p k v b) all a

any_more : {A : Type 0} (u t : A → Bool) (xs : List A) (a : A) → list_any u (filter t (xs ++ a ∷ [])) ≡ (list_any u (filter t xs) || cond (t a) (u a) false)
any_more u t [] a = go (t a)
  where
    or_false : (b : Bool) → (b || false) ≡ b
    or_false true = refl
    or_false false = refl

    go : (b : Bool) → list_any u (cond b (a ∷ []) []) ≡ cond b (u a) false
    go true = or_false (u a)
    go false = refl
any_more u t (x ∷ xs) a = go (t x) (any_more u t xs a)
  where
    or_or : (a b c : Bool) → (a || (b || c)) ≡ ((a || b) || c)
    or_or true b c = refl
    or_or false b c = refl

    go : (b : Bool) → list_any u (filter t (xs ++ a ∷ [])) ≡ (list_any u (filter t xs) || cond (t a) (u a) false)
        → list_any u (cond b (x ∷ filter t (xs ++ a ∷ [])) (filter t (xs ++ a ∷ []))) ≡ (list_any u (cond b (x ∷ filter t xs) (filter t xs)) || cond (t a) (u a) false)
    go true h = ap (λ r. u x || r) h ∙ or_or (u x) (list_any u (filter t xs)) (cond (t a) (u a) false)
    go false h = h

-- the lines that replace, of one assignment more that is read
pub replacing_more : (read all : List Assignment) (a : Assignment) (n : ℕ)
    → greatest (replacing_of (read ++ a ∷ []) all n)
    ≡ raised (is n a.position.line) (behind (last_with all a.position.pattern a.position.key a.value) (greatest (lines_with a.position.pattern a.position.key all))) (greatest (replacing_of read all n))
replacing_more read all a n =
    alike line (λ b. list_any (replaces all b) (filter own (read ++ a ∷ []))) (λ b. list_any (replaces all b) (filter own read) || cond (own a) (replaces all b a) false)
    (λ b. any_more (replaces all b) own read a) all
    ∙ either line (λ b. list_any (replaces all b) (filter own read)) (λ b. cond (own a) (replaces all b a) false) all
    ∙ go (own a)
  where
    kept : ℕ
    kept = last_with all a.position.pattern a.position.key a.value

    line : Assignment → ℕ
    line b = b.position.line

    own : Assignment → Bool
    own b = is n b.position.line

    old : ℕ
    old = greatest (replacing_of read all n)

    go : (t : Bool) → max old (greatest (map line (filter (λ b. cond t (replaces all b a) false) all))) ≡ raised t (behind kept (greatest (lines_with a.position.pattern a.position.key all))) old
    go true = ap (max old) (most_behind line kept (λ b. gives b a.position.pattern a.position.key) all)
    go false = ap (max old) (none line (λ b. false) (λ b. refl) all) ∙ max-zero old

-- nothing is read
pub replacing_none : (all : List Assignment) (n : ℕ) → greatest (replacing_of [] all n) ≡ 0
replacing_none all n = none (λ b. b.position.line) (λ b. false) (λ b. refl) all

-- some line replaces exactly if the greatest one isn't 0
some_by : {A : Type 0} (f : A → ℕ) (t : A → Bool) → ((x : A) → t x ≡ true → 0 < f x) → (xs : List A) → not (is_none (map f (filter t xs))) ≡ nat_lt 0 (greatest (map f (filter t xs)))
some_by f t h [] = refl
some_by f t h (x ∷ xs) = go (t x) refl (some_by f t h xs)
  where
    go : (b : Bool) → t x ≡ b → not (is_none (map f (filter t xs))) ≡ nat_lt 0 (greatest (map f (filter t xs)))
        → not (is_none (map f (cond b (x ∷ filter t xs) (filter t xs)))) ≡ nat_lt 0 (greatest (map f (cond b (x ∷ filter t xs) (filter t xs))))
    go true e g = sym (lt-ltb 0 (max (f x) (greatest (map f (filter t xs)))) (omega (arith, h x e)))
    go false e g = g

any_above : (all : List Assignment) (b : Assignment) (own : List Assignment) → list_any (replaces all b) own ≡ true → 0 < b.position.line
any_above all b [] e = cc
any_above all b (a ∷ own) e = go (nat_lt (last_with all a.position.pattern a.position.key a.value) b.position.line) refl e (any_above all b own)
  where
    go : (t : Bool) → nat_lt (last_with all a.position.pattern a.position.key a.value) b.position.line ≡ t
        → (cond t (gives b a.position.pattern a.position.key) false || list_any (replaces all b) own) ≡ true → (list_any (replaces all b) own ≡ true → 0 < b.position.line) → 0 < b.position.line
    go true f g r = let h = ltb-true (last_with all a.position.pattern a.position.key a.value) b.position.line f in omega (arith, h)
    go false f g r = r g

pub some_replace : (read all : List Assignment) (n : ℕ) → not (is_none (replacing_of read all n)) ≡ nat_lt 0 (greatest (replacing_of read all n))
some_replace read all n =
    some_by (λ b. b.position.line) (λ b. list_any (replaces all b) (filter (λ a. is n a.position.line) read)) (λ b e. any_above all b (filter (λ a. is n a.position.line) read) e) all

-- one assignment more
pub more : (all : List Given) (i : ℕ) (d : Given) → i < length all → map (given_in own) (take (i + 1) all) ≡ map (given_in own) (take i all) ++ given_in own (get_or all i d) ∷ []
more all i d h = ap (map (given_in own)) (take_more all i d h) ∙ map-append (given_in own) (take i all) (get_or all i d ∷ [])

pub last_step : (all : List Given) (i : ℕ) (d : Given) (old new : BTreeMap (Bor (List ℕ) × Bor (List ℕ)) ℕ) → i < length all → IsLastOf (map (given_in own) (take i all)) old
    → RaisesLast (given_in own (get_or all i d)) old new → IsLastOf (map (given_in own) (take (i + 1) all)) new
last_step all i d old new h so_far put = λ p k.
    let a = given_in own (get_or all i d) in
    put p k
    ∙ ap (raised (gives a p.now k.now) a.position.line) (so_far p k)
    ∙ sym (ap (λ l. greatest (lines_with p.now k.now l)) (more all i d h) ∙ with_more p.now k.now (map (given_in own) (take i all)) a)

pub same_step : (all : List Given) (i : ℕ) (d : Given) (old new : BTreeMap ((Bor (List ℕ) × Bor (List ℕ)) × Bor (List ℕ)) ℕ) → i < length all → IsSameOf (map (given_in own) (take i all)) old
    → RaisesSame (given_in own (get_or all i d)) old new → IsSameOf (map (given_in own) (take (i + 1) all)) new
same_step all i d old new h so_far put = λ p k v.
    let a = given_in own (get_or all i d) in
    put p k v
    ∙ ap (raised (gives_value p.now k.now v.now a) a.position.line) (so_far p k v)
    ∙ sym (ap (λ l. last_with l p.now k.now v.now) (more all i d h) ∙ same_more p.now k.now v.now (map (given_in own) (take i all)) a)

pub no_line : (all : List Assignment) (replaced : BTreeMap ℕ ℕ) → replaced.entries ≡ [] → IsReplacedBy [] all replaced
no_line all replaced e = λ n. ap (λ es. unwrap_or (lookup (is_at (nat_cmp n)) es) 0) e ∙ sym (replacing_none all n)

pub line_step : (all : List Given) (i : ℕ) (d : Given) (last : BTreeMap (Bor (List ℕ) × Bor (List ℕ)) ℕ) (same : BTreeMap ((Bor (List ℕ) × Bor (List ℕ)) × Bor (List ℕ)) ℕ) (old new : BTreeMap ℕ ℕ) → i < length all
    → IsLastOf (map (given_in own) all) last → IsSameOf (map (given_in own) all) same
    → IsReplacedBy (map (given_in own) (take i all)) (map (given_in own) all) old
    → RaisesLine (get_or all i d).line (behind (same_at same (get_or all i d).pattern (get_or all i d).key (get_or all i d).value) (last_at last (get_or all i d).pattern (get_or all i d).key)) old new
    → IsReplacedBy (map (given_in own) (take (i + 1) all)) (map (given_in own) all) new
line_step all i d last same old new h lasts sames so_far put = λ n.
    let g = get_or all i d in
    let whole = map (given_in own) all in
    put n
    ∙ ap (λ m. raised (is n g.line) (behind m (last_at last g.pattern g.key)) (line_at old n)) (sames g.pattern g.key g.value)
    ∙ ap (λ m. raised (is n g.line) (behind (last_with whole g.pattern.now g.key.now g.value.now) m) (line_at old n)) (lasts g.pattern g.key)
    ∙ ap (raised (is n g.line) (behind (last_with whole g.pattern.now g.key.now g.value.now) (greatest (lines_with g.pattern.now g.key.now whole)))) (so_far n)
    ∙ sym (ap (λ l. greatest (replacing_of l whole n)) (more all i d h) ∙ replacing_more (map (given_in own) (take i all)) whole (given_in own g) n)

-- whether a line is replaced
pub some_replaces : (file : List ℕ) (n : ℕ) → not (is_none (replacing file n)) ≡ nat_lt 0 (greatest (replacing file n))
some_replaces file n = some_replace (assignments own file) (assignments own file) n
