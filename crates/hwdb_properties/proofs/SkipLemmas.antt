-- Rows of a table that are passed over, since they begin with other bytes.
use Rattle.std.proofs.Common.{⊎_elim, ◌≡◌, ◌==◌, ◌+◌, ◌-◌, ◌<◌, ◌≤◌, ◌∙◌, ◌⊎◌, ◌||◌, inl, inr, ℕ, zero, suc, Bool, true, false, Option, None, Some, List, [], ◌∷◌, ap, arith, cond, drop, find, get_or, length, not, refl, subst, sym, take}
use Rattle.std.specs.Prelude.{if◌then◌else◌, nat_le}
use Rattle.std.specs.List.{onto_first, prefix_len}
use Rattle.std.specs.Option.{unwrap_or}
use Rattle.std.proofs.lemmas.Bool.{eq-eqb, eqb-false, eqb-true, le-leb, leb-true, ne_eqb}
use Rattle.std.proofs.lemmas.List.{get_or-drop, length-drop, take_all}
use Rattle.memchr.specs.Find.{FindsNeedle, Nowhere, OccursAt}
use Rattle.hwdb_spec.specs.Lines.{begins_with, is, pieces}
use Rattle.hwdb_spec.specs.Patterns.{in_span}
use Rattle.hwdb_spec_commands.specs.Properties.{first_row, is_for, lower, same_letters, word}
use Rattle.hwdb_properties.specs.Skipping.{IsApart, IsNext, begins, upper}
use Rattle.hwdb_properties.proofs.ApartLemmas.{apart, word_first}

module _ (one other : ℕ) (test : List ℕ → Bool) (sure : IsApart one other test) where
  -- a first row that begins otherwise is passed over
  skip_first : (table : List ℕ) → begins one other table ≡ false → find test (drop 1 (pieces (is 10) table)) ≡ find test (pieces (is 10) table)
  unfolding pieces
  skip_first [] h = refl
  skip_first (c ∷ rest) h = by (c == 10) (pieces (is 10) rest)
    where
      by : (q : Bool) (ps : List (List ℕ)) → find test (drop 1 (if q then [] ∷ ps else onto_first c ps)) ≡ find test (if q then [] ∷ ps else onto_first c ps)
      by true ps = rw (sure [] refl) refl
      by false [] = rw (sure (c ∷ []) h) refl
      by false (p ∷ ps) = rw (sure (c ∷ p) h) refl

  -- no row that begins so is before a place
  abbrev Lacks : List ℕ → ℕ → Type 0
  Lacks table k = (j : ℕ) → j < k → get_or table j 0 ≡ 10 → begins one other (drop (suc j) table) ≡ false

  -- a row begins after a place, or none does
  abbrev Ends : List ℕ → ℕ → Type 0
  Ends table k = (length table ≤ suc k) ⊎ (get_or table k 0 ≡ 10)

  rest_rows : (b : ℕ) (ps : List (List ℕ)) → drop 1 (onto_first b ps) ≡ drop 1 ps
  rest_rows b [] = refl
  rest_rows b (p ∷ ps) = refl

  after_rows : (table : List ℕ) (k : ℕ) → Ends table k → Lacks table k → find test (drop 1 (pieces (is 10) table)) ≡ find test (pieces (is 10) (drop (suc k) table))
  unfolding pieces
  after_rows [] k ends lacks = refl
  after_rows (b ∷ more) zero (inr at) lacks = subst (λ (x : ℕ). find test (drop 1 (pieces (is 10) (x ∷ more))) ≡ find test (pieces (is 10) more)) (sym at) refl
  after_rows (b ∷ []) zero (inl short) lacks = by (b == 10)
    where
      by : (q : Bool) → find test (drop 1 (if q then [] ∷ [] else onto_first b [])) ≡ None
      by true = refl
      by false = refl
  after_rows (b ∷ (c ∷ more)) zero (inl short) lacks = absurd (omega (arith, short))
  after_rows (b ∷ more) (suc k) ends lacks = by (b == 10) refl ∙ after_rows more k (rest ends) (λ j h at. lacks (suc j) (omega (arith, h)) at)
    where
      rest : Ends (b ∷ more) (suc k) → Ends more k
      rest (inl short) = inl (omega (arith, short))
      rest (inr at) = inr at

      by : (q : Bool) → (b == 10) ≡ q → find test (drop 1 (if q then [] ∷ pieces (is 10) more else onto_first b (pieces (is 10) more))) ≡ find test (drop 1 (pieces (is 10) more))
      by true e = sym (skip_first more (lacks 0 (omega arith) (eqb-true b 10 e)))
      by false e = ap (find test) (rest_rows b (pieces (is 10) more))

  -- the rows from a place on, before which none passes
  pub from_place : (table : List ℕ) (at : ℕ) → begins one other table ≡ false → IsNext one table at → IsNext other table at → first_row test (drop at table) ≡ first_row test table
  from_place table zero h n m = refl
  from_place table (suc k) h n m =
      ap (λ (o : Option (List ℕ)). unwrap_or o [])
      (sym (sym (skip_first table h) ∙ after_rows table k (ends n.starts) (λ j less at. both (n.none j (omega (arith, less)) at) (m.none j (omega (arith, less)) at))))
    where
      ends : (length table ≤ suc k) ⊎ (get_or table (suc k - 1) 0 ≡ 10) → Ends table k
      ends (inl short) = inl short
      ends (inr is) = inr (ap (λ (i : ℕ). get_or table i 0) (let z : k ≡ suc k - 1 = omega arith in z) ∙ is)

      both : {p q : Bool} → p ≡ false → q ≡ false → (p || q) ≡ false
      both e f = rw e f

-- ---- where the next row begins

occurs : (table : List ℕ) (first j : ℕ) → j < length table → get_or table j 0 ≡ 10 → begins_with first (drop (suc j) table) ≡ true → OccursAt table (10 ∷ first ∷ []) j
occurs table first j h at b = by (drop (suc j) table) refl b
  where
    by : (rest : List ℕ) → drop (suc j) table ≡ rest → begins_with first rest ≡ true → OccursAt table (10 ∷ first ∷ []) j
    by [] e f = absurd (cc)
    by (x ∷ rest) e f = record {
      fits = omega (arith, length-drop (suc j) table, ap length e);
      reads = λ i less. reads i less;
    }
      where
        second : get_or table (suc j) 0 ≡ x
        second = ap (λ (i : ℕ). get_or table i 0) (omega arith) ∙ sym (get_or-drop (suc j) table 0 0) ∙ ap (λ (l : List ℕ). get_or l 0 0) e

        reads : (i : ℕ) → i < 2 → get_or table (j + i) 0 ≡ get_or (10 ∷ first ∷ []) i 0
        reads zero less = ap (λ (i : ℕ). get_or table i 0) (omega arith) ∙ at
        reads (suc zero) less = ap (λ (i : ℕ). get_or table i 0) (omega arith) ∙ second ∙ eqb-true x first f
        reads (suc (suc i)) less = absurd (omega (arith, less))

not_begun : (table : List ℕ) (first j : ℕ) → j < length table → get_or table j 0 ≡ 10 → (OccursAt table (10 ∷ first ∷ []) j → ⊥) → begins_with first (drop (suc j) table) ≡ false
not_begun table first j h at none = by (begins_with first (drop (suc j) table)) refl
  where
    by : (b : Bool) → begins_with first (drop (suc j) table) ≡ b → b ≡ false
    by false e = refl
    by true e = absurd (none (occurs table first j h at e))

pub found_next : (table : List ℕ) (first at : ℕ) → FindsNeedle table (10 ∷ first ∷ []) 0 (Some at) → IsNext first table (at + 1)
found_next table first at f =
    record {
      within = omega (arith, f.1.fits);
      starts = inr (ap (λ (i : ℕ). get_or table i 0) (omega arith) ∙ (ap (λ (i : ℕ). get_or table i 0) (let z : at ≡ at + 0 = omega arith in z) ∙ f.1.reads 0 (omega arith)));
      none = λ j less is. not_begun table first j (omega (arith, less, f.1.fits)) is (f.0.before j (omega arith) (omega (arith, less)));
    }

pub no_next : (table : List ℕ) (first : ℕ) → FindsNeedle table (10 ∷ first ∷ []) 0 None → IsNext first table (length table)
no_next table first f =
    record {
      within = omega arith;
      starts = inl (omega arith);
      none = λ j less is. not_begun table first j (omega (arith, less)) is (f j (omega arith) (omega (arith, less)));
    }

-- the nearer one of two
pub nearer : (one : ℕ) (table : List ℕ) (at less : ℕ) → less ≤ at → (length table ≤ less) ⊎ (get_or table (less - 1) 0 ≡ 10) → IsNext one table at → IsNext one table less
nearer one table at less h starts n =
    record {
      within = omega (arith, h, n.within);
      starts = starts;
      none = λ j below is. n.none j (omega (arith, below, h)) is;
    }

-- ---- names that are like a row's

some : (b : ℕ) (text : List ℕ) → false ≡ (length (b ∷ text) == 0)
some b text = sym (ne_eqb (length (b ∷ text)) 0 (λ e. omega (arith, e)))

pub same_apart : (n : ℕ) (name : List ℕ) → IsApart n n (λ row. is_for row (n ∷ name))
same_apart n name [] h = refl
same_apart n name (r ∷ row) h = apart (r ∷ row) (n ∷ name) (some r row) (some n name) (by (r == n) refl h)
  where
    by : (q : Bool) → (r == n) ≡ q → (q || q) ≡ false → r ≡ n → ⊥
    by true e f = absurd (cc)
    by false e f = eqb-false r n e

raised : (r m : ℕ) → 65 ≤ r → r ≤ 90 → r + 32 ≡ m → r ≡ upper m
raised r m low high e = rw (le-leb 97 m (omega (arith, low, e))) (rw (le-leb m 122 (omega (arith, high, e))) (omega (arith, e)))

-- which bytes have this letter in lower case
meets : (r m : ℕ) → lower r ≡ m → (r ≡ m) ⊎ (r ≡ upper m)
meets r m e = by (nat_le 65 r) (nat_le r 90) refl refl e
  where
    by : (p q : Bool) → nat_le 65 r ≡ p → nat_le r 90 ≡ q → (if (if p then q else false) then r + 32 else r) ≡ m → (r ≡ m) ⊎ (r ≡ upper m)
    by true true a b e = inr (raised r m (leb-true 65 r a) (leb-true r 90 b) e)
    by true false a b e = inl e
    by false q a b e = inl e

not_one : (p q : Bool) → (p || q) ≡ false → p ≡ true → ⊥
not_one true q h e = cc
not_one false q h e = cc

not_other : (p q : Bool) → (p || q) ≡ false → q ≡ true → ⊥
not_other true q h e = cc
not_other false true h e = cc
not_other false false h e = cc

pub letters_apart : (n : ℕ) (name : List ℕ) → IsApart (lower n) (upper (lower n)) (λ row. same_letters (word row) (n ∷ name))
letters_apart n name [] h = refl
letters_apart n name (r ∷ row) h =
    let size : ℕ = prefix_len (λ x. not (is 32 x)) row in
    subst (λ (own : List ℕ). same_letters own (n ∷ name) ≡ false) (sym (word_first (r == 32) size r row)) (by (r == 32))
  where
    never : lower r ≡ lower n → ⊥
    never e = ⊎_elim (λ i. not_one (r == lower n) (r == upper (lower n)) h (eq-eqb r (lower n) i)) (λ i. not_other (r == lower n) (r == upper (lower n)) h (eq-eqb r (upper (lower n)) i)) (meets r (lower n) e)

    by : (q : Bool) → same_letters (if q then [] else r ∷ take (prefix_len (λ x. not (is 32 x)) row) row) (n ∷ name) ≡ false
    by true = refl
    by false = rw (ne_eqb (lower r) (lower n) never) refl

-- ---- the functions

pub rows_left : (one other : ℕ) (table : List ℕ) (at : ℕ) → begins_with one table ≡ false → begins_with other table ≡ false → IsNext one table at → IsNext other table at
    → (test : List ℕ → Bool) → IsApart one other test → first_row test (take (length table - at) (drop at table)) ≡ first_row test table
rows_left one other table at e f n m test sure =
    ap (first_row test) (take_all (length table - at) (drop at table) (omega (arith, length-drop at table))) ∙ from_place one other test sure table at (rw e f) n m

pub same_first : (name : List ℕ) → (length name == 0) ≡ false → IsApart (get_or name 0 0) (get_or name 0 0) (λ row. is_for row name)
same_first [] e = absurd (cc)
same_first (n ∷ name) e = same_apart n name

pub letters_first : (name : List ℕ) (low up : ℕ) → (length name == 0) ≡ false → low ≡ lower (get_or name 0 0) → up ≡ upper low → IsApart low up (λ row. same_letters (word row) name)
letters_first [] low up e l u = absurd (cc)
letters_first (n ∷ name) low up e l u =
    subst (λ (x : ℕ). IsApart low x (λ row. same_letters (word row) (n ∷ name))) (sym u)
    (subst (λ (x : ℕ). IsApart x (upper x) (λ row. same_letters (word row) (n ∷ name))) (sym l) (letters_apart n name))
