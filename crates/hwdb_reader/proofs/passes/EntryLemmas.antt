-- The value entries of a record, from the last to the first.
use Rattle.std.proofs.Common.{◌≡◌, ◌≢◌, ◌≤◌, ◌<◌, ◌-◌, ℕ, zero, suc, ◌+◌, ◌*◌, List, [], ◌∷◌, Option, Some, None, MatchOption, length, take, refl, sym, ◌∙◌, ap, subst, arith, Less}
use Rattle.std.proofs.lemmas.Nat.{mul-le}
use Rattle.std.specs.declared.cmp.Ordering.{Ordering}
use Rattle.std.specs.declared.cmp.Ordering.TheVariants.{Equal, Greater}
use Rattle.std.specs.Ordering.{nat_cmp, ordering_then}
use Rattle.std.specs.Cmp.Lexicographic.{slice_cmp}
use Rattle.hwdb_spec.specs.declared.Layout.{Layout}
use Rattle.hwdb_spec.specs.Assignment.{text_cmp}
use Rattle.hwdb_spec.specs.Tree.{IsAbove}
use Rattle.hwdb_spec.specs.Format.{number_at, text_at, value_at, key_off, IsPlace, IsValue, ValuesText}
use Rattle.hwdb_reader.specs.Passes.Views.{IsPart, IsOf}
use Rattle.hwdb_reader.specs.Passes.Internal.{values_at, ValuesStand}
use Rattle.hwdb_reader.specs.declared.passes.outline.Outline.{Outline}
use Rattle.hwdb_reader.specs.Passes.Lemmas.Parts.{number_is, front_is}

then_less : (o a b : Ordering) → (a ≡ Less → b ≡ Less) → ordering_then o a ≡ Less → ordering_then o b ≡ Less
then_less Less a b f h = h
then_less Equal a b f h = f h
then_less Greater a b f h = h

-- what is less by its front is less
pub fronts_less : (n : ℕ) (x y : List ℕ) → text_cmp (take n x) (take n y) ≡ Less → text_cmp x y ≡ Less
fronts_less zero x y h = absurd (cc)
fronts_less (suc n) [] [] h = h
fronts_less (suc n) [] (y ∷ ys) h = refl
fronts_less (suc n) (x ∷ xs) [] h = h
fronts_less (suc n) (x ∷ xs) (y ∷ ys) h = then_less (nat_cmp x y) (slice_cmp nat_cmp (take n xs) (take n ys)) (slice_cmp nat_cmp xs ys) (fronts_less n xs ys) h

-- the front of a kept string is that of the file's
pub string_front : (o : Outline) (file : List ℕ) (i most : ℕ) → IsOf o file → o.frame.sizes.strings + length o.strings.now ≡ o.size → o.frame.sizes.strings ≤ i
    → take most (text_at o.strings.now (i - o.frame.sizes.strings)) ≡ take most (text_at file i)
string_front o file i most is whole above =
    let size = is.size in
    front_is file o.strings.now o.frame.sizes.strings (i - o.frame.sizes.strings) i most is.strings (omega (arith, whole, size)) (omega (arith, above))

-- so a kept string that is less by its front is less in the file
pub less_there : (o : Outline) (file x y : List ℕ) (i j : ℕ) → IsOf o file → o.frame.sizes.strings + length o.strings.now ≡ o.size → o.frame.sizes.strings ≤ i → o.frame.sizes.strings ≤ j
    → x ≡ take 256 (text_at o.strings.now (i - o.frame.sizes.strings)) → y ≡ take 256 (text_at o.strings.now (j - o.frame.sizes.strings)) → text_cmp x y ≡ Less
    → text_cmp (text_at file i) (text_at file j) ≡ Less
less_there o file x y i j is whole first second ex ey less =
    let fx : x ≡ take 256 (text_at file i) = ex ∙ string_front o file i 256 is whole first in
    let fy : y ≡ take 256 (text_at file j) = ey ∙ string_front o file j 256 is whole second in
    fronts_less 256 (text_at file i) (text_at file j)
    (subst (λ (b : List ℕ). text_cmp (take 256 (text_at file i)) b ≡ Less) fy (subst (λ (a : List ℕ). text_cmp a y ≡ Less) fx less))

pub place_is : (o : Outline) (file : List ℕ) (i j : ℕ) → IsOf o file → i ≡ j → (o.frame.sizes.strings ≤ i) × (i < o.size) → IsPlace o.frame.sizes file j
place_is o file i j is same h =
    let size = is.size in
    let above = h.0 in
    let below = h.1 in
    record { above = omega (arith, same, above); below = omega (arith, same, below, size) }

-- a value entry that was tested
pub value_is : (o : Outline) (file part : List ℕ) (at e k v p q : ℕ) → IsOf o file → IsPart file at part → e + 32 ≤ length part → k ≡ number_at 8 e part → v ≡ number_at 8 (e + 8) part
    → p ≡ number_at 8 (e + 16) part → q ≡ number_at 2 (e + 28) part → (o.frame.sizes.strings ≤ k) × (k < o.size) → (o.frame.sizes.strings ≤ v) × (v < o.size)
    → (o.frame.sizes.strings ≤ p) × (p < o.size) → q ≢ 0 → IsValue o.frame.sizes file (at + e)
value_is o file part at e k v p q is here room ek ev ep eq key value path some =
    let number = eq ∙ number_is file part at 2 (e + 28) (at + e + 28) here (omega (arith, room)) (omega arith) in
    record {
      key = place_is o file k _ is (ek ∙ number_is file part at 8 e (at + e) here (omega (arith, room)) refl) key;
      value = place_is o file v _ is (ev ∙ number_is file part at 8 (e + 8) (at + e + 8) here (omega (arith, room)) (omega arith)) value;
      path = place_is o file p _ is (ep ∙ number_is file part at 8 (e + 16) (at + e + 16) here (omega (arith, room)) (omega arith)) path;
      priority = omega (arith, number, some);
    }

-- the place of the entry before
pub stepped : (first s n i k entry len : ℕ) → i ≡ suc k → i ≤ n → 32 ≤ s → entry ≡ first + s * i → first + s * n ≤ len → (entry - s ≡ first + s * k) × (entry - s + s ≡ entry) × (entry - s + 32 ≤ len)
stepped first s n i k entry len more within big is room =
    let last : s * suc k ≡ s * k + s = omega arith in
    let p : s * i ≡ s * k + s = ap (λ j. s * j) more ∙ last in
    let m = mul-le s i s n (omega arith) within in (omega (arith, p, is), omega (arith, p, is), omega (arith, p, is, m, room, big))

pub ended : (first s i entry at : ℕ) → i ≡ 0 → entry ≡ first + s * i → at + entry ≡ at + first
ended first s i entry at none is = let e : entry ≡ first + s * 0 = is ∙ ap (λ j. first + s * j) none in omega (arith, e)

module _ (l : Layout) (file : List ℕ) where
  -- after the last entry
  pub values_none : (e n i : ℕ) (next : Option ℕ) → n ≤ i → ValuesStand l file e next (n - i)
  unfolding ValuesText values_at
  values_none e n i next le = let none : 0 ≡ n - i = omega (arith, le) in subst (λ m. ValuesStand l file e next m) none (λ before above. tt)

  one_more : (e n : ℕ) (next : Option ℕ) → IsValue l file e → MatchOption next (Unit {0}) (λ k. text_cmp (text_at file (key_off file e)) (text_at file k) ≡ Less)
      → ValuesStand l file (e + l.value_size) next n → ValuesStand l file e (Some (key_off file e)) (suc n)
  unfolding ValuesText values_at value_at
  one_more e n next v less rest = λ before above. (v, refl, above, rest (Some (text_at file (key_off file e))) less)

  -- one entry more
  pub values_more : (e d n i k key : ℕ) (next : Option ℕ) → i ≡ suc k → i ≤ n → e + l.value_size ≡ d → IsValue l file e → key ≡ key_off file e
      → MatchOption next (Unit {0}) (λ other. text_cmp (text_at file key) (text_at file other) ≡ Less) → ValuesStand l file d next (n - i) → ValuesStand l file e (Some key) (n - k)
  values_more e d n i k key next more within step v is less rest =
      let size : suc (n - i) ≡ n - k = omega (arith, more, within) in
      let less' = subst (λ j. MatchOption next (Unit {0}) (λ other. text_cmp (text_at file j) (text_at file other) ≡ Less)) is less in
      let rest' = subst (λ j. ValuesStand l file j next (n - i)) (sym step) rest in
      subst (λ j. ValuesStand l file e (Some j) (n - k)) (sym is) (subst (λ m. ValuesStand l file e (Some (key_off file e)) m) size (one_more e (n - i) next v less' rest'))

  above_none : (next : Option ℕ) → MatchOption next (Unit {0}) (λ key. IsAbove None (text_at file key))
  above_none None = tt
  above_none (Some key) = tt

  -- all of them
  pub values_all : (e d n i : ℕ) (next : Option ℕ) → i ≡ 0 → d ≡ e → ValuesStand l file d next (n - i) → ValuesText l file e None (values_at l file e n)
  values_all e d n i next none same h =
      let k : n - i ≡ n = omega (arith, none) in
      let h' = subst (λ m. ValuesStand l file d next m) k h in
      let h'' = subst (λ j. ValuesStand l file j next n) same h' in
      h'' None (above_none next)

  -- how many
  pub values_many : (e n : ℕ) → length (values_at l file e n) ≡ n
  unfolding values_at
  values_many e zero = refl
  values_many e (suc n) = ap suc (values_many (e + l.value_size) n)
