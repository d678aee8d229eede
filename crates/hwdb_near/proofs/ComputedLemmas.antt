-- Where tokens stop is computed by `stop_of`.
use Rattle.std.proofs.Common.{◌≡◌, ◌∙◌, ap, sym, refl, ℕ, zero, suc, ◌+◌, ◌≤◌, ◌<◌, Bool, true, false, List, take, length, arith, cond, IsTrue, ◌↔◌, ◌⊎◌, inl, inr}
use Rattle.std.proofs.lemmas.Bool.{cases_eq}
use Rattle.hwdb_spec.specs.Patterns.{Token, Matches, matches}
use Rattle.hwdb_spec.specs.Tree.{some_up_to}
use Rattle.hwdb_pattern.specs.Fronts.{IsLongest}
use Rattle.hwdb_spec.specs.Fronts.{Front, Stops}
use Rattle.hwdb_spec_commands.specs.Near.{last_up_to, first_up_to, meets_front, front_tokens, front_bytes, stop_of}

some_here : (test : ℕ → Bool) (n : ℕ) → test n ≡ true → some_up_to test n ≡ true
unfolding some_up_to
some_here test zero h = h
some_here test (suc n) h = ap (λ (c : Bool). cond c true (some_up_to test n)) h

one_more : (c r : Bool) → r ≡ true → cond c true r ≡ true
one_more true r h = refl
one_more false r h = h

some_is : (test : ℕ → Bool) (n k : ℕ) → k ≤ n → test k ≡ true → some_up_to test n ≡ true
unfolding some_up_to
some_is test zero k l h = let z : k ≡ 0 = omega (arith, l) in ap test (sym z) ∙ h
some_is test (suc n) k l h = by (λ m. some_is test n k m h) (cases_eq k (suc n))
  where
    by : (k ≤ n → some_up_to test n ≡ true) → (k ≡ suc n) ⊎ (k ≡ suc n → ⊥) → some_up_to test (suc n) ≡ true
    by again (inl e) = some_here test (suc n) (ap test (sym e) ∙ h)
    by again (inr ne) = one_more (test (suc n)) (some_up_to test n) (again (omega (arith, l, ne)))

record Some (test : ℕ → Bool) (n : ℕ) : Type 0 where
  pub at : ℕ
  pub within : at ≤ n
  pub passes : test at ≡ true

some_of : (test : ℕ → Bool) (n : ℕ) → some_up_to test n ≡ true → Some test n
unfolding some_up_to
some_of test zero h = record { at = 0; within = omega arith; passes = h }
some_of test (suc n) h =
    let again : some_up_to test n ≡ true → Some test n = some_of test n in
    elim (test (suc n)) as (λ c. test (suc n) ≡ c → cond c true (some_up_to test n) ≡ true → Some test (suc n)) [
      | true ↦ λ e k. record { at = suc n; within = omega arith; passes = e }
      | false ↦ λ e k. let r : Some test n = again k in record { at = r.at; within = omega arith; passes = r.passes }
    ] refl h

-- the greatest that passes
last_is : (test : ℕ → Bool) (n k : ℕ) → k ≤ n → (0 < k → test k ≡ true) → ((m : ℕ) → k < m → m ≤ n → test m ≡ false) → last_up_to test n ≡ k
unfolding last_up_to
last_is test zero k l h above = omega (arith, l)
last_is test (suc n) k l h above = by (λ m. last_is test n k m h (λ j up le. above j up (omega (arith, le)))) (cases_eq k (suc n))
  where
    by : (k ≤ n → last_up_to test n ≡ k) → (k ≡ suc n) ⊎ (k ≡ suc n → ⊥) → last_up_to test (suc n) ≡ k
    by again (inl e) = ap (λ (c : Bool). cond c (suc n) (last_up_to test n)) (ap test (sym e) ∙ h (omega (arith, e))) ∙ sym e
    by again (inr ne) =
        ap (λ (c : Bool). cond c (suc n) (last_up_to test n)) (above (suc n) (omega (arith, l, ne)) (omega arith)) ∙ again (omega (arith, l, ne))

-- the least that passes
first_is : (test : ℕ → Bool) (n k : ℕ) → k ≤ n → test k ≡ true → ((m : ℕ) → m < k → test m ≡ false) → first_up_to test n ≡ k
unfolding first_up_to
first_is test zero k l h below = omega (arith, l)
first_is test (suc n) zero l h below = ap (λ (c : Bool). cond c 0 (1 + first_up_to (λ k. test (suc k)) n)) h
first_is test (suc n) (suc k) l h below =
    let again = first_is (λ k. test (suc k)) n k (omega (arith, l)) h (λ m lt. below (suc m) (omega (arith, lt))) in
    ap (λ (c : Bool). cond c 0 (1 + first_up_to (λ k. test (suc k)) n)) (below 0 (omega arith)) ∙ ap (λ (m : ℕ). 1 + m) again ∙ omega arith

-- a test that isn't true is false
not_true : (b : Bool) → (b ≡ true → ⊥) → b ≡ false
not_true true h = absurd (h refl)
not_true false h = refl

-- what `MatchesIsTested` says
abbrev pub IsTested : Type 0
IsTested = (ts : List Token) (device : List ℕ) → IsTrue (matches ts device) ↔ Matches ts device

pub longest_computed : IsTested → (ts : List Token) (device : List ℕ) (count : ℕ) → IsLongest ts device count → count ≡ front_tokens ts device
longest_computed tested ts device count s =
    sym (last_is (λ k. meets_front (take k ts) device) (length ts) count s.meets.tokens
    (λ some. some_is (λ n. matches (take count ts) (take n device)) (length device) s.bytes s.meets.bytes ((tested (take count ts) (take s.bytes device)).1 s.meets.matched))
    (λ k up le. not_true (meets_front (take k ts) device) (λ h. (
    let r : Some (λ n. matches (take k ts) (take n device)) (length device) = some_of (λ n. matches (take k ts) (take n device)) (length device) h in
    let bound = s.most (record { tokens = k; bytes = r.at }) (record { tokens = le; bytes = r.within; matched = (tested (take k ts) (take r.at device)).0 r.passes }) in
    absurd (omega (arith, bound, up))))))

tokens_computed : IsTested → (ts : List Token) (device : List ℕ) (f : Front) → Stops ts device f → front_tokens ts device ≡ f.tokens
tokens_computed tested ts device f s =
    sym (longest_computed tested ts device f.tokens (record { bytes = f.bytes; meets = s.met; most = s.longest }))

bytes_computed : IsTested → (ts : List Token) (device : List ℕ) (f : Front) → Stops ts device f → first_up_to (λ n. matches (take f.tokens ts) (take n device)) (length device) ≡ f.bytes
bytes_computed tested ts device f s =
    first_is (λ n. matches (take f.tokens ts) (take n device)) (length device) f.bytes s.met.bytes
    ((tested (take f.tokens ts) (take f.bytes device)).1 s.met.matched)
    (λ n below. not_true (matches (take f.tokens ts) (take n device)) (λ h. (
    let within = s.met.bytes in
    let bound = s.least (record { tokens = f.tokens; bytes = n }) (record { tokens = s.met.tokens; bytes = omega (arith, below, within); matched = (tested (take f.tokens ts) (take n device)).0 h }) refl in
    absurd (omega (arith, bound, below)))))

pub stop_computed : IsTested → (ts : List Token) (device : List ℕ) (f : Front) → Stops ts device f → f ≡ stop_of ts device
stop_computed tested ts device f s =
    let k : front_tokens ts device ≡ f.tokens = tokens_computed tested ts device f s in
    let n : front_bytes ts device ≡ f.bytes =
    ap (λ (m : ℕ). first_up_to (λ n. matches (take m ts) (take n device)) (length device)) k ∙ bytes_computed tested ts device f s in
    λ i. record { tokens = sym k i; bytes = sym n i }
