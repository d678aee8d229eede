-- How far some tokens go along a device, one after another.
use Rattle.std.proofs.Common.{◌≡◌, ◌∙◌, ap, sym, refl, subst, ℕ, suc, ◌+◌, ◌-◌, ◌<◌, ◌≤◌, List, [], ◌∷◌, ◌++◌, take, drop, length, map, get_or, arith, ◌⊎◌, inl, inr}
use Rattle.std.specs.Prelude.{Contains, All}
use Rattle.std.specs.Borrow.{Bor}
use Rattle.std.proofs.lemmas.Bool.{cases_eq, cases_lt}
use Rattle.std.proofs.lemmas.List.{map_more, take_all, take-map, length-map, length-take-le}
use Rattle.std.proofs.lemmas.List.Elements.{All-contains}
use Rattle.std.proofs.Math.Seq.{take-add}
use Rattle.hwdb_spec.specs.Patterns.{Token, Matches, token_at}
use Rattle.hwdb_spec.specs.Fronts.{Front, Meets, Stops}
use Rattle.hwdb_pattern.specs.Views.{Lengths}
use Rattle.hwdb_pattern.specs.Fronts.{IsLongest, token_of}
use Rattle.hwdb_pattern.specs.Internal.FirstTokens.{AreAfter}
use Rattle.hwdb_pattern.specs.declared.met.Met.{Met}
use Rattle.hwdb_pattern.specs.Internal.Prefixes.{Follows, IsAfter}
use Rattle.hwdb_pattern.proofs.PathLemmas.{contains_none, contains_here, contains_cases, no_bytes, first_star, follows_steps}
use Rattle.hwdb_pattern.proofs.GrowthLemmas.{front_of, take_least}
use Rattle.hwdb_pattern.proofs.TokenLemmas.{not_star}

abbrev Text : Type 0
Text = Bor (List ℕ)

-- the tokens so far, and one more
after_one : (ts : List Token) (text device before after : List ℕ) → IsAfter device before after text → Lengths ts device before → Lengths (ts ++ token_at text ∷ []) device after
after_one ts text device before after a l = by (cases_eq (get_or text 0 0) 42)
  where
    by : (get_or text 0 0 ≡ 42) ⊎ (get_or text 0 0 ≡ 42 → ⊥) → Lengths (ts ++ token_at text ∷ []) device after
    by (inl e) = (first_star text device before after e (a.star e)).lengths ts l
    by (inr n) = (follows_steps (token_at text) device before after (not_star text n) (a.token n)).lengths ts l

-- the null byte begins the token of no text
pub empty_same : (text : List ℕ) → length text ≡ 0 → token_at (0 ∷ []) ≡ token_at text
unfolding token_at
empty_same [] e = refl
empty_same (x ∷ text) e = absurd (omega arith)

-- ---- along the tokens

-- nothing yet
pub begun : (device lengths : List ℕ) → lengths ≡ 0 ∷ [] → Lengths [] device lengths
begun device lengths e = record {
  sound = λ n c. only_zero n (subst (λ (l : List ℕ). Contains l n) e c);
  complete = λ n h m. subst (λ (l : List ℕ). Contains l n) (sym e) (0, omega arith, sym (is_zero n h m));
}
  where
    only_zero : (n : ℕ) → Contains (0 ∷ []) n → (n ≤ length device) × (take n device ≡ [])
    only_zero n c = elim (contains_cases 0 [] n c) [
      | inl z ↦ (omega arith, ap (λ (i : ℕ). take i device) (sym z))
      | inr none ↦ absurd (contains_none n none)
    ]

    is_zero : (n : ℕ) → n ≤ length device → take n device ≡ [] → n ≡ 0
    is_zero n h m = let size = length-take-le n device h in let none = ap length m in omega (arith, size, none)

-- one token more of those that are given
pub along_one : (texts : List Text) (text : List ℕ) (i : ℕ) (d : Text) (device before after : List ℕ) → i < length texts → token_at text ≡ token_of (get_or texts i d) → IsAfter device before after text
    → Lengths (map token_of (take i texts)) device before → Lengths (map token_of (take (i + 1) texts)) device after
along_one texts text i d device before after h same a l =
    subst (λ (ts : List Token). Lengths ts device after) (sym (map_more token_of texts i d h ∙ ap (λ (t : Token). map token_of (take i texts) ++ t ∷ []) (sym same)))
    (after_one (map token_of (take i texts)) text device before after a l)

-- so many tokens match a prefix
met_at : (ts : List Token) (device lengths : List ℕ) (k n : ℕ) → k ≤ length ts → Lengths (take k ts) device lengths → Contains lengths n → Meets ts device (record { tokens = k; bytes = n })
met_at ts device lengths k n within l c = let s = l.sound n c in record { tokens = within; bytes = s.0; matched = s.1 }

-- if no prefix is matched by so many tokens, none is matched by more
none_beyond : (ts : List Token) (device lengths : List ℕ) (k : ℕ) (other : Front) → Lengths (take k ts) device lengths → lengths ≡ [] → k ≤ other.tokens → Meets ts device other → ⊥
none_beyond ts device lengths k other l none le m =
    let more : ℕ = other.tokens - k in
    let whole : take other.tokens ts ≡ take k ts ++ take more (drop k ts) = ap (λ (x : ℕ). take x ts) (omega (arith, le)) ∙ take-add k more ts in
    let cut = front_of (take k ts) (take more (drop k ts)) (take other.bytes device) (subst (λ (us : List Token). Matches us (take other.bytes device)) whole m.matched) in
    let least = take_least other.bytes device cut.piece cut.rest cut.whole in
    let has = l.complete (length cut.piece) least.0 (subst (λ (d : List ℕ). Matches (take k ts) d) (sym least.1) cut.met) in
    contains_none (length cut.piece) (subst (λ (xs : List ℕ). Contains xs (length cut.piece)) none has)

-- a list that isn't empty has a first member
first_of : (xs : List ℕ) → (length xs ≡ 0 → ⊥) → (n : ℕ) × Contains xs n
first_of [] n = absurd (n refl)
first_of (x ∷ xs) n = (x, contains_here x xs)

-- the search ends, since no prefix is matched by one token more
pub ended : (ts : List Token) (device before after : List ℕ) (k : ℕ) → k < length ts → Lengths (take k ts) device before → (length before ≡ 0 → ⊥) → Lengths (take (k + 1) ts) device after → length after ≡ 0 → IsLongest ts device k
ended ts device before after k h l some next none =
    let first = first_of before some in
    record {
      bytes = first.0;
      meets = met_at ts device before k first.0 (omega (arith, h)) l first.1;
      most = λ other m. by other m (cases_lt k other.tokens);
    }
  where
    by : (other : Front) → Meets ts device other → (k < other.tokens) ⊎ (other.tokens ≤ k) → other.tokens ≤ k
    by other m (inl lt) = absurd (none_beyond ts device after (k + 1) other next (no_bytes after none) (omega (arith, lt)) m)
    by other m (inr le) = le

-- or since there is no token more
pub all_met : (ts : List Token) (device lengths : List ℕ) (k : ℕ) → k ≡ length ts → Lengths ts device lengths → (length lengths ≡ 0 → ⊥) → IsLongest ts device k
all_met ts device lengths k e l some =
    let first = first_of lengths some in
    record {
      bytes = first.0;
      meets = met_at ts device lengths k first.0 (omega (arith, e)) (subst (λ (us : List Token). Lengths us device lengths) (sym (take_all k ts (omega (arith, e)))) l) first.1;
      most = λ other m. let within = m.tokens in omega (arith, within, e);
    }

-- the least prefix of the longest front
pub is_stop : (ts : List Token) (device lengths : List ℕ) (k n : ℕ) → IsLongest ts device k → Lengths (take k ts) device lengths → Contains lengths n → All (λ m. n ≤ m) lengths → Stops ts device (record { tokens = k; bytes = n })
is_stop ts device lengths k n longest l c least = record {
  met = met_at ts device lengths k n longest.meets.tokens l c;
  longest = longest.most;
  least = λ other m e. All-contains (λ m. n ≤ m) lengths other.bytes least (l.complete other.bytes m.bytes (subst (λ (x : ℕ). Matches (take x ts) (take other.bytes device)) e m.matched));
}

-- a longest front has a prefix
pub has_one : (ts : List Token) (device lengths : List ℕ) (k : ℕ) → IsLongest ts device k → Lengths (take k ts) device lengths → lengths ≡ [] → ⊥
has_one ts device lengths k longest l none =
    contains_none longest.bytes (subst (λ (xs : List ℕ). Contains xs longest.bytes) none (l.complete longest.bytes longest.meets.bytes longest.meets.matched))

-- ---- as the code has them

pub ended_here : (texts : List Text) (text : List ℕ) (i k : ℕ) (d : Text) (device before after : List ℕ) → k ≡ i → i < length texts → token_at text ≡ token_of (get_or texts i d) → IsAfter device before after text
    → Lengths (map token_of (take i texts)) device before → (length before ≡ 0 → ⊥) → length after ≡ 0 → IsLongest (map token_of texts) device k
ended_here texts text i k d device before after e h same a l some none =
    let size = length-map texts token_of in
    subst (λ (n : ℕ). IsLongest (map token_of texts) device n) (sym e)
    (ended (map token_of texts) device before after i (omega (arith, h, size)) (subst (λ (ts : List Token). Lengths ts device before) (sym (take-map token_of i texts)) l) some
    (subst (λ (ts : List Token). Lengths ts device after) (sym (take-map token_of (i + 1) texts)) (along_one texts text i d device before after h same a l)) none)

pub all_here : (texts : List Text) (i k : ℕ) (device lengths : List ℕ) → k ≡ i → i ≤ length texts → length texts ≤ i → Lengths (map token_of (take i texts)) device lengths → (length lengths ≡ 0 → ⊥) → IsLongest (map token_of texts) device k
all_here texts i k device lengths e within end l some =
    let size = length-map texts token_of in
    all_met (map token_of texts) device lengths k (omega (arith, e, within, end, size))
    (subst (λ (ts : List Text). Lengths (map token_of ts) device lengths) (take_all i texts end) l) some

pub all_after : (texts : List Text) (i : ℕ) (device : List ℕ) (met : Met) → length texts ≤ i → AreAfter (map token_of (take i texts)) device met → AreAfter (map token_of texts) device met
all_after texts i device met end a = subst (λ (ts : List Text). AreAfter (map token_of ts) device met) (take_all i texts end) a

-- what was followed once more
pub again : (texts front : List Text) (k : ℕ) (device lengths : List ℕ) → front ≡ take k texts → Lengths (map token_of front) device lengths → Lengths (take k (map token_of texts)) device lengths
again texts front k device lengths e l =
    subst (λ (ts : List Token). Lengths ts device lengths) (ap (map token_of) e ∙ sym (take-map token_of k texts)) l
