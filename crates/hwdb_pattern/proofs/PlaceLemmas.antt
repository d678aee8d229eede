-- All lengths from one on, and the places of a device's bytes that a token keeps of them.
use Rattle.std.proofs.Common.{◌≡◌, ℕ, zero, suc, ◌-◌, ◌+◌, ◌<◌, ◌≤◌, Bool, true, false, List, [], ◌∷◌, ◌++◌, take, drop, length, get_or, refl, ap, ◌∙◌, sym, subst, ◌==◌, arith, inl, inr, nat_lt, le-ltb}
use Rattle.std.specs.Prelude.{Contains, All, Option, Some, None, is_some, IfSome, IfNone}
use Rattle.std.proofs.lemmas.Bool.{cases_eq, cases_lt}
use Rattle.std.proofs.lemmas.List.{get_or-take, get_or-drop, length-take, length-drop}
use Rattle.std.proofs.lemmas.List.Elements.{Contains-get_or, Contains-push_cases, Contains-push, Contains-append_left}
use Rattle.hwdb_spec.specs.Patterns.{Token, literal, admits_byte}
use Rattle.hwdb_pattern.specs.Views.{takes, NoneTakes}
use Rattle.hwdb_pattern.specs.Internal.Prefixes.{Steps}
use Rattle.hwdb_pattern.specs.Internal.Tables.{said}
use Rattle.hwdb_pattern.specs.Internal.Places.{rest_lengths, NonePasses, IsNext, Gathers}
use Rattle.hwdb_pattern.proofs.PathLemmas.{takes_below}
use Rattle.hwdb_pattern.proofs.TableLemmas.{said_all, takes_there}

-- which lengths these are

pub rest_has : (least count n : ℕ) → least ≤ n → n - least < count → Contains (rest_lengths least count) n
rest_has least count n h k = (said_all least count).complete n h (omega arith)

pub rest_from : (least count n : ℕ) → Contains (rest_lengths least count) n → (least ≤ n) × (n < least + count)
rest_from least count n c = (said_all least count).sound n c

pub rest_size : (least count : ℕ) → length (rest_lengths least count) ≡ count
unfolding said
rest_size least zero = refl
rest_size least (suc count) = ap suc (rest_size (suc least) count)

pub rest_none : (least : ℕ) → rest_lengths least 0 ≡ []
unfolding said
rest_none least = refl

pub rest_least : (least count : ℕ) → All (λ m. least ≤ m) (rest_lengths least count)
rest_least least count i d h =
    let xs = rest_lengths least count in
    (rest_from least count (get_or xs i d) (Contains-get_or xs i d h)).0

-- what the bytes after them are

byte_there : (t : Token) (device bytes : List ℕ) (least count k : ℕ) → bytes ≡ take count (drop least device) → k < length bytes
    → takes t device (least + k) ≡ admits_byte t (get_or bytes k 0)
byte_there t device bytes least count k b h =
    let size : k < length (take count (drop least device)) = omega (arith, h, ap length b) in
    let in_count : k < count = omega (arith, size, length-take count (drop least device)) in
    let in_rest : k < length (drop least device) = omega (arith, size, length-take count (drop least device)) in
    takes_there t device least k in_rest
    ∙ ap (admits_byte t) (sym (ap (λ l. get_or l k 0) b ∙ get_or-take count (drop least device) k 0 in_count))

in_bytes : (t : Token) (device bytes : List ℕ) (least count n : ℕ) → bytes ≡ take count (drop least device) → least ≤ n → n < least + count
    → takes t device n ≡ true → n - least < length bytes
in_bytes t device bytes least count n b low high e =
    let below : n < length device = takes_below t device n e in
    omega (arith, below, ap length b, length-take count (drop least device), length-drop least device)

pub rest_none_takes : (t : Token) (device bytes : List ℕ) (least count : ℕ) → bytes ≡ take count (drop least device) → NonePasses (admits_byte t) bytes 0
    → NoneTakes t device (rest_lengths least count)
rest_none_takes t device bytes least count b none n c = go (takes t device n) refl
  where
    go : (v : Bool) → takes t device n ≡ v → takes t device n ≡ false
    go false e = e
    go true e =
        let bounds = rest_from least count n c in
        let k = n - least in
        let size : k < length bytes = in_bytes t device bytes least count n b bounds.0 bounds.1 e in
        ap (takes t device) (omega (arith, bounds.0)) ∙ byte_there t device bytes least count k b size ∙ none k (omega arith) size

pub rest_none_passes : (t : Token) (device bytes : List ℕ) (least count : ℕ) → bytes ≡ take count (drop least device) → NoneTakes t device (rest_lengths least count)
    → NonePasses (admits_byte t) bytes 0
rest_none_passes t device bytes least count b none k low h =
    let in_count : k < count = omega (arith, h, ap length b, length-take count (drop least device)) in
    sym (byte_there t device bytes least count k b h) ∙ none (least + k) (rest_has least count (least + k) (omega arith) (omega (arith, in_count)))

-- the first place, and the next one

pub shifted_next : (p : ℕ → Bool) (bytes hay : List ℕ) (at place : ℕ) → hay ≡ drop at bytes → at ≤ length bytes → place < length hay → p (get_or hay place 0) ≡ true
    → ((k : ℕ) → 0 ≤ k → k < place → p (get_or hay k 0) ≡ true → ⊥) → IsNext p bytes at (at + place)
shifted_next p bytes hay at place e h within here before = record {
  from = omega arith;
  within = omega (arith, within, ap length e, length-drop at bytes);
  here = sym (ap p (moved place)) ∙ here;
  before = λ k low high. go k (p (get_or bytes k 0)) refl low high;
}
  where
    moved : (k : ℕ) → get_or hay k 0 ≡ get_or bytes (at + k) 0
    moved k = ap (λ l. get_or l k 0) e ∙ get_or-drop at bytes k 0

    go : (k : ℕ) (v : Bool) → p (get_or bytes k 0) ≡ v → at ≤ k → k < at + place → p (get_or bytes k 0) ≡ false
    go k false f low high = f
    go k true f low high =
        absurd (before (k - at) (omega arith) (omega (arith, low, high)) (ap p (moved (k - at) ∙ ap (λ i. get_or bytes i 0) (omega (arith, low))) ∙ f))

pub shifted_none : (p : ℕ → Bool) (bytes hay : List ℕ) (at : ℕ) → hay ≡ drop at bytes → ((k : ℕ) → 0 ≤ k → k < length hay → p (get_or hay k 0) ≡ true → ⊥) → NonePasses p bytes at
shifted_none p bytes hay at e none k low high = go (p (get_or bytes k 0)) refl
  where
    go : (v : Bool) → p (get_or bytes k 0) ≡ v → p (get_or bytes k 0) ≡ false
    go false f = f
    go true f =
        absurd (none (k - at) (omega arith) (omega (arith, low, high, ap length e, length-drop at bytes))
        (ap p (ap (λ l. get_or l (k - at) 0) e ∙ get_or-drop at bytes (k - at) 0 ∙ ap (λ i. get_or bytes i 0) (omega (arith, low))) ∙ f))

pub literal_next : {t : Token} {byte : ℕ} (bytes : List ℕ) (at place : ℕ) → t ≡ literal byte → IsNext (λ b. b == byte) bytes at place → IsNext (admits_byte t) bytes at place
literal_next bytes at place e next = subst (λ u. IsNext (admits_byte u) bytes at place) (sym e) next

pub literal_none : {t : Token} {byte : ℕ} (bytes : List ℕ) (at : ℕ) → t ≡ literal byte → NonePasses (λ b. b == byte) bytes at → NonePasses (admits_byte t) bytes at
literal_none bytes at e none = subst (λ u. NonePasses (admits_byte u) bytes at) (sym e) none

pub none_next : {p : ℕ → Bool} {bytes : List ℕ} {at place : ℕ} → IsNext p bytes at place → NonePasses p bytes 0 → ⊥
none_next {place = place} next none = let w : true ≡ false = sym next.here ∙ none place (omega arith) next.within in cc

-- what is gathered

pub gathers_more : (p : ℕ → Bool) (bytes : List ℕ) (least at place : ℕ) (lengths more : List ℕ) → Gathers p bytes least at lengths → IsNext p bytes at place
    → more ≡ lengths ++ (least + (place + 1)) ∷ [] → Gathers p bytes least (place + 1) more
gathers_more p bytes least at place lengths more g next e = record {
  from = λ n c. elim (Contains-push_cases lengths (least + (place + 1)) n (subst (λ l. Contains l n) e c)) [
    | inl old ↦ let f = g.from n old in let low = next.from in (f.0, f.1, omega (arith, f.2, low), f.3)
    | inr same ↦ (place, omega (arith, same), omega arith, next.here)
  ];
  into = λ k h f. subst (λ l. Contains l (least + k + 1)) (sym e) (go k h f);
}
  where
    go : (k : ℕ) → k < place + 1 → p (get_or bytes k 0) ≡ true → Contains (lengths ++ (least + (place + 1)) ∷ []) (least + k + 1)
    go k h f = elim (cases_lt k at) [
      | inl below ↦ Contains-append_left lengths ((least + (place + 1)) ∷ []) (least + k + 1) (g.into k below f)
      | inr past ↦ elim (cases_eq k place) [
        | inl same ↦ subst (Contains (lengths ++ (least + (place + 1)) ∷ [])) (omega (arith, same)) (Contains-push lengths (least + (place + 1)))
        | inr other ↦ let w : true ≡ false = sym f ∙ next.before k past (omega (arith, h, other)) in cc
      ]
    ]

pub gathers_whole : (p : ℕ → Bool) (bytes : List ℕ) (least at : ℕ) (lengths : List ℕ) → at ≤ length bytes → Gathers p bytes least at lengths → NonePasses p bytes at
    → Gathers p bytes least (length bytes) lengths
gathers_whole p bytes least at lengths h g none = record {
  from = λ n c. let f = g.from n c in (f.0, f.1, omega (arith, f.2, h), f.3);
  into = λ k below f. elim (cases_lt k at) [
    | inl before ↦ g.into k before f
    | inr past ↦ let w : true ≡ false = sym f ∙ none k past below in cc
  ];
}

pub steps_gathered : (t : Token) (device bytes : List ℕ) (least count : ℕ) (lengths : List ℕ) → bytes ≡ take count (drop least device)
    → Gathers (admits_byte t) bytes least (length bytes) lengths → Steps t device (rest_lengths least count) lengths
steps_gathered t device bytes least count lengths b g = record {
  from = λ n c.
      let f = g.from n c in
      let within = f.2 in
      let in_count : f.0 < count = omega (arith, within, ap length b, length-take count (drop least device)) in
      (least + f.0, f.1, rest_has least count (least + f.0) (omega arith) (omega (arith, in_count)), byte_there t device bytes least count f.0 b within ∙ f.3);
  into = λ m c taken.
      let bounds = rest_from least count m c in
      let k = m - least in
      let size : k < length bytes = in_bytes t device bytes least count m b bounds.0 bounds.1 taken in
      let same : least + k ≡ m = omega (arith, bounds.0) in
      subst (Contains lengths) (ap (λ i. i + 1) same)
      (g.into k size (sym (byte_there t device bytes least count k b size) ∙ ap (takes t device) same ∙ taken));
}

-- all of them, after a star
pub spread_rest : (least end : ℕ) → least ≤ end → least + (end + 1 - least) ≡ end + 1
spread_rest least end h = omega arith

-- what an answer says if it is one, or none
pub none_of : (o : Option ℕ) (P : Type 0) → is_some o ≡ false → IfNone o P → P
none_of None P e h = h
none_of (Some n) P e h = cc

pub if_some_weaker : {T : Type 0} (o : Option T) (P Q : T → Type 0) → ((x : T) → P x → Q x) → IfSome o P → IfSome o Q
if_some_weaker None P Q f h = tt
if_some_weaker (Some x) P Q f h = f x h

pub if_none_weaker : {T : Type 0} (o : Option T) (P Q : Type 0) → (P → Q) → IfNone o P → IfNone o Q
if_none_weaker None P Q f h = f h
if_none_weaker (Some x) P Q f h = tt

-- a comparison that holds
pub less : (m n : ℕ) → nat_lt m n ≡ true → m < n
less m n e = elim (cases_lt m n) [
  | inl below ↦ below
  | inr past ↦ let w : true ≡ false = sym e ∙ le-ltb m n past in cc
]
