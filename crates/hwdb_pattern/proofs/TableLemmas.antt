-- What a table says, as a list of lengths.
use Rattle.std.proofs.Common.{◌≡◌, ℕ, zero, suc, ◌-◌, ◌+◌, ◌<◌, ◌≤◌, Bool, true, false, List, [], ◌∷◌, ◌++◌, length, get_or, replicate, drop, take, refl, ap, ◌∙◌, sym, subst, cond, ◌==◌, lt-ltb, ne_eqb, eq-eqb, not, min, arith, inl, inr}
use Rattle.std.specs.Prelude.{Contains, All}
use Rattle.std.proofs.lemmas.Bool.{cases_lt}
use Rattle.std.proofs.lemmas.List.{get_or-drop, get_or-take, get_or-replicate, length-drop, length-take, length-replicate, drop_all, take_at}
use Rattle.std.proofs.lemmas.List.Elements.{Contains-get_or}
use Rattle.hwdb_spec.specs.Patterns.{Token, one, literal, admits_byte}
use Rattle.hwdb_pattern.specs.Views.{takes, NoneTakes}
use Rattle.hwdb_pattern.specs.Internal.Prefixes.{Between, Spread, Steps}
use Rattle.hwdb_pattern.specs.Internal.Tables.{said, passes_at, IsKept, SomeAt}
use Rattle.hwdb_pattern.proofs.PathLemmas.{contains_cases, contains_here, contains_there, contains_none, takes_below}

-- what is kept

as_it_is : (b : Bool) → cond b true false ≡ b
as_it_is true = refl
as_it_is false = refl

pub all_kept : {t : Token} (bytes : List ℕ) (table : List Bool) → t ≡ one → IsKept (admits_byte t) bytes table table
all_kept bytes table e =
    subst (λ u. IsKept (admits_byte u) bytes table table) (sym e) (record { size = refl; each = λ k h. sym (as_it_is (get_or table k false)) })

pub byte_kept : {t : Token} {byte : ℕ} (bytes : List ℕ) (old new : List Bool) → t ≡ literal byte → IsKept (λ b. b == byte) bytes old new → IsKept (admits_byte t) bytes old new
byte_kept bytes old new e k = subst (λ u. IsKept (admits_byte u) bytes old new) (sym e) k

-- a table says a number exactly if it says so at its place

pub said_has : (first : ℕ) (table : List Bool) (k : ℕ) → k < length table → get_or table k false ≡ true → Contains (said first table) (first + k)
unfolding said
said_has first [] k h e = absurd (omega arith)
said_has first (b ∷ table) zero h e = subst (Contains (said first (b ∷ table))) (omega arith) (go b e)
  where
    go : (c : Bool) → c ≡ true → Contains (cond c (first ∷ said (suc first) table) (said (suc first) table)) first
    go true f = contains_here first (said (suc first) table)
    go false f = cc
said_has first (b ∷ table) (suc k) h e =
    let later : Contains (said (suc first) table) (suc first + k) = said_has (suc first) table k (omega arith) e in
    subst (Contains (said first (b ∷ table))) (omega arith) (further b (said (suc first) table) later)
  where
    further : (c : Bool) (xs : List ℕ) {n : ℕ} → Contains xs n → Contains (cond c (first ∷ xs) xs) n
    further true xs l = contains_there first xs _ l
    further false xs l = l

-- the place of a number
abbrev pub SaidAt : (first : ℕ) → List Bool → ℕ → Type 0
SaidAt first table n = (k : ℕ) × (n ≡ first + k) × (k < length table) × (get_or table k false ≡ true)

one_later : (first : ℕ) (b : Bool) (table : List Bool) (n : ℕ) → SaidAt (suc first) table n → SaidAt first (b ∷ table) n
one_later first b table n s = (suc s.0, omega (arith, s.1), omega (arith, s.2), s.3)

first_case : (first : ℕ) (b : Bool) (table : List Bool) (n : ℕ) (c : Bool) → b ≡ c → (Contains (said (suc first) table) n → SaidAt (suc first) table n)
    → Contains (cond c (first ∷ said (suc first) table) (said (suc first) table)) n → SaidAt first (b ∷ table) n
first_case first b table n true e ih h = elim (contains_cases first (said (suc first) table) n h) [
  | inl f ↦ (0, omega (arith, f), omega arith, e)
  | inr later ↦ one_later first b table n (ih later)
]
first_case first b table n false e ih h = one_later first b table n (ih h)

pub said_from : (first : ℕ) (table : List Bool) (n : ℕ) → Contains (said first table) n → SaidAt first table n
unfolding said
said_from first [] n h = absurd (contains_none n h)
said_from first (b ∷ table) n h = first_case first b table n b refl (said_from (suc first) table n) h

pub said_nothing : (first : ℕ) (table : List Bool) → ((k : ℕ) → k < length table → get_or table k false ≡ false) → said first table ≡ []
said_nothing first table none = go (said first table) refl
  where
    go : (l : List ℕ) → said first table ≡ l → said first table ≡ []
    go [] e = e
    go (n ∷ l) e =
        let s : SaidAt first table n = said_from first table n (subst (λ xs. Contains xs n) (sym e) (contains_here n l)) in
        let w : true ≡ false = sym s.3 ∙ none s.0 s.2 in cc

-- all of them
pub said_all : (least n : ℕ) → Between least (least + n) (said least (replicate n true))
said_all least n = record {
  sound = λ m c. let s = said_from least (replicate n true) m c in (omega (arith, s.1), omega (arith, s.1, s.2, length-replicate n true));
  complete = λ m l h. subst (Contains (said least (replicate n true))) (omega arith)
      (said_has least (replicate n true) (m - least) (omega (arith, length-replicate n true)) (get_or-replicate n (m - least) true false (omega arith)));
}

-- whether a token takes the device's byte after a number, by the bytes from the least one on
pub takes_there : (t : Token) (device : List ℕ) (least k : ℕ) → k < length (drop least device) → takes t device (least + k) ≡ admits_byte t (get_or (drop least device) k 0)
takes_there t device least k h =
    let below : least + k < length device = omega (arith, h, length-drop least device) in
    ap (λ b. cond b (admits_byte t (get_or device (least + k) 0)) false) (lt-ltb (least + k) (length device) below) ∙ ap (admits_byte t) (sym (get_or-drop least device k 0))

passes_both : (c d : Bool) → cond c d false ≡ true → (c ≡ true) × (d ≡ true)
passes_both true d e = (refl, e)
passes_both false d e = cc

passes_there : (p : ℕ → Bool) (bytes : List ℕ) (table : List Bool) (k : ℕ) → get_or table k false ≡ true → p (get_or bytes k 0) ≡ true → passes_at p bytes table k ≡ true
passes_there p bytes table k e f = ap (λ c. cond c (p (get_or bytes k 0)) false) e ∙ f

-- one more token that isn't a star, over the bytes from the least length on
pub steps_kept : (t : Token) (device bytes : List ℕ) (least : ℕ) (old cut new : List Bool) → bytes ≡ drop least device → cut ≡ take (length bytes) old
    → IsKept (admits_byte t) bytes cut new → Steps t device (said least old) (said (least + 1) new)
steps_kept t device bytes least old cut new b c kept = record {
  from = λ n h. come n (said_from (least + 1) new n h);
  into = λ m h taken. go m (said_from least old m h) taken;
}
  where
    come : (n : ℕ) → SaidAt (least + 1) new n → (m : ℕ) × (n ≡ m + 1) × Contains (said least old) m × (takes t device m ≡ true)
    come n s =
        let k = s.0 in
        let size = kept.size in
        let in_cut : k < length cut = omega (arith, s.2, size) in
        let both = passes_both (get_or cut k false) (admits_byte t (get_or bytes k 0)) (sym (kept.each k in_cut) ∙ s.3) in
        let in_bytes : k < length bytes = omega (arith, in_cut, ap length c, length-take (length bytes) old) in
        let in_old : k < length old = omega (arith, in_cut, ap length c, length-take (length bytes) old) in
        let same : get_or cut k false ≡ get_or old k false = ap (λ l. get_or l k false) c ∙ get_or-take (length bytes) old k false in_bytes in (
          least + k,
          omega (arith, s.1),
          said_has least old k in_old (sym same ∙ both.0),
          takes_there t device least k (omega (arith, in_bytes, ap length b)) ∙ ap (λ l. admits_byte t (get_or l k 0)) (sym b) ∙ both.1,
        )

    go : (m : ℕ) → SaidAt least old m → takes t device m ≡ true → Contains (said (least + 1) new) (m + 1)
    go m s taken =
        let k = s.0 in
        let below : m < length device = takes_below t device m taken in
        let in_bytes : k < length bytes = omega (arith, below, s.1, ap length b, length-drop least device) in
        let in_cut : k < length cut = omega (arith, in_bytes, s.2, ap length c, length-take (length bytes) old) in
        let same : get_or cut k false ≡ get_or old k false = ap (λ l. get_or l k false) c ∙ get_or-take (length bytes) old k false in_bytes in
        let byte : admits_byte t (get_or bytes k 0) ≡ true =
        ap (λ l. admits_byte t (get_or l k 0)) b ∙ sym (takes_there t device least k (omega (arith, in_bytes, ap length b))) ∙ ap (takes t device) (sym s.1) ∙ taken in
        let size = kept.size in
        subst (Contains (said (least + 1) new)) (omega (arith, s.1))
        (said_has (least + 1) new k (omega (arith, in_cut, size)) (kept.each k in_cut ∙ passes_there (admits_byte t) bytes cut k (same ∙ s.3) byte))

-- whether the token takes a byte, over the bytes from the least length on
pub none_takes : (t : Token) (device bytes : List ℕ) (least count : ℕ) (table cut : List Bool) → bytes ≡ drop least device → count ≡ min (length table) (length bytes) → cut ≡ take count table
    → SomeAt (passes_at (admits_byte t) bytes cut) (length cut) false → NoneTakes t device (said least table)
none_takes t device bytes least count table cut b z c none n h = go (takes t device n) refl
  where
    go : (v : Bool) → takes t device n ≡ v → takes t device n ≡ false
    go false e = e
    go true e =
        let s : SaidAt least table n = said_from least table n h in
        let k = s.0 in
        let below : n < length device = takes_below t device n e in
        let in_bytes : k < length bytes = omega (arith, below, s.1, ap length b, length-drop least device) in
        let in_count : k < count = omega (arith, z, in_bytes, s.2) in
        let in_cut : k < length cut = omega (arith, in_count, s.2, ap length c, length-take count table) in
        let same : get_or cut k false ≡ get_or table k false = ap (λ l. get_or l k false) c ∙ get_or-take count table k false in_count in
        let byte : admits_byte t (get_or bytes k 0) ≡ true =
        ap (λ l. admits_byte t (get_or l k 0)) b ∙ sym (takes_there t device least k (omega (arith, in_bytes, ap length b))) ∙ ap (takes t device) (sym s.1) ∙ e in
        let w : true ≡ false = sym (passes_there (admits_byte t) bytes cut k (same ∙ s.3) byte) ∙ none k in_cut in cc

pub some_takes : (t : Token) (device bytes : List ℕ) (least count : ℕ) (table cut : List Bool) → bytes ≡ drop least device → count ≡ min (length table) (length bytes) → cut ≡ take count table
    → SomeAt (passes_at (admits_byte t) bytes cut) (length cut) true → NoneTakes t device (said least table) → ⊥
some_takes t device bytes least count table cut b z c some none =
    let k = some.0 in
    let both = passes_both (get_or cut k false) (admits_byte t (get_or bytes k 0)) some.2 in
    let in_count : k < count = omega (arith, some.1, ap length c, length-take count table) in
    let same : get_or cut k false ≡ get_or table k false = ap (λ l. get_or l k false) c ∙ get_or-take count table k false in_count in
    let taken : takes t device (least + k) ≡ true =
    takes_there t device least k (omega (arith, in_count, z, ap length b)) ∙ ap (λ l. admits_byte t (get_or l k 0)) (sym b) ∙ both.1 in
    let w : true ≡ false = sym taken ∙ none (least + k) (said_has least table k (omega (arith, in_count, z)) (sym same ∙ both.0)) in cc

-- a lone length
pub lone_steps : (t : Token) (device : List ℕ) (n : ℕ) → takes t device n ≡ true → Steps t device (n ∷ []) ((n + 1) ∷ [])
lone_steps t device n e = record {
  from = λ m h. elim (contains_cases (n + 1) [] m h) [
    | inl f ↦ (n, sym f, contains_here n [], e)
    | inr none ↦ absurd (contains_none m none)
  ];
  into = λ m h taken. elim (contains_cases n [] m h) [
    | inl f ↦ subst (λ k. Contains ((n + 1) ∷ []) (k + 1)) f (contains_here (n + 1) [])
    | inr none ↦ absurd (contains_none m none)
  ];
}

pub lone_takes : (t : Token) (device : List ℕ) (n : ℕ) → takes t device n ≡ false → NoneTakes t device (n ∷ [])
lone_takes t device n e m h = elim (contains_cases n [] m h) [
  | inl f ↦ ap (takes t device) (sym f) ∙ e
  | inr none ↦ absurd (contains_none m none)
]

pub no_steps : (t : Token) (device before after : List ℕ) → NoneTakes t device before → after ≡ [] → Steps t device before after
no_steps t device before after none e = record {
  from = λ n h. absurd (contains_none n (subst (λ l. Contains l n) e h));
  into = λ m h taken. let w : true ≡ false = sym taken ∙ none m h in cc;
}

pub steps_none : (t : Token) (device before after : List ℕ) → NoneTakes t device before → Steps t device before after → after ≡ []
steps_none t device before [] none s = refl
steps_none t device before (n ∷ after) none s =
    let f = s.from n (contains_here n after) in
    let w : true ≡ false = sym f.3 ∙ none f.0 f.2 in cc

-- lengths beyond the device
pub none_beyond : (t : Token) (device : List ℕ) (least : ℕ) (table : List Bool) → length device ≤ least → NoneTakes t device (said least table)
none_beyond t device least table h n c = go (takes t device n) refl
  where
    go : (v : Bool) → takes t device n ≡ v → takes t device n ≡ false
    go false e = e
    go true e =
        let s : SaidAt least table n = said_from least table n c in
        let below : n < length device = takes_below t device n e in
        absurd (omega (arith, below, s.1, h))

-- no length, and some
pub empty_said : (least : ℕ) (table : List Bool) (some : Bool) → SomeAt (λ k. get_or table k false) (length table) some → not some ≡ (length (said least table) == 0)
empty_said least table true s = let c = said_has least table s.0 s.1 s.2 in sym (ne_eqb (length (said least table)) 0 (λ z. absurd (omega (arith, c.1, z))))
empty_said least table false none = sym (eq-eqb (length (said least table)) 0 (ap length (said_nothing least table none)))

-- the least of what a table says
pub least_said : (least at : ℕ) (table : List Bool) → ((k : ℕ) → k < at → get_or table k false ≡ false) → All (λ m. least + at ≤ m) (said least table)
least_said least at table none i d h =
    let s : SaidAt least table (get_or (said least table) i d) = said_from least table (get_or (said least table) i d) (Contains-get_or (said least table) i d h) in
    elim (cases_lt s.0 at) [
      | inl below ↦ let w : true ≡ false = sym s.3 ∙ none s.0 below in cc
      | inr past ↦ omega (arith, s.1, past)
    ]

pub spread_none : (end : ℕ) (before after : List ℕ) → before ≡ [] → after ≡ [] → Spread end before after
spread_none end before after b a = record {
  sound = λ n c. absurd (contains_none n (subst (λ l. Contains l n) a c));
  complete = λ n m h k c. absurd (contains_none m (subst (λ l. Contains l m) b c));
}

-- whether a number is one that a table says
pub said_at : (least n : ℕ) (table : List Bool) → least ≤ n → Contains (said least table) n → (n - least < length table) × (get_or table (n - least) false ≡ true)
said_at least n table h c =
    let s : SaidAt least table n = said_from least table n c in
    let k : n - least ≡ s.0 = omega (arith, s.1) in
    (omega (arith, k, s.2), ap (λ i. get_or table i false) k ∙ s.3)

pub said_there : (least n : ℕ) (table : List Bool) → least ≤ n → n - least < length table → get_or table (n - least) false ≡ true → Contains (said least table) n
said_there least n table h lt e = subst (Contains (said least table)) (omega arith) (said_has least table (n - least) lt e)

pub said_after : (least n : ℕ) (table : List Bool) → n < least → Contains (said least table) n → ⊥
said_after least n table h c = let s : SaidAt least table n = said_from least table n c in absurd (omega (arith, s.1, h))

pub written_back : (n : ℕ) (new old : List Bool) → n ≡ length new → length new ≡ length old → take n (new ++ drop (length new) old) ≡ new
written_back n new old z e =
    ap (λ k. take n (new ++ k)) (drop_all (length new) old (omega (arith, e))) ∙ take_at new [] n (sym z)

-- no number comes from places at which the table doesn't say so
said_past : (first : ℕ) (b : Bool) (table : List Bool) → b ≡ false → said first (b ∷ table) ≡ said (suc first) table
unfolding said
said_past first true table e = cc
said_past first false table e = refl

pub said_on : (first at : ℕ) (table : List Bool) → ((k : ℕ) → k < at → get_or table k false ≡ false) → said first table ≡ said (first + at) (drop at table)
unfolding said
said_on first zero table none = ap (λ n. said n table) (omega arith)
said_on first (suc at) [] none = refl
said_on first (suc at) (b ∷ table) none =
    said_past first b table (none 0 (omega arith)) ∙ said_on (suc first) at table (λ k h. none (suc k) (omega arith)) ∙ ap (λ n. said n (drop at table)) (omega arith)
