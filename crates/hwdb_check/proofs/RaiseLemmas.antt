-- A map whose value at a key is raised.
use Rattle.std.proofs.Common.{◌≡◌, ℕ, ◌<◌, ◌≤◌, Bool, true, false, List, refl, ap, ◌∙◌, sym, cond, arith, Option, Some}
use Rattle.std.specs.Prelude.{max}
use Rattle.std.specs.Option.{unwrap_or}
use Rattle.std.specs.Borrow.{Bor}
use Rattle.std.specs.declared.cmp.Ordering.{Ordering}
use Rattle.std.specs.declared.cmp.Ordering.TheVariants.{Less, Equal, Greater}
use Rattle.std.specs.Ordering.{nat_cmp, is_eq, ordering_then}
use Rattle.std.specs.Cmp.Lexicographic.{slice_cmp}
use Rattle.std.specs.BTreeMap.{BTreeMap, get, get_by}
use Rattle.std.proofs.lemmas.Bool.{eqb-true}
use Rattle.std.proofs.Math.Nat.{max-eq_left, max-eq_right}
use Rattle.hwdb_spec.specs.Folders.{same}
use Rattle.hwdb_spec.specs.Lines.{is}
use Rattle.hwdb_check.specs.Internal.{last_at, line_at, raised, same_at}
use Rattle.hwdb_check.proofs.RepeatLemmas.{equal_number}
use Rattle.hwdb_spec.specs.Lemmas.Orders.{same_text}

-- a look-up, and what it gives, by whether it is at the key
by_test : (t u : Bool) (new old : Option ℕ) (v number : ℕ) → new ≡ cond t (Some v) old → t ≡ u → (t ≡ true → v ≡ max (unwrap_or old 0) number) → unwrap_or new 0 ≡ raised u number (unwrap_or old 0)
by_test true u new old v number h e f = ap (λ o. unwrap_or o 0) h ∙ f refl ∙ ap (λ b. raised b number (unwrap_or old 0)) e
by_test false u new old v number h e f = ap (λ o. unwrap_or o 0) h ∙ ap (λ b. raised b number (unwrap_or old 0)) e

pub raise_line : (old new : BTreeMap ℕ ℕ) (line by v : ℕ) → v ≡ max (line_at old line) by
    → ((q : ℕ) → get nat_cmp new q ≡ cond (is_eq (nat_cmp line q)) (Some v) (get nat_cmp old q)) → (n : ℕ) → line_at new n ≡ raised (is n line) by (line_at old n)
raise_line old new line by v e h n =
    by_test (is_eq (nat_cmp line n)) (is n line) _ _ v by (h n) (equal_number line n)
    (λ t. e ∙ ap (λ q. max (line_at old q) by) (eqb-true line n (sym (equal_number line n) ∙ t)))

pub equal_pair : (a b : Ordering) → is_eq (ordering_then a b) ≡ cond (is_eq a) (is_eq b) false
equal_pair Less b = refl
equal_pair Equal b = refl
equal_pair Greater b = refl

left : (a b : Bool) → cond a b false ≡ true → a ≡ true
left true b e = refl
left false b e = cc

right : (a b : Bool) → cond a b false ≡ true → b ≡ true
right true b e = e
right false b e = cc

abbrev at : BTreeMap (Bor (List ℕ) × Bor (List ℕ)) ℕ → (p k : List ℕ) → ℕ
at m p k = unwrap_or (get_by (λ q. ordering_then (slice_cmp nat_cmp p q.0.now) (slice_cmp nat_cmp k q.1.now)) m) 0

-- a map with a number put at a pattern and a key
abbrev pub Puts : (p k : Bor (List ℕ)) (v : ℕ) (old new : BTreeMap (Bor (List ℕ) × Bor (List ℕ)) ℕ) → Type 0
Puts p k v old new =
    (q : Bor (List ℕ) × Bor (List ℕ)) → get (λ x y. ordering_then (slice_cmp nat_cmp x.0.now y.0.now) (slice_cmp nat_cmp x.1.now y.1.now)) new q
    ≡ cond (is_eq (ordering_then (slice_cmp nat_cmp p.now q.0.now) (slice_cmp nat_cmp k.now q.1.now))) (Some v)
    (get (λ x y. ordering_then (slice_cmp nat_cmp x.0.now y.0.now) (slice_cmp nat_cmp x.1.now y.1.now)) old q)

pub raise_last : (old new : BTreeMap (Bor (List ℕ) × Bor (List ℕ)) ℕ) (p k : Bor (List ℕ)) (line v : ℕ) → v ≡ max (last_at old p k) line
    → ((q : Bor (List ℕ) × Bor (List ℕ)) → get (λ x y. ordering_then (slice_cmp nat_cmp x.0.now y.0.now) (slice_cmp nat_cmp x.1.now y.1.now)) new q
    ≡ cond (is_eq (ordering_then (slice_cmp nat_cmp p.now q.0.now) (slice_cmp nat_cmp k.now q.1.now))) (Some v)
    (get (λ x y. ordering_then (slice_cmp nat_cmp x.0.now y.0.now) (slice_cmp nat_cmp x.1.now y.1.now)) old q))
    → (x y : Bor (List ℕ)) → last_at new x y ≡ raised (cond (same p.now x.now) (same k.now y.now) false) line (last_at old x y)
raise_last old new p k line v e h x y =
    let both = equal_pair (slice_cmp nat_cmp p.now x.now) (slice_cmp nat_cmp k.now y.now) in
    by_test (is_eq (ordering_then (slice_cmp nat_cmp p.now x.now) (slice_cmp nat_cmp k.now y.now))) _ _ _ v line (h (x, y)) both
    (λ t.
    let u = sym both ∙ t in
    e
    ∙ ap (λ q. max (at old q k.now) line) (same_text p.now x.now (left (same p.now x.now) (same k.now y.now) u))
    ∙ ap (λ q. max (at old x.now q) line) (same_text k.now y.now (right (same p.now x.now) (same k.now y.now) u)))

-- the greater of both, if the lesser one was put first
twice : (t : Bool) (a b c new : Option ℕ) → new ≡ cond t b c → cond t a new ≡ cond t a c
twice true a b c new e = refl
twice false a b c new e = e

pub raise_twice : (old mid new : BTreeMap (Bor (List ℕ) × Bor (List ℕ)) ℕ) (p k : Bor (List ℕ)) (line before : ℕ) → before ≡ last_at old p k → line < before
    → Puts p k line old mid → Puts p k before mid new
    → (x y : Bor (List ℕ)) → last_at new x y ≡ raised (cond (same p.now x.now) (same k.now y.now) false) line (last_at old x y)
raise_twice old mid new p k line before e h first then =
    raise_last old new p k line before (sym (ap (λ n. max n line) (sym e) ∙ max-eq_left (omega (arith, h))))
    (λ q. then q ∙ twice (is_eq (ordering_then (slice_cmp nat_cmp p.now q.0.now) (slice_cmp nat_cmp k.now q.1.now))) (Some before) (Some line) _ _ (first q))

pub raise_once : (old new : BTreeMap (Bor (List ℕ) × Bor (List ℕ)) ℕ) (p k : Bor (List ℕ)) (line before : ℕ) → before ≡ last_at old p k → before ≤ line
    → Puts p k line old new
    → (x y : Bor (List ℕ)) → last_at new x y ≡ raised (cond (same p.now x.now) (same k.now y.now) false) line (last_at old x y)
raise_once old new p k line before e h put =
    raise_last old new p k line line (sym (ap (λ n. max n line) (sym e) ∙ max-eq_right h)) put

-- a pattern and a key, and a value
abbrev pub Three : Type 0
Three = (Bor (List ℕ) × Bor (List ℕ)) × Bor (List ℕ)

abbrev pub by_three : Three → Three → Ordering
by_three x y =
    ordering_then (ordering_then (slice_cmp nat_cmp x.0.0.now y.0.0.now) (slice_cmp nat_cmp x.0.1.now y.0.1.now)) (slice_cmp nat_cmp x.1.now y.1.now)

abbrev at_three : BTreeMap Three ℕ → (p k v : List ℕ) → ℕ
at_three m p k v =
    unwrap_or (get_by (λ q. ordering_then (ordering_then (slice_cmp nat_cmp p q.0.0.now) (slice_cmp nat_cmp k q.0.1.now)) (slice_cmp nat_cmp v q.1.now)) m) 0

-- a map with a number put there
abbrev pub PutsThree : (at : Three) (n : ℕ) (old new : BTreeMap Three ℕ) → Type 0
PutsThree at n old new = (q : Three) → get by_three new q ≡ cond (is_eq (by_three at q)) (Some n) (get by_three old q)

equal_three : (a b c : Ordering) → is_eq (ordering_then (ordering_then a b) c) ≡ cond (is_eq a) (cond (is_eq b) (is_eq c) false) false
equal_three Less b c = refl
equal_three Equal b c = equal_pair b c
equal_three Greater b c = refl

raise_three : (old new : BTreeMap Three ℕ) (p k w : Bor (List ℕ)) (line n : ℕ) → n ≡ max (same_at old p k w) line → PutsThree ((p, k), w) n old new
    → (x y z : Bor (List ℕ)) → same_at new x y z ≡ raised (cond (same p.now x.now) (cond (same k.now y.now) (same w.now z.now) false) false) line (same_at old x y z)
raise_three old new p k w line n e h x y z =
    let all = equal_three (slice_cmp nat_cmp p.now x.now) (slice_cmp nat_cmp k.now y.now) (slice_cmp nat_cmp w.now z.now) in
    by_test (is_eq (by_three ((p, k), w) ((x, y), z))) _ _ _ n line (h ((x, y), z)) all
    (λ t.
    let u = sym all ∙ t in
    let later = right (same p.now x.now) (cond (same k.now y.now) (same w.now z.now) false) u in
    e
    ∙ ap (λ q. max (at_three old q k.now w.now) line) (same_text p.now x.now (left (same p.now x.now) (cond (same k.now y.now) (same w.now z.now) false) u))
    ∙ ap (λ q. max (at_three old x.now q w.now) line) (same_text k.now y.now (left (same k.now y.now) (same w.now z.now) later))
    ∙ ap (λ q. max (at_three old x.now y.now q) line) (same_text w.now z.now (right (same k.now y.now) (same w.now z.now) later)))

pub three_twice : (old mid new : BTreeMap Three ℕ) (p k w : Bor (List ℕ)) (line before : ℕ) → before ≡ same_at old p k w → line < before
    → PutsThree ((p, k), w) line old mid → PutsThree ((p, k), w) before mid new
    → (x y z : Bor (List ℕ)) → same_at new x y z ≡ raised (cond (same p.now x.now) (cond (same k.now y.now) (same w.now z.now) false) false) line (same_at old x y z)
three_twice old mid new p k w line before e h first then =
    raise_three old new p k w line before (sym (ap (λ n. max n line) (sym e) ∙ max-eq_left (omega (arith, h))))
    (λ q. then q ∙ twice (is_eq (by_three ((p, k), w) q)) (Some before) (Some line) _ _ (first q))

pub three_once : (old new : BTreeMap Three ℕ) (p k w : Bor (List ℕ)) (line before : ℕ) → before ≡ same_at old p k w → before ≤ line
    → PutsThree ((p, k), w) line old new
    → (x y z : Bor (List ℕ)) → same_at new x y z ≡ raised (cond (same p.now x.now) (cond (same k.now y.now) (same w.now z.now) false) false) line (same_at old x y z)
three_once old new p k w line before e h put =
    raise_three old new p k w line line (sym (ap (λ n. max n line) (sym e) ∙ max-eq_right h)) put
