-- The prefixes of a device that tokens match, and paths that grow at their end.
use Rattle.std.proofs.Common.{◌≡◌, ℕ, zero, suc, ◌-◌, ◌+◌, ◌<◌, ◌≤◌, ◌↔◌, Bool, true, false, IsTrue, List, [], ◌∷◌, ◌++◌, take, drop, replicate, length, get_or, refl, ap, ◌∙◌, sym, subst, cond, ◌==◌, ◌||◌, nat_eq, not, arith, inl, inr, ◌⊎◌, ne_eqb, eq-eqb, append_assoc, lt-ltb, le-ltb}
use Rattle.std.specs.List.{list_any}
use Rattle.std.specs.Prelude.{Contains, map, filter, nat_lt, All, Result, Ok, Err, IsOk, IfOk, IsOkAnd}
use Rattle.std.proofs.lemmas.Bool.{cases_eq, cases_lt}
use Rattle.std.proofs.lemmas.List.{append-nil, take_more, take-take, take_at, get_or-take, get_or_at, length-take-le, length-append, take_all, drop-drop, get_or-drop, get_or-replicate, length-drop, take-append-drop}
use Rattle.std.proofs.lemmas.List.Elements.{Contains-get_or, All-contains}
use Rattle.std.proofs.Math.Seq.{take-add}
use Rattle.hwdb_spec.specs.Patterns.{Token, star, one, bracket, literal, token_at, token_size, tokens_from, tokens, admits_byte, Admits, Matches}
use Rattle.hwdb_pattern.specs.Views.{Lengths, takes, NoneTakes, open_part, Reached, StandsFor, IsLost}
use Rattle.hwdb_pattern.specs.Internal.Prefixes.{stepped, Spread, Between, Follows, Along, Steps, IsAfter, IsRun}
use Rattle.hwdb_spec.specs.Tree.{closed_from, closed_part, IsLive}
use Rattle.hwdb_pattern.proofs.TokenLemmas.{first_token, no_tokens, no_tokens_at, not_star, star_at}
use Rattle.hwdb_pattern.proofs.ClosedPartLemmas.{closed_tokens, closed_cut, closed_whole, closed_append, open_append}
use Rattle.hwdb_pattern.proofs.GrowthLemmas.{Front, front_of, take_least}
use Rattle.hwdb_spec.specs.Forms.{is_star}
use Rattle.hwdb_pattern.specs.Lemmas.Matching.{one_byte}
use Rattle.hwdb_spec.specs.Lemmas.Lists.{same_rest}

-- one more token at the end
pub matches_more : (ts : List Token) (t : Token) (d piece : List ℕ) → Matches ts d → Admits t piece → Matches (ts ++ t ∷ []) (d ++ piece)
matches_more [] t d piece m a = (piece, [], ap (λ (x : List ℕ). x ++ piece) m ∙ sym (append-nil piece), a, refl)
matches_more (u ∷ ts) t d piece m a = (m.0, m.1 ++ piece, ap (λ (x : List ℕ). x ++ piece) m.2 ∙ append_assoc m.0 m.1 piece, m.3, matches_more ts t m.1 piece m.4 a)

-- where the last token begins
pub record LastCut (ts : List Token) (t : Token) (d : List ℕ) : Type 0 where
  pub front : List ℕ
  pub piece : List ℕ
  pub whole : d ≡ front ++ piece
  pub before : Matches ts front
  pub admitted : Admits t piece

pub last_cut : (ts : List Token) (t : Token) (d : List ℕ) → Matches (ts ++ t ∷ []) d → LastCut ts t d
last_cut [] t d m = record { front = []; piece = m.0; whole = m.2 ∙ ap (λ (x : List ℕ). m.0 ++ x) m.4 ∙ append-nil m.0; before = refl; admitted = m.3 }
last_cut (u ∷ ts) t d m =
    let r : LastCut ts t m.1 = last_cut ts t m.1 m.4 in
    record {
      front = m.0 ++ r.front;
      piece = r.piece;
      whole = m.2 ∙ ap (λ (x : List ℕ). m.0 ++ x) r.whole ∙ sym (append_assoc m.0 r.front r.piece);
      before = (m.0, r.front, refl, m.3, r.before);
      admitted = r.admitted;
    }

-- membership, by the first element
pub contains_cases : (y : ℕ) (xs : List ℕ) (x : ℕ) → Contains (y ∷ xs) x → (y ≡ x) ⊎ Contains xs x
contains_cases y xs x c = go c.0 c.1 c.2
  where
    go : (k : ℕ) → k < length (y ∷ xs) → get_or (y ∷ xs) k x ≡ x → (y ≡ x) ⊎ Contains xs x
    go zero h e = inl e
    go (suc k) h e = inr (k, omega arith, e)

pub contains_here : (x : ℕ) (xs : List ℕ) → Contains (x ∷ xs) x
contains_here x xs = (0, omega arith, refl)

pub contains_there : (y : ℕ) (xs : List ℕ) (x : ℕ) → Contains xs x → Contains (y ∷ xs) x
contains_there y xs x c = (suc c.0, omega (arith, c.1), c.2)

pub contains_none : (x : ℕ) → Contains [] x → ⊥
contains_none x c = absurd (omega (arith, c.1))

pub any_contains : (xs : List ℕ) (n : ℕ) → list_any (λ y. nat_eq y n) xs ≡ true → Contains xs n
any_contains [] n h = cc
any_contains (x ∷ xs) n h = elim (cases_eq x n) [
  | inl e ↦ subst (λ (m : ℕ). Contains (x ∷ xs) m) e (contains_here x xs)
  | inr d ↦ contains_there x xs n (any_contains xs n (go (nat_eq x n) (list_any (λ y. nat_eq y n) xs) (ne_eqb x n d) h))
]
  where
    go : (c d : Bool) → c ≡ false → (c || d) ≡ true → d ≡ true
    go true d e h = cc
    go false d e h = h

pub contains_any : (xs : List ℕ) (n : ℕ) → Contains xs n → list_any (λ y. nat_eq y n) xs ≡ true
contains_any [] n c = absurd (contains_none n c)
contains_any (x ∷ xs) n c = elim (contains_cases x xs n c) [
  | inl e ↦ ap (λ (b : Bool). b || list_any (λ y. nat_eq y n) xs) (eq-eqb x n e)
  | inr later ↦ go (nat_eq x n) _ (contains_any xs n later)
]
  where
    go : (c d : Bool) → d ≡ true → (c || d) ≡ true
    go true d h = refl
    go false d h = h

-- where a stepped length comes from
pub record From (t : Token) (device xs : List ℕ) (n : ℕ) : Type 0 where
  pub before : ℕ
  pub next : n ≡ before + 1
  pub member : Contains xs before
  pub taken : takes t device before ≡ true

farther : (t : Token) (device : List ℕ) (x : ℕ) (xs : List ℕ) (n : ℕ) → From t device xs n → From t device (x ∷ xs) n
farther t device x xs n f = record { before = f.before; next = f.next; member = contains_there x xs f.before f.member; taken = f.taken }

from_case : (t : Token) (device : List ℕ) (x : ℕ) (xs : List ℕ) (n : ℕ) (c : Bool) → takes t device x ≡ c
    → (Contains (stepped t device xs) n → From t device xs n)
    → Contains (map (λ m. m + 1) (cond c (x ∷ filter (takes t device) xs) (filter (takes t device) xs))) n → From t device (x ∷ xs) n
from_case t device x xs n true e ih h = elim (contains_cases (x + 1) (stepped t device xs) n h) [
  | inl s ↦ record { before = x; next = sym s; member = contains_here x xs; taken = e }
  | inr r ↦ farther t device x xs n (ih r)
]
from_case t device x xs n false e ih h = farther t device x xs n (ih h)

stepped_from : (t : Token) (device xs : List ℕ) (n : ℕ) → Contains (stepped t device xs) n → From t device xs n
stepped_from t device [] n h = absurd (contains_none n h)
stepped_from t device (x ∷ xs) n h = from_case t device x xs n (takes t device x) refl (stepped_from t device xs n) h

into_here : (x : ℕ) (xs ys : List ℕ) (c : Bool) → c ≡ true → Contains (map (λ m. m + 1) (cond c (x ∷ xs) ys)) (x + 1)
into_here x xs ys true e = contains_here (x + 1) (map (λ m. m + 1) xs)
into_here x xs ys false e = cc

into_there : (x : ℕ) (xs : List ℕ) (c : Bool) (n : ℕ) → Contains (map (λ m. m + 1) xs) n → Contains (map (λ m. m + 1) (cond c (x ∷ xs) xs)) n
into_there x xs true n h = contains_there (x + 1) (map (λ m. m + 1) xs) n h
into_there x xs false n h = h

stepped_into : (t : Token) (device xs : List ℕ) (k : ℕ) → Contains xs k → takes t device k ≡ true → Contains (stepped t device xs) (k + 1)
stepped_into t device [] k h e = absurd (contains_none k h)
stepped_into t device (x ∷ xs) k h e = elim (contains_cases x xs k h) [
  | inl s ↦ subst (λ (m : ℕ). Contains (stepped t device (x ∷ xs)) (m + 1)) s (into_here x (filter (takes t device) xs) (filter (takes t device) xs) (takes t device x) (ap (takes t device) s ∙ e))
  | inr r ↦ into_there x (filter (takes t device) xs) (takes t device x) (k + 1) (stepped_into t device xs k r e)
]

pub takes_below : (t : Token) (device : List ℕ) (n : ℕ) → takes t device n ≡ true → n < length device
takes_below t device n h = elim (cases_lt n (length device)) [
  | inr past ↦ absurd (go (nat_lt n (length device)) _ (le-ltb n (length device) past) h)
  | inl below ↦ below
]
  where
    go : (c x : Bool) → c ≡ false → cond c x false ≡ true → ⊥
    go true x e h = cc
    go false x e h = cc

pub takes_admits : (t : Token) (device : List ℕ) (n : ℕ) → takes t device n ≡ true → IsTrue (admits_byte t (get_or device n 0))
takes_admits t device n h = go (nat_lt n (length device)) _ h
  where
    go : (c x : Bool) → cond c x false ≡ true → x ≡ true
    go true x h = h
    go false x h = cc

pub takes_by : (t : Token) (device : List ℕ) (n : ℕ) → n < length device → IsTrue (admits_byte t (get_or device n 0)) → takes t device n ≡ true
takes_by t device n h a = ap (λ (c : Bool). cond c (admits_byte t (get_or device n 0)) false) (lt-ltb n (length device) h) ∙ a

admits_piece : (t : Token) (b : ℕ) → IsTrue (admits_byte t b) → Admits t (b ∷ [])
admits_piece star b a = cc
admits_piece one b a = (b, refl, a)
admits_piece (bracket found) b a = (b, refl, a)
admits_piece (literal own) b a = (b, refl, a)

-- one more token that isn't a star
pub lengths_steps : (ts : List Token) (t : Token) (device xs ys : List ℕ) → is_star t ≡ false → Steps t device xs ys → Lengths ts device xs → Lengths (ts ++ t ∷ []) device ys
lengths_steps ts t device xs ys s st l = record {
  sound = λ n h. from_sound n (st.from n h);
  complete = λ n h m. from_complete n h (last_cut ts t (take n device) m);
}
  where
    from_sound : (n : ℕ) → (m : ℕ) × (n ≡ m + 1) × Contains xs m × (takes t device m ≡ true) → (n ≤ length device) × Matches (ts ++ t ∷ []) (take n device)
    from_sound n f =
        let b : f.0 < length device = takes_below t device f.0 f.3 in
        let e : take n device ≡ take f.0 device ++ get_or device f.0 0 ∷ [] = ap (λ (k : ℕ). take k device) f.1 ∙ take_more device f.0 0 b in (
          omega (arith, f.1, b),
          subst (λ (d : List ℕ). Matches (ts ++ t ∷ []) d) (sym e)
              (matches_more ts t (take f.0 device) (get_or device f.0 0 ∷ []) (l.sound f.0 f.2).1 (admits_piece t _ (takes_admits t device f.0 f.3))),
        )

    from_complete : (n : ℕ) → n ≤ length device → LastCut ts t (take n device) → Contains ys n
    from_complete n h c =
        let a : (b : ℕ) × (c.piece ≡ b ∷ []) × IsTrue (admits_byte t b) = one_byte t c.piece s c.admitted in
        let w : take n device ≡ c.front ++ a.0 ∷ [] = c.whole ∙ ap (λ (p : List ℕ). c.front ++ p) a.1 in
        let z : n ≡ length c.front + 1 = omega (arith, length-take-le n device h, ap length w, length-append c.front (a.0 ∷ [])) in
        let k : length c.front < length device = omega arith in
        let f : take (length c.front) device ≡ c.front =
        sym (take-take (length c.front) n device (omega arith)) ∙ ap (λ (d : List ℕ). take (length c.front) d) w ∙ take_at c.front (a.0 ∷ []) (length c.front) refl in
        let b : get_or device (length c.front) 0 ≡ a.0 =
        sym (get_or-take n device (length c.front) 0 (omega arith)) ∙ ap (λ (d : List ℕ). get_or d (length c.front) 0) w ∙ get_or_at c.front a.0 [] 0 (length c.front) refl in
        subst (λ (m : ℕ). Contains ys m) (sym z)
        (st.into (length c.front)
        (l.complete (length c.front) (omega arith) (subst (λ (d : List ℕ). Matches ts d) (sym f) c.before))
        (takes_by t device (length c.front) k (subst (λ (x : ℕ). IsTrue (admits_byte t x)) (sym b) a.2)))

pub steps_stepped : (t : Token) (device xs : List ℕ) → Steps t device xs (stepped t device xs)
steps_stepped t device xs = record {
  from = λ n h. let f : From t device xs n = stepped_from t device xs n h in (f.before, f.next, f.member, f.taken);
  into = λ m c e. stepped_into t device xs m c e;
}

sum_of : (n m : ℕ) → m ≤ n → n ≡ m + (n - m)
sum_of n m h = omega arith

-- a star at the end: every length from the least one on
pub lengths_star : (ts : List Token) (device xs ys : List ℕ) → Lengths ts device xs → Spread (length device) xs ys → Lengths (ts ++ star ∷ []) device ys
lengths_star ts device xs ys l p = record {
  sound = λ n h. ((p.sound n h).0, spread_sound n (p.sound n h).1 (p.sound n h).2 (p.sound n h).0 (p.sound n h).3);
  complete = λ n h m. spread_complete n h (last_cut ts star (take n device) m);
}
  where
    spread_sound : (n m : ℕ) → m ≤ n → n ≤ length device → Contains xs m → Matches (ts ++ star ∷ []) (take n device)
    spread_sound n m h k c =
        let e : take n device ≡ take m device ++ take (n - m) (drop m device) =
        ap (λ (i : ℕ). take i device) (sum_of n m h) ∙ take-add m (n - m) device in
        subst (λ (d : List ℕ). Matches (ts ++ star ∷ []) d) (sym e)
        (matches_more ts star (take m device) (take (n - m) (drop m device)) (l.sound m c).1 tt)

    spread_complete : (n : ℕ) → n ≤ length device → LastCut ts star (take n device) → Contains ys n
    spread_complete n h c =
        let z : n ≡ length c.front + length c.piece = omega (arith, length-take-le n device h, ap length c.whole, length-append c.front c.piece) in
        let f : take (length c.front) device ≡ c.front =
        sym (take-take (length c.front) n device (omega arith)) ∙ ap (λ (d : List ℕ). take (length c.front) d) c.whole ∙ take_at c.front c.piece (length c.front) refl in
        p.complete n (length c.front) h (omega arith)
        (l.complete (length c.front) (omega arith) (subst (λ (d : List ℕ). Matches ts d) (sym f) c.before))

pub alive : (r : Reached) (path : List ℕ) → StandsFor r path → 0 < length r.lengths → IsLive path r.device
alive r path s h =
    let c : Contains r.lengths (get_or r.lengths 0 0) = Contains-get_or r.lengths 0 0 h in
    (get_or r.lengths 0 0, (s.met.sound (get_or r.lengths 0 0) c).0, (s.met.sound (get_or r.lengths 0 0) c).1)

pub alive_has : (r : Reached) (path : List ℕ) → StandsFor r path → IsLive path r.device → 0 < length r.lengths
alive_has r path s l = let c : Contains r.lengths l.0 = s.met.complete l.0 l.1 l.2 in omega (arith, c.1)

whole_prefix : (ts : List Token) (device : List ℕ) → Matches ts device → Matches ts (take (length device) device)
whole_prefix ts device m = subst (λ (d : List ℕ). Matches ts d) (sym (take_all (length device) device (omega arith))) m

pub no_bytes : (l : List ℕ) → length l ≡ 0 → l ≡ []
no_bytes [] h = refl
no_bytes (x ∷ l) h = absurd (omega arith)

-- if no byte is kept, the closed part is the path
whole_closed : (r : Reached) (path : List ℕ) → StandsFor r path → length r.kept ≡ 0 → tokens (closed_part path) ≡ tokens path
whole_closed r path s k =
    ap tokens (sym (s.rest ∙ ap (λ (l : List ℕ). closed_part path ++ l) (no_bytes r.kept k) ∙ append-nil (closed_part path)))

pub accepted : (r : Reached) (path : List ℕ) → StandsFor r path → length r.kept ≡ 0 → Contains r.lengths (length r.device) → Matches (tokens path) r.device
accepted r path s k c =
    let e : tokens (closed_part path) ≡ tokens path = whole_closed r path s k in
    subst (λ (ts : List Token). Matches ts r.device) e
    (subst (λ (d : List ℕ). Matches (tokens (closed_part path)) d) (take_all (length r.device) r.device (omega arith)) (s.met.sound (length r.device) c).1)

pub accepts_has : (r : Reached) (path : List ℕ) → StandsFor r path → length r.kept ≡ 0 → Matches (tokens path) r.device → Contains r.lengths (length r.device)
accepts_has r path s k m =
    let e : tokens (closed_part path) ≡ tokens path = whole_closed r path s k in
    s.met.complete (length r.device) (omega arith) (whole_prefix (tokens (closed_part path)) r.device (subst (λ (ts : List Token). Matches ts r.device) (sym e) m))

pub starts : (device lengths kept : List ℕ) → lengths ≡ 0 ∷ [] → kept ≡ [] → StandsFor (record { device = device; lengths = lengths; kept = kept }) []
unfolding closed_from tokens_from
starts device lengths kept e k = record {
  met = record {
    sound = λ n c. only_zero n (subst (λ (l : List ℕ). Contains l n) e c);
    complete = λ n h m. subst (λ (l : List ℕ). Contains l n) (sym e) (is_zero n h (omega (arith, length-take-le n device h, ap length m)));
  };
  rest = sym k;
}
  where
    only_zero : (n : ℕ) → Contains (0 ∷ []) n → (n ≤ length device) × (take n device ≡ [])
    only_zero n c = elim (contains_cases 0 [] n c) [
      | inl z ↦ (omega arith, ap (λ (i : ℕ). take i device) (sym z))
      | inr none ↦ absurd (contains_none n none)
    ]

    is_zero : (n : ℕ) → n ≤ length device → n ≡ 0 → Contains (0 ∷ []) n
    is_zero n h z = (0, omega arith, sym z)

-- if the token takes no next byte, no length is left
pub stepped_none : (t : Token) (device xs : List ℕ) → NoneTakes t device xs → stepped t device xs ≡ []
stepped_none t device [] n = refl
stepped_none t device (x ∷ xs) n =
    go (takes t device x) (n x (contains_here x xs)) (stepped_none t device xs (λ k c. n k (contains_there x xs k c)))
  where
    go : (c : Bool) → c ≡ false → stepped t device xs ≡ [] → map (λ m. m + 1) (cond c (x ∷ filter (takes t device) xs) (filter (takes t device) xs)) ≡ []
    go true e h = cc
    go false e h = h

pub ok_and : {T E : Type 0} (r : Result T E) (P : T → Type 0) → IsOk r → IfOk r P → IsOkAnd r P
ok_and (Ok x) P o p = p
ok_and (Err e) P o p = cc

-- the lengths after tokens, one after the other
pub follows_none : (device before : List ℕ) → Follows [] device before before
follows_none device before = record { lengths = λ ts l. subst (λ (us : List Token). Lengths us device before) (sym (append-nil ts)) l }

pub follows_star : (device before after : List ℕ) → Spread (length device) before after → Follows (star ∷ []) device before after
follows_star device before after p = record { lengths = λ ts l. lengths_star ts device before after l p }

pub follows_one : (t : Token) (device before after : List ℕ) → is_star t ≡ false → after ≡ stepped t device before → Follows (t ∷ []) device before after
follows_one t device before after s e = record {
  lengths = λ ts l. subst (λ (ys : List ℕ). Lengths (ts ++ t ∷ []) device ys) (sym e) (lengths_steps ts t device before (stepped t device before) s (steps_stepped t device before) l);
}

pub follows_steps : (t : Token) (device before after : List ℕ) → is_star t ≡ false → Steps t device before after → Follows (t ∷ []) device before after
follows_steps t device before after s st = record { lengths = λ ts l. lengths_steps ts t device before after s st l }

pub follows_then : (first more : List Token) (device before mid after : List ℕ) → Follows first device before mid → Follows more device mid after → Follows (first ++ more) device before after
follows_then first more device before mid after f g = record {
  lengths = λ ts l. subst (λ (us : List Token). Lengths us device after) (append_assoc ts first more) (g.lengths (ts ++ first) (f.lengths ts l));
}

pub first_star : (text device before after : List ℕ) → get_or text 0 0 ≡ 42 → Spread (length device) before after → Follows (token_at text ∷ []) device before after
first_star text device before after e s =
    subst (λ (t : Token). Follows (t ∷ []) device before after) (sym (star_at text e)) (follows_star device before after s)

-- if no length is left, none comes back
none_more : (ts more : List Token) (device : List ℕ) → Lengths ts device [] → Lengths (ts ++ more) device []
none_more ts more device l = record {
  sound = λ n c. absurd (contains_none n c);
  complete = λ n h m.
      let f : Front ts (take n device) = front_of ts more (take n device) m in
      let cut : (length f.piece ≤ length device) × (take (length f.piece) device ≡ f.piece) = take_least n device f.piece f.rest f.whole in
      absurd (contains_none (length f.piece) (l.complete (length f.piece) cut.0 (subst (λ (d : List ℕ). Matches ts d) (sym cut.1) f.met)));
}

pub follows_nothing : (first more : List Token) (device before : List ℕ) → Follows first device before [] → Follows (first ++ more) device before []
follows_nothing first more device before f = record {
  lengths = λ ts l. subst (λ (us : List Token). Lengths us device []) (append_assoc ts first more) (none_more (ts ++ first) more device (f.lengths ts l));
}

-- the tokens before a place were followed, and one more
pub along_step : (device before mid after text rest : List ℕ) (at size : ℕ) → rest ≡ drop at text → at < length text → size ≡ token_size (token_at rest)
    → Follows (token_at rest ∷ []) device mid after → Along device before mid text at → Along device before after text (at + size)
along_step device before mid after text rest at size r h s f a =
    let k : 0 < length rest = omega (arith, ap length r, length-drop at text) in
    let d : drop (token_size (token_at rest)) rest ≡ drop (at + size) text = ap (λ (n : ℕ). drop n rest) (sym s) ∙ ap (drop size) r ∙ drop-drop size at text in
    record {
      done = a.done ++ token_at rest ∷ [];
      cut = a.cut ∙ ap (λ (l : List ℕ). a.done ++ tokens l) (sym r)
          ∙ ap (λ (us : List Token). a.done ++ us) (first_token rest k ∙ ap (λ (l : List ℕ). token_at rest ∷ tokens l) d)
          ∙ sym (append_assoc a.done (token_at rest ∷ []) (tokens (drop (at + size) text)));
      follows = follows_then a.done (token_at rest ∷ []) device before mid after a.follows f;
    }

-- nothing is followed yet
pub along_start : (device before text : List ℕ) → Along device before before text 0
along_start device before text = record { done = []; cut = refl; follows = follows_none device before }

-- the tokens before a place, and then those of what is left before another one
pub along_then : (device before mid after text rest : List ℕ) (at size : ℕ) → rest ≡ drop at text
    → Along device mid after rest size → Along device before mid text at → Along device before after text (at + size)
along_then device before mid after text rest at size r b a = record {
  done = a.done ++ b.done;
  cut = a.cut ∙ ap (λ (l : List ℕ). a.done ++ tokens l) (sym r) ∙ ap (λ (us : List Token). a.done ++ us) b.cut
      ∙ sym (append_assoc a.done b.done (tokens (drop size rest)))
      ∙ ap (λ (l : List ℕ). (a.done ++ b.done) ++ tokens l) (ap (drop size) r ∙ drop-drop size at text);
  follows = follows_then a.done b.done device before mid after a.follows b.follows;
}

-- the tokens before a place, and then all of what is left
pub along_rest : (device before mid after text rest : List ℕ) (at : ℕ) → rest ≡ drop at text
    → Along device before mid text at → Follows (tokens rest) device mid after → Follows (tokens text) device before after
along_rest device before mid after text rest at r a f =
    subst (λ (us : List Token). Follows us device before after)
    (sym (a.cut ∙ ap (λ (l : List ℕ). a.done ++ tokens l) (sym r)))
    (follows_then a.done (tokens rest) device before mid after a.follows f)

-- after a star another one changes nothing
spread_again : (end : ℕ) (before after : List ℕ) → Spread end before after → Spread end after after
spread_again end before after s = record {
  sound = λ n c. ((s.sound n c).0, n, omega arith, c);
  complete = λ n m h k c.
      let from = s.sound m c in
      s.complete n from.1 h (omega (arith, k, from.2)) from.3;
}

-- a run of stars is one star
more_stars : (device before after text : List ℕ) (n : ℕ) → Spread (length device) before after → n < length text → ((k : ℕ) → k < suc n → get_or text k 0 ≡ 42)
    → Along device before after text (suc n)
more_stars device before after text zero s h e =
    along_step device before before after text text 0 1 refl h (ap token_size (sym (star_at text (e 0 (omega arith)))))
    (first_star text device before after (e 0 (omega arith)) s) (along_start device before text)
more_stars device before after text (suc n) s h e =
    let rest : List ℕ = drop (suc n) text in
    let first : get_or rest 0 0 ≡ 42 = get_or-drop (suc n) text 0 0 ∙ ap (λ i. get_or text i 0) (omega arith) ∙ e (suc n) (omega arith) in
    let at : suc n + 1 ≡ suc (suc n) = omega arith in
    subst (λ m. Along device before after text m) at
    (along_step device before after after text rest (suc n) 1 refl h (ap token_size (sym (star_at rest first)))
    (first_star rest device after after first (spread_again (length device) before after s))
    (more_stars device before after text n s (omega arith) (λ k l. e k (omega arith))))

pub along_stars : (device before after text : List ℕ) (size : ℕ) → Spread (length device) before after → 0 < size → size ≤ length text → ((k : ℕ) → k < size → get_or text k 0 ≡ 42)
    → Along device before after text size
along_stars device before after text zero s some h e = absurd (omega arith)
along_stars device before after text (suc n) s some h e = more_stars device before after text n s (omega arith) e

-- one token, or a run of stars
pub along_after : (device before after text : List ℕ) (size : ℕ) → 0 < length text → 0 < size → size ≤ length text → IsAfter device before after text → IsRun text size
    → Along device before after text size
along_after device before after text size some z h a r = elim (cases_eq (get_or text 0 0) 42) [
  | inl e ↦ along_stars device before after text size (a.star e) z h (r.stars e)
  | inr n ↦
      subst (λ m. Along device before after text m) (omega arith)
      (along_step device before before after text text 0 size refl some (r.token n)
      (follows_steps (token_at text) device before after (not_star text n) (a.token n)) (along_start device before text))
]

pub along_end : (device before after text : List ℕ) (at : ℕ) → length text ≤ at → Along device before after text at → Follows (tokens text) device before after
along_end device before after text at h a =
    subst (λ (us : List Token). Follows us device before after)
    (sym (a.cut ∙ ap (λ (us : List Token). a.done ++ us) (no_tokens_at text at h) ∙ append-nil a.done)) a.follows

pub along_dead : (device before after text : List ℕ) (at : ℕ) → length after ≡ 0 → Along device before after text at → Follows (tokens text) device before after
along_dead device before after text at h a =
    let z : after ≡ [] = no_bytes after h in
    subst (λ (us : List Token). Follows us device before after) (sym a.cut)
    (subst (λ (ys : List ℕ). Follows (a.done ++ tokens (drop at text)) device before ys) (sym z)
    (follows_nothing a.done (tokens (drop at text)) device before (subst (λ (ys : List ℕ). Follows a.done device before ys) z a.follows)))

pub along_first : (device before mid after text rest : List ℕ) (size : ℕ) → rest ≡ drop size text → 0 < length text → size ≡ token_size (token_at text)
    → Follows (token_at text ∷ []) device before mid → Follows (tokens rest) device mid after → Follows (tokens text) device before after
along_first device before mid after text rest size r h s f g =
    subst (λ (us : List Token). Follows us device before after)
    (sym (first_token text h ∙ ap (λ (n : ℕ). token_at text ∷ tokens (drop n text)) (sym s) ∙ ap (λ (l : List ℕ). token_at text ∷ tokens l) (sym r)))
    (follows_then (token_at text ∷ []) (tokens rest) device before mid after f g)

pub along_none : (device before text : List ℕ) → length text ≡ 0 → Follows (tokens text) device before before
along_none device before text h =
    subst (λ (us : List Token). Follows us device before before) (sym (ap tokens (no_bytes text h) ∙ no_tokens)) (follows_none device before)

-- every length is within the device
pub spread_within : (device before after : List ℕ) → Spread (length device) before after → All (λ n. n ≤ length device) after
spread_within device before after p k d h = (p.sound (get_or after k d) (Contains-get_or after k d h)).0

pub after_within : (device before after text : List ℕ) → IsAfter device before after text → All (λ n. n ≤ length device) after
after_within device before after text a = elim (cases_eq (get_or text 0 0) 42) [
  | inl e ↦ spread_within device before after (a.star e)
  | inr n ↦ λ k d h.
      let c : Contains after (get_or after k d) = Contains-get_or after k d h in
      let f = (a.token n).from (get_or after k d) c in
      let b = takes_below (token_at text) device f.0 f.3 in
      omega (arith, f.1, b)
]

pub between_spread : (end least n : ℕ) (before after : List ℕ) → All (λ m. least ≤ m) before → (least < end + 1 → Contains before least) → n ≡ end + 1
    → Between least n after → Spread end before after
between_spread end least n before after a m e r = record {
  sound = λ i c. (omega (arith, (r.sound i c).1), least, (r.sound i c).0, m (omega (arith, (r.sound i c).0, (r.sound i c).1)));
  complete = λ i j h k c. r.complete i (omega (arith, All-contains (λ m. least ≤ m) before j a c)) (omega arith);
}

pub alive_test : (r : Reached) (lengths : List ℕ) (empty : Bool) → lengths ≡ r.lengths → empty ≡ (length lengths == 0) → (path : List ℕ) → StandsFor r path
    → (IsTrue (not empty) → IsLive path r.device) × (IsLive path r.device → IsTrue (not empty))
alive_test r lengths empty e t path s = (
  (λ h. alive r path s (omega (arith, ap length e, positive (length lengths) empty t h))),
  (λ l. negative (length lengths) empty t (omega (arith, ap length e, alive_has r path s l))),
)
  where
    negative : (n : ℕ) (b : Bool) → b ≡ (n == 0) → 0 < n → IsTrue (not b)
    negative n b t h = ap not (t ∙ ne_eqb n 0 (λ z. absurd (omega arith)))

    positive : (n : ℕ) (b : Bool) → b ≡ (n == 0) → IsTrue (not b) → 0 < n
    positive zero b t h = absurd (bad b t h)
      where
        bad : (b : Bool) → b ≡ true → IsTrue (not b) → ⊥
        bad true t h = cc
        bad false t h = cc
    positive (suc n) b t h = omega arith

pub accept_test : (r : Reached) (path lengths device : List ℕ) (found : Bool) → lengths ≡ r.lengths → device ≡ r.device → length r.kept ≡ 0
    → (IsTrue found ↔ Contains lengths (length device)) → StandsFor r path
    → (IsTrue found → Matches (tokens path) r.device) × (Matches (tokens path) r.device → IsTrue found)
accept_test r path lengths device found e d k f s = (
  (λ h. accepted r path s k (subst (λ (l : List ℕ). Contains l (length r.device)) e
      (subst (λ (v : List ℕ). Contains lengths (length v)) d (f.0 h)))),
  (λ m. f.1
      (subst (λ (v : List ℕ). Contains lengths (length v)) (sym d) (subst (λ (l : List ℕ). Contains l (length r.device)) (sym e) (accepts_has r path s k m)))),
)

-- a path that grows by a piece
pub fed : (reach : Reached) (device before after text front kept path piece : List ℕ)
    → device ≡ reach.device → before ≡ reach.lengths → text ≡ reach.kept ++ piece → front ≡ closed_part text → kept ≡ open_part text
    → Follows (tokens front) device before after
    → StandsFor reach path → StandsFor (record { device = device; lengths = after; kept = kept }) (path ++ piece)
fed reach device before after text front kept path piece d b t p q f s =
    let own : reach.kept ≡ open_part path = same_rest (closed_part path) _ _ (sym s.rest ∙ sym (closed_whole 0 path)) in
    let v : open_part path ++ piece ≡ text = ap (λ (l : List ℕ). l ++ piece) (sym own) ∙ sym t in
    let c : tokens (closed_part (path ++ piece)) ≡ tokens (closed_part path) ++ tokens front =
    closed_cut (path ++ piece) ∙ closed_append 0 path piece (omega arith)
    ∙ ap (λ (us : List Token). us ++ closed_tokens (open_part path ++ piece)) (sym (closed_cut path))
    ∙ ap (λ (l : List ℕ). tokens (closed_part path) ++ closed_tokens l) v
    ∙ ap (λ (us : List Token). tokens (closed_part path) ++ us) (sym (closed_cut text))
    ∙ ap (λ (l : List ℕ). tokens (closed_part path) ++ tokens l) (sym p) in
    let met : Lengths (tokens (closed_part path)) device before =
    subst (λ (l : List ℕ). Lengths (tokens (closed_part path)) device l) (sym b)
    (subst (λ (v : List ℕ). Lengths (tokens (closed_part path)) v reach.lengths) (sym d) s.met) in
    record {
      met = subst (λ (us : List Token). Lengths us device after) (sym c) (f.lengths (tokens (closed_part path)) met);
      rest = sym (closed_whole 0 (path ++ piece))
          ∙ ap (λ (l : List ℕ). closed_part (path ++ piece) ++ l) (open_append 0 path piece (omega arith) ∙ ap open_part v ∙ sym q);
    }

-- a text that is lost at once has no open part
pub lost_front : (reach : Reached) (device before text : List ℕ) (end : ℕ) → device ≡ reach.device → before ≡ reach.lengths → drop end text ≡ open_part text
    → IsLost reach text → (0 < length (take end text)) × (get_or (take end text) 0 0 ≡ 42 → ⊥) × NoneTakes (token_at (take end text)) device before
lost_front reach device before text end d b q l =
    let z : text ≡ take end text = sym (sym (append-nil (take end text)) ∙ ap (λ (r : List ℕ). take end text ++ r) (sym (q ∙ l.closed)) ∙ take-append-drop end text) in
    let none : NoneTakes (token_at text) device before =
    λ n c. ap (λ (v : List ℕ). takes (token_at text) v n) d ∙ l.none_takes n (subst (λ (xs : List ℕ). Contains xs n) b c) in
    subst (λ (front : List ℕ). (0 < length front) × (get_or front 0 0 ≡ 42 → ⊥) × NoneTakes (token_at front) device before) z (l.some, l.no_star, none)

-- a run of stars, and a block of stars after it
pub star_block : (text : List ℕ) (at n : ℕ) → n ≡ 64 → take n (drop at text) ≡ replicate 64 42 → ((k : ℕ) → k < at → get_or text k 0 ≡ 42)
    → (k : ℕ) → k < at + 64 → get_or text k 0 ≡ 42
star_block text at n z e before k h = elim (cases_lt k at) [
  | inl below ↦ before k below
  | inr past ↦
      let i : at + (k - at) ≡ k = omega arith in
      sym (get_or-take n (drop at text) (k - at) 0 (omega arith) ∙ get_or-drop at text (k - at) 0 ∙ ap (λ j. get_or text j 0) i)
      ∙ ap (λ l. get_or l (k - at) 0) e ∙ get_or-replicate 64 (k - at) 42 0 (omega arith)
]
