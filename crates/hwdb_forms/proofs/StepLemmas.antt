-- Steps of a form: what their places tell, and the steps that are put after others.
use Rattle.std.proofs.Common.{◌≡◌, ℕ, ◌+◌, ◌<◌, ◌≤◌, Bool, true, false, List, [], ◌∷◌, ◌++◌, refl, sym, ap, subst, ◌∙◌, inl, inr, map, Bor, length, drop, take, get_or, suc, zero, append_assoc, arith}
use Rattle.std.proofs.Math.Seq.{drop-cons, drop-length, get_or-append_seam, get_or-take, take-append_seam, take-length, take-take}
use Rattle.std.proofs.lemmas.List.{append-nil, drop_all, length-append}
use Rattle.std.proofs.lemmas.Bool.{cases_lt}
use Rattle.std.specs.Prelude.{if◌then◌else◌}
use Rattle.hwdb_spec.specs.declared.ByteSet.{ByteSet}
use Rattle.hwdb_spec.specs.declared.ByteSet.TheVariants.{Only}
use Rattle.hwdb_spec.specs.Patterns.{Token, star}
use Rattle.hwdb_spec.specs.Forms.{is_star, meets, head, tail, byte_cell, byte_row, many_cell, many_row, fixed_row, counted_row, piece_row, pieces_row, either_row, end_row, field_row, fields_row}
use Rattle.hwdb_forms.specs.declared.pieces.Piece as Rust
use Rattle.hwdb_forms.specs.declared.steps.Step.{Step}
use Rattle.hwdb_forms.specs.declared.steps.Step.TheVariants.{Byte, Either, End, Many, One}
use Rattle.hwdb_forms.specs.Internal.{AreLive, HasRows, HaveWays, IsFamily, IsLaid, IsPlace, IsPut, fields_of, many_met, met_at, never, one_met, piece_of, places, places_after, step_met}
use Rattle.hwdb_forms.proofs.EndLemmas.{if_first}
use Rattle.hwdb_forms.proofs.LeadLemmas.{counted_family, either_none, fields_family, fixed_family, pieces_family}

-- ---- places
-- those of steps after others begin with these
places_kept : (ls : List (List Token → Bool)) (code : List Step) → take (length ls) (places_after ls code) ≡ ls
unfolding places_after
places_kept ls [] = take-length ls
places_kept ls (s ∷ more) =
    let new : List (List Token → Bool) = ls ++ step_met s ls ∷ [] in
    let shorter : length ls ≤ length new = omega (arith, length-append ls (step_met s ls ∷ [])) in
    sym (take-take (length ls) (length new) (places_after new more) shorter)
    ∙ ap (take (length ls)) (places_kept new more)
    ∙ take-append_seam ls (step_met s ls ∷ [])

-- a place tells what its step does
places_at : (ls : List (List Token → Bool)) (code : List Step) (i n : ℕ) (us : List Token) → i < length code → n ≡ length ls + i
    → met_at (places_after ls code) n us ≡ step_met (get_or code i End) (take n (places_after ls code)) us
unfolding places_after
places_at ls [] i n us h e = absurd (omega arith)
places_at ls (s ∷ more) zero n us h e =
    let new : List (List Token → Bool) = ls ++ step_met s ls ∷ [] in
    let whole : List (List Token → Bool) = places_after new more in
    let long : length new ≡ length ls + 1 = length-append ls (step_met s ls ∷ []) in
    let same : n ≡ length ls = omega (arith, e) in
    ap (λ (k : ℕ). met_at whole k us) same
    ∙ ap (λ (f : List Token → Bool). f us) (sym (get_or-take (length new) whole (length ls) never (omega (arith, long))))
    ∙ ap (λ (l : List (List Token → Bool)). met_at l (length ls) us) (places_kept new more)
    ∙ ap (λ (f : List Token → Bool). f us) (get_or-append_seam ls (step_met s ls) [] never)
    ∙ ap (λ (l : List (List Token → Bool)). step_met s l us) (sym (ap (λ (k : ℕ). take k whole) same ∙ places_kept ls (s ∷ more)))
places_at ls (s ∷ more) (suc i) n us h e =
    places_at (ls ++ step_met s ls ∷ []) more i n us (omega arith) (omega (arith, e, length-append ls (step_met s ls ∷ [])))

pub place_told : (steps : List Step) (at : ℕ) (s d : Step) → at < length steps → s ≡ get_or steps at d → IsPlace (places steps) at s
place_told steps at s d h e = λ us.
    places_at [] steps at at us h (omega arith) ∙ ap (λ (r : Step). step_met r (take at (places steps)) us) (same steps at h ∙ sym e)
  where
    same : (l : List Step) (i : ℕ) → i < length l → get_or l i End ≡ get_or l i d
    same [] i k = absurd (omega arith)
    same (x ∷ l) zero k = refl
    same (x ∷ l) (suc i) k = same l i (omega arith)

places_long_after : (ls : List (List Token → Bool)) (code : List Step) → length (places_after ls code) ≡ length ls + length code
unfolding places_after
places_long_after ls [] = omega arith
places_long_after ls (s ∷ more) = omega (arith, places_long_after (ls ++ step_met s ls ∷ []) more, length-append ls (step_met s ls ∷ []))

pub places_long : (steps : List Step) → length (places steps) ≡ length steps
places_long steps = omega (arith, places_long_after [] steps)

places_more : (ls : List (List Token → Bool)) (code more : List Step) → places_after ls (code ++ more) ≡ places_after (places_after ls code) more
unfolding places_after
places_more ls [] more = refl
places_more ls (s ∷ code) more = places_more (ls ++ step_met s ls ∷ []) code more

place_kept : (old more : List Step) (n : ℕ) → n < length old → met_at (places (old ++ more)) n ≡ met_at (places old) n
place_kept old more n h =
    ap (λ (l : List (List Token → Bool)). get_or l n never) (places_more [] old more)
    ∙ sym (get_or-take (length (places old)) (places_after (places old) more) n never (subst (λ (k : ℕ). n < k) (sym (places_long old)) h))
    ∙ ap (λ (l : List (List Token → Bool)). get_or l n never) (places_kept (places old) more)

place_put : (old : List Step) (s : Step) → met_at (places (old ++ s ∷ [])) (length old) ≡ step_met s (places old)
unfolding places_after
place_put old s =
    ap (λ (l : List (List Token → Bool)). get_or l (length old) never) (places_more [] old (s ∷ []))
    ∙ ap (λ (n : ℕ). get_or (places old ++ step_met s (places old) ∷ []) n never) (sym (places_long old))
    ∙ get_or-append_seam (places old) (step_met s (places old)) [] never

live_put : (old : List Step) (s : Step) → AreLive (places old) → step_met s (places old) (star ∷ []) ≡ true → AreLive (places (old ++ s ∷ []))
live_put old s l e = λ n h. elim (cases_lt n (length old)) [
  | inl less ↦ ap (λ (f : List Token → Bool). f (star ∷ [])) (place_kept old (s ∷ []) n less) ∙ l n (subst (λ (k : ℕ). n < k) (sym (places_long old)) less)
  | inr other ↦
      let same : n ≡ length old = omega (arith, h, places_long (old ++ s ∷ []), length-append old (s ∷ []), other) in
      ap (λ (k : ℕ). met_at (places (old ++ s ∷ [])) k (star ∷ [])) same ∙ ap (λ (f : List Token → Bool). f (star ∷ [])) (place_put old s) ∙ e
]

rows_kept : (old more : List Step) (n : ℕ) (rows : List Token → List Bool) → n < length old → HasRows old n rows → HasRows (old ++ more) n rows
rows_kept old more n rows h r = λ us. ap (λ (f : List Token → Bool). f us) (place_kept old more n h) ∙ r us

-- ---- rows
pub byte_head : (set : ByteSet) (t : Token) (us : List Token) (rows : List Token → List Bool) → IsFamily rows
    → head (byte_row set (t ∷ us) (rows (t ∷ us))) ≡ byte_cell (is_star t) (meets t set) (head (rows (t ∷ us))) (head (rows us)) (head (byte_row set us (rows us)))
unfolding byte_row
byte_head set t us rows f = ap (λ (r : List Bool). byte_cell (is_star t) (meets t set) (head (rows (t ∷ us))) (head r) (head (byte_row set us r))) (f t us)

pub many_head : (set : ByteSet) (t : Token) (us : List Token) (rows : List Token → List Bool) → IsFamily rows
    → head (many_row set (t ∷ us) (rows (t ∷ us))) ≡ many_cell (is_star t) (meets t set) (head (rows (t ∷ us))) (head (many_row set us (rows us)))
unfolding many_row
many_head set t us rows f = ap (λ (r : List Bool). many_cell (is_star t) (meets t set) (head (rows (t ∷ us))) (head (many_row set us r))) (f t us)

either_head : (us : List Token) (left other : List Bool) → head (either_row us left other) ≡ (if head left then true else head other)
unfolding either_row
either_head [] left other = refl
either_head (u ∷ us) left other = refl

one_rows : (set : ByteSet) (after : List Token → Bool) (rows : List Token → List Bool) → IsFamily rows → ((us : List Token) → after us ≡ head (rows us)) → (us : List Token) → one_met set after us ≡ head (byte_row set us (rows us))
unfolding one_met byte_row
one_rows set after rows f e [] = refl
one_rows set after rows f e (t ∷ us) =
    ap (λ (b : Bool). byte_cell (is_star t) (meets t set) b (after us) (one_met set after us)) (e (t ∷ us))
    ∙ ap (λ (b : Bool). byte_cell (is_star t) (meets t set) (head (rows (t ∷ us))) b (one_met set after us)) (e us)
    ∙ ap (λ (b : Bool). byte_cell (is_star t) (meets t set) (head (rows (t ∷ us))) (head (rows us)) b) (one_rows set after rows f e us)
    ∙ sym (byte_head set t us rows f)

many_rows : (set : ByteSet) (after : List Token → Bool) (rows : List Token → List Bool) → IsFamily rows → ((us : List Token) → after us ≡ head (rows us)) → (us : List Token) → many_met set after us ≡ head (many_row set us (rows us))
unfolding many_met many_row
many_rows set after rows f e [] = e []
many_rows set after rows f e (t ∷ us) =
    ap (λ (b : Bool). many_cell (is_star t) (meets t set) b (many_met set after us)) (e (t ∷ us))
    ∙ ap (λ (b : Bool). many_cell (is_star t) (meets t set) (head (rows (t ∷ us))) b) (many_rows set after rows f e us)
    ∙ sym (many_head set t us rows f)

pub one_star : (set : ByteSet) (after : List Token → Bool) → after (star ∷ []) ≡ true → one_met set after (star ∷ []) ≡ true
unfolding one_met
one_star set after e = e

pub many_star : (set : ByteSet) (after : List Token → Bool) → after (star ∷ []) ≡ true → many_met set after (star ∷ []) ≡ true
unfolding many_met
many_star set after e = if_first (after (star ∷ [])) (many_met set after []) e

-- ---- one step
put_one_at : (old : List Step) (set : ByteSet) (next : ℕ) → next < length old → IsPut old (old ++ One set next ∷ []) next (length old) (λ rows us. byte_row set us (rows us))
put_one_at old set next h = record {
  grown = (One set next ∷ [], refl);
  within = omega (arith, length-append old (One set next ∷ []));
  live = λ l. live_put old (One set next) l (one_star set (met_at (places old) next) (l next (subst (λ (k : ℕ). next < k) (sym (places_long old)) h)));
  told = λ rows f r us. ap (λ (g : List Token → Bool). g us) (place_put old (One set next)) ∙ one_rows set (met_at (places old) next) rows f r us;
}

put_byte_at : (old : List Step) (own next : ℕ) → next < length old → IsPut old (old ++ Byte own next ∷ []) next (length old) (λ rows us. byte_row (Only own) us (rows us))
put_byte_at old own next h = record {
  grown = (Byte own next ∷ [], refl);
  within = omega (arith, length-append old (Byte own next ∷ []));
  live = λ l. live_put old (Byte own next) l (one_star (Only own) (met_at (places old) next) (l next (subst (λ (k : ℕ). next < k) (sym (places_long old)) h)));
  told = λ rows f r us. ap (λ (g : List Token → Bool). g us) (place_put old (Byte own next)) ∙ one_rows (Only own) (met_at (places old) next) rows f r us;
}

put_many_at : (old : List Step) (set : ByteSet) (next : ℕ) → next < length old → IsPut old (old ++ Many set next ∷ []) next (length old) (λ rows us. many_row set us (rows us))
put_many_at old set next h = record {
  grown = (Many set next ∷ [], refl);
  within = omega (arith, length-append old (Many set next ∷ []));
  live = λ l. live_put old (Many set next) l (many_star set (met_at (places old) next) (l next (subst (λ (k : ℕ). next < k) (sym (places_long old)) h)));
  told = λ rows f r us. ap (λ (g : List Token → Bool). g us) (place_put old (Many set next)) ∙ many_rows set (met_at (places old) next) rows f r us;
}

pub put_one : (old new : List Step) (set : ByteSet) (next place : ℕ) → next < length old → new ≡ old ++ One set next ∷ [] → place ≡ length old → IsPut old new next place (λ rows us. byte_row set us (rows us))
put_one old new set next place h e p =
    subst (λ (l : List Step). IsPut old l next place (λ rows us. byte_row set us (rows us))) (sym e)
    (subst (λ (n : ℕ). IsPut old (old ++ One set next ∷ []) next n (λ rows us. byte_row set us (rows us))) (sym p) (put_one_at old set next h))

pub put_byte : (old new : List Step) (own next place : ℕ) → next < length old → new ≡ old ++ Byte own next ∷ [] → place ≡ length old → IsPut old new next place (λ rows us. byte_row (Only own) us (rows us))
put_byte old new own next place h e p =
    subst (λ (l : List Step). IsPut old l next place (λ rows us. byte_row (Only own) us (rows us))) (sym e)
    (subst (λ (n : ℕ). IsPut old (old ++ Byte own next ∷ []) next n (λ rows us. byte_row (Only own) us (rows us))) (sym p) (put_byte_at old own next h))

pub put_many : (old new : List Step) (set : ByteSet) (next place : ℕ) → next < length old → new ≡ old ++ Many set next ∷ [] → place ≡ length old → IsPut old new next place (λ rows us. many_row set us (rows us))
put_many old new set next place h e p =
    subst (λ (l : List Step). IsPut old l next place (λ rows us. many_row set us (rows us))) (sym e)
    (subst (λ (n : ℕ). IsPut old (old ++ Many set next ∷ []) next n (λ rows us. many_row set us (rows us))) (sym p) (put_many_at old set next h))

-- ---- several
put_as : (old new : List Step) (next place : ℕ) (f g : (List Token → List Bool) → List Token → List Bool) → ((rows : List Token → List Bool) (us : List Token) → head (f rows us) ≡ head (g rows us))
    → IsPut old new next place f → IsPut old new next place g
put_as old new next place f g same p = record {
  grown = p.grown;
  within = p.within;
  live = p.live;
  told = λ rows family r us. p.told rows family r us ∙ same rows us;
}

put_none : (old : List Step) (next : ℕ) → next < length old → IsPut old old next next (λ rows. rows)
put_none old next h = record {
  grown = ([], sym (append-nil old));
  within = h;
  live = λ l. l;
  told = λ rows f r. r;
}

put_then : (old middle new : List Step) (next place last : ℕ) (f g : (List Token → List Bool) → List Token → List Bool) → ((rows : List Token → List Bool) → IsFamily rows → IsFamily (f rows))
    → IsPut old middle next place f → IsPut middle new place last g → IsPut old new next last (λ rows. g (f rows))
put_then old middle new next place last f g family a b = record {
  grown = (a.grown.0 ++ b.grown.0, b.grown.1 ∙ ap (λ (l : List Step). l ++ b.grown.0) a.grown.1 ∙ append_assoc old a.grown.0 b.grown.0);
  within = b.within;
  live = λ l. b.live (a.live l);
  told = λ rows k r. b.told (f rows) (family rows k) (a.told rows k r);
}

-- these bytes
pub fixed_begun : (old : List Step) (next : ℕ) (bytes : List ℕ) → next < length old → IsPut old old next next (λ rows us. fixed_row (drop (length bytes) bytes) us (rows us))
unfolding fixed_row
fixed_begun old next bytes h =
    put_as old old next next (λ rows. rows) (λ rows us. fixed_row (drop (length bytes) bytes) us (rows us))
    (λ rows us. ap (λ (l : List ℕ). head (fixed_row l us (rows us))) (sym (drop-length bytes))) (put_none old next h)

pub fixed_more : (old middle new : List Step) (next place last : ℕ) (bytes : List ℕ) (n at b : ℕ) → n ≡ suc at → at < length bytes → b ≡ get_or bytes at 0
    → IsPut old middle next place (λ rows us. fixed_row (drop n bytes) us (rows us)) → IsPut middle new place last (λ rows us. byte_row (Only b) us (rows us)) → IsPut old new next last (λ rows us. fixed_row (drop at bytes) us (rows us))
unfolding fixed_row
fixed_more old middle new next place last bytes n at b e h s p q =
    put_as old new next last (λ rows us. byte_row (Only b) us (fixed_row (drop n bytes) us (rows us))) (λ rows us. fixed_row (drop at bytes) us (rows us))
    (λ rows us. ap (λ (l : List ℕ). head (byte_row (Only b) us (fixed_row l us (rows us)))) (ap (λ (i : ℕ). drop i bytes) e)
    ∙ ap (λ (l : List ℕ). head (fixed_row l us (rows us))) (ap (λ (x : ℕ). x ∷ drop (suc at) bytes) s ∙ sym (drop-cons bytes at 0 h)))
    (put_then old middle new next place last (λ rows us. fixed_row (drop n bytes) us (rows us)) (λ rows us. byte_row (Only b) us (rows us)) (fixed_family (drop n bytes)) p q)

pub fixed_done : (old new : List Step) (next place : ℕ) (bytes : List ℕ) (at : ℕ) → at ≡ 0 → IsPut old new next place (λ rows us. fixed_row (drop at bytes) us (rows us)) → IsPut old new next place (λ rows us. fixed_row bytes us (rows us))
fixed_done old new next place bytes at e p =
    put_as old new next place (λ rows us. fixed_row (drop at bytes) us (rows us)) (λ rows us. fixed_row bytes us (rows us))
    (λ rows us. ap (λ (l : List ℕ). head (fixed_row l us (rows us))) (ap (λ (i : ℕ). drop i bytes) e ∙ none bytes)) p
  where
    none : (l : List ℕ) → drop 0 l ≡ l
    none [] = refl
    none (x ∷ l) = refl

-- so many bytes
pub counted_begun : (old : List Step) (next : ℕ) (set : ByteSet) → next < length old → IsPut old old next next (λ rows us. counted_row set 0 us (rows us))
unfolding counted_row
counted_begun old next set h =
    put_as old old next next (λ rows. rows) (λ rows us. counted_row set 0 us (rows us)) (λ rows us. refl) (put_none old next h)

pub counted_more : (old middle new : List Step) (next place last : ℕ) (set : ByteSet) (n m : ℕ) → m ≡ suc n
    → IsPut old middle next place (λ rows us. counted_row set n us (rows us)) → IsPut middle new place last (λ rows us. byte_row set us (rows us)) → IsPut old new next last (λ rows us. counted_row set m us (rows us))
unfolding counted_row
counted_more old middle new next place last set n m e p q =
    put_as old new next last (λ rows us. byte_row set us (counted_row set n us (rows us))) (λ rows us. counted_row set m us (rows us))
    (λ rows us. ap (λ (k : ℕ). head (counted_row set k us (rows us))) (sym e))
    (put_then old middle new next place last (λ rows us. counted_row set n us (rows us)) (λ rows us. byte_row set us (rows us)) (counted_family set n) p q)

pub counted_done : (old new : List Step) (next place : ℕ) (set : ByteSet) (n m : ℕ) → n ≡ m → IsPut old new next place (λ rows us. counted_row set n us (rows us)) → IsPut old new next place (λ rows us. counted_row set m us (rows us))
counted_done old new next place set n m e p = subst (λ (k : ℕ). IsPut old new next place (λ rows us. counted_row set k us (rows us))) e p

-- pieces
pub pieces_begun : (old : List Step) (next : ℕ) (ps : List Rust.Piece) → next < length old → IsPut old old next next (λ rows us. pieces_row (map piece_of (drop (length ps) ps)) us (rows us))
unfolding pieces_row
pieces_begun old next ps h =
    put_as old old next next (λ rows. rows) (λ rows us. pieces_row (map piece_of (drop (length ps) ps)) us (rows us))
    (λ rows us. ap (λ (l : List Rust.Piece). head (pieces_row (map piece_of l) us (rows us))) (sym (drop-length ps))) (put_none old next h)

pub pieces_more : (old middle new : List Step) (next place last : ℕ) (ps : List Rust.Piece) (n at : ℕ) (d p : Rust.Piece) → n ≡ suc at → at < length ps → p ≡ get_or ps at d
    → IsPut old middle next place (λ rows us. pieces_row (map piece_of (drop n ps)) us (rows us)) → IsPut middle new place last (λ rows us. piece_row (piece_of p) us (rows us))
    → IsPut old new next last (λ rows us. pieces_row (map piece_of (drop at ps)) us (rows us))
unfolding pieces_row
pieces_more old middle new next place last ps n at d p e h s a b =
    put_as old new next last (λ rows us. piece_row (piece_of p) us (pieces_row (map piece_of (drop n ps)) us (rows us))) (λ rows us. pieces_row (map piece_of (drop at ps)) us (rows us))
    (λ rows us. ap (λ (l : List Rust.Piece). head (piece_row (piece_of p) us (pieces_row (map piece_of l) us (rows us)))) (ap (λ (i : ℕ). drop i ps) e)
    ∙ ap (λ (l : List Rust.Piece). head (pieces_row (map piece_of l) us (rows us))) (ap (λ (x : Rust.Piece). x ∷ drop (suc at) ps) s ∙ sym (drop-cons ps at d h)))
    (put_then old middle new next place last (λ rows us. pieces_row (map piece_of (drop n ps)) us (rows us)) (λ rows us. piece_row (piece_of p) us (rows us)) (pieces_family (map piece_of (drop n ps))) a b)

pub pieces_done : (old new : List Step) (next place : ℕ) (ps : List Rust.Piece) (at : ℕ) → at ≡ 0 → IsPut old new next place (λ rows us. pieces_row (map piece_of (drop at ps)) us (rows us)) → IsPut old new next place (λ rows us. pieces_row (map piece_of ps) us (rows us))
pieces_done old new next place ps at e p =
    put_as old new next place (λ rows us. pieces_row (map piece_of (drop at ps)) us (rows us)) (λ rows us. pieces_row (map piece_of ps) us (rows us))
    (λ rows us. ap (λ (l : List Rust.Piece). head (pieces_row (map piece_of l) us (rows us))) (ap (λ (i : ℕ). drop i ps) e ∙ none ps)) p
  where
    none : (l : List Rust.Piece) → drop 0 l ≡ l
    none [] = refl
    none (x ∷ l) = refl

-- ways
pub ways_begun : (old new : List Step) (next place : ℕ) (ways : List (Bor (List Rust.Piece))) (at : ℕ) (d w : Bor (List Rust.Piece)) → length ways ≡ suc at → w ≡ get_or ways at d
    → IsPut old new next place (λ rows us. pieces_row (map piece_of w.now) us (rows us)) → IsPut old new next place (λ rows us. field_row (map (λ way. map piece_of way.now) (drop at ways)) us (rows us))
unfolding field_row
ways_begun old new next place ways at d w long s p =
    let only : drop at ways ≡ w ∷ [] = drop-cons ways at d (omega (arith, long)) ∙ ap (λ (x : Bor (List Rust.Piece)). x ∷ drop (suc at) ways) (sym s) ∙ ap (λ (l : List (Bor (List Rust.Piece))). w ∷ l) (drop_all (suc at) ways (omega (arith, long))) in
    put_as old new next place (λ rows us. pieces_row (map piece_of w.now) us (rows us)) (λ rows us. field_row (map (λ way. map piece_of way.now) (drop at ways)) us (rows us))
    (λ rows us. sym (ap (λ (l : List (Bor (List Rust.Piece))). head (field_row (map (λ way. map piece_of way.now) l) us (rows us))) only ∙ either_none us (pieces_row (map piece_of w.now) us (rows us)))) p

-- one way more
ways_put : (old middle far : List Step) (next place way : ℕ) (f g : (List Token → List Bool) → List Token → List Bool) → next < length old → IsPut old middle next place f → IsPut middle far next way g
    → IsPut old (far ++ Either way place ∷ []) next (length far) (λ rows us. either_row us (g rows us) (f rows us))
ways_put old middle far next place way f g h a b =
    let at_place : place < length far = omega (arith, a.within, ap length b.grown.1 ∙ length-append middle b.grown.0) in
    let kept : (rows : List Token → List Bool) → IsFamily rows → HasRows old next rows → HasRows far place (f rows) =
    λ rows family r. subst (λ (l : List Step). HasRows l place (f rows)) (sym b.grown.1) (rows_kept middle b.grown.0 place (f rows) a.within (a.told rows family r)) in
    let led : (rows : List Token → List Bool) → IsFamily rows → HasRows old next rows → HasRows far way (g rows) =
    λ rows family r. b.told rows family (subst (λ (l : List Step). HasRows l next rows) (sym a.grown.1) (rows_kept old a.grown.0 next rows h r)) in
    record {
      grown = (
        a.grown.0 ++ (b.grown.0 ++ Either way place ∷ []),
        ap (λ (l : List Step). l ++ Either way place ∷ []) (b.grown.1 ∙ ap (λ (l : List Step). l ++ b.grown.0) a.grown.1)
            ∙ append_assoc (old ++ a.grown.0) b.grown.0 (Either way place ∷ [])
            ∙ append_assoc old a.grown.0 (b.grown.0 ++ Either way place ∷ []),
      );
      within = omega (arith, length-append far (Either way place ∷ []));
      live = λ l. live_put far (Either way place) (b.live (a.live l))
          (if_first (met_at (places far) way (star ∷ [])) (met_at (places far) place (star ∷ [])) (b.live (a.live l) way (subst (λ (k : ℕ). way < k) (sym (places_long far)) b.within)));
      told = λ rows family r us. ap (λ (k : List Token → Bool). k us) (place_put far (Either way place))
          ∙ ap (λ (x : Bool). if x then true else met_at (places far) place us) (led rows family r us)
          ∙ ap (λ (x : Bool). if head (g rows us) then true else x) (kept rows family r us)
          ∙ sym (either_head us (g rows us) (f rows us));
    }

pub ways_more : (old middle far new : List Step) (next place way last : ℕ) (ways : List (Bor (List Rust.Piece))) (n at : ℕ) (d w : Bor (List Rust.Piece)) → next < length old → n ≡ suc at → at < length ways → w ≡ get_or ways at d
    → IsPut old middle next place (λ rows us. field_row (map (λ v. map piece_of v.now) (drop n ways)) us (rows us)) → IsPut middle far next way (λ rows us. pieces_row (map piece_of w.now) us (rows us))
    → new ≡ far ++ Either way place ∷ [] → last ≡ length far → IsPut old new next last (λ rows us. field_row (map (λ v. map piece_of v.now) (drop at ways)) us (rows us))
unfolding field_row
ways_more old middle far new next place way last ways n at d w h e k s a b made put =
    put_as old new next last (λ rows us. either_row us (pieces_row (map piece_of w.now) us (rows us)) (field_row (map (λ v. map piece_of v.now) (drop n ways)) us (rows us))) (λ rows us. field_row (map (λ v. map piece_of v.now) (drop at ways)) us (rows us))
    (λ rows us. ap (λ (l : List (Bor (List Rust.Piece))). head (either_row us (pieces_row (map piece_of w.now) us (rows us)) (field_row (map (λ v. map piece_of v.now) l) us (rows us)))) (ap (λ (i : ℕ). drop i ways) e)
    ∙ ap (λ (l : List (Bor (List Rust.Piece))). head (field_row (map (λ v. map piece_of v.now) l) us (rows us))) (ap (λ (x : Bor (List Rust.Piece)). x ∷ drop (suc at) ways) s ∙ sym (drop-cons ways at d k)))
    (subst (λ (l : List Step). IsPut old l next last (λ rows us. either_row us (pieces_row (map piece_of w.now) us (rows us)) (field_row (map (λ v. map piece_of v.now) (drop n ways)) us (rows us)))) (sym made)
    (subst (λ (i : ℕ). IsPut old (far ++ Either way place ∷ []) next i (λ rows us. either_row us (pieces_row (map piece_of w.now) us (rows us)) (field_row (map (λ v. map piece_of v.now) (drop n ways)) us (rows us)))) (sym put)
    (ways_put old middle far next place way (λ rows us. field_row (map (λ v. map piece_of v.now) (drop n ways)) us (rows us)) (λ rows us. pieces_row (map piece_of w.now) us (rows us)) h a b)))

pub ways_done : (old new : List Step) (next place : ℕ) (ways : List (Bor (List Rust.Piece))) (at : ℕ) → at ≡ 0 → IsPut old new next place (λ rows us. field_row (map (λ v. map piece_of v.now) (drop at ways)) us (rows us))
    → IsPut old new next place (λ rows us. field_row (map (λ v. map piece_of v.now) ways) us (rows us))
ways_done old new next place ways at e p =
    put_as old new next place (λ rows us. field_row (map (λ v. map piece_of v.now) (drop at ways)) us (rows us)) (λ rows us. field_row (map (λ v. map piece_of v.now) ways) us (rows us))
    (λ rows us. ap (λ (l : List (Bor (List Rust.Piece))). head (field_row (map (λ v. map piece_of v.now) l) us (rows us))) (ap (λ (i : ℕ). drop i ways) e ∙ none ways)) p
  where
    none : (l : List (Bor (List Rust.Piece))) → drop 0 l ≡ l
    none [] = refl
    none (x ∷ l) = refl

-- ---- fields
pub laid_end : (old new : List Step) (place : ℕ) (fields : List (Bor (List (Bor (List Rust.Piece))))) → old ≡ [] → new ≡ old ++ End ∷ [] → place ≡ length old → IsLaid new place (fields_row (fields_of (drop (length fields) fields)))
unfolding fields_row end_row
laid_end old new place fields o e p =
    let only : new ≡ End ∷ [] = e ∙ ap (λ (l : List Step). l ++ End ∷ []) o in
    let first : place ≡ 0 = p ∙ ap length o in
    let whole : (us : List Token) → met_at (places new) place us ≡ head (end_row us) =
    λ us. ap (λ (l : List Step). met_at (places l) place us) only ∙ ap (λ (n : ℕ). met_at (places (End ∷ [])) n us) first ∙ ap (λ (f : List Token → Bool). f us) (place_put [] End) in
    record {
      within = omega (arith, ap length only, first);
      live = subst (λ (l : List Step). AreLive (places l)) (sym only) (live_put [] End (λ n h. absurd (omega (arith, h, places_long []))) refl);
      told = λ us. whole us ∙ ap (λ (l : List (Bor (List (Bor (List Rust.Piece))))). head (fields_row (fields_of l) us)) (sym (drop-length fields));
    }

pub laid_more : (old new : List Step) (entry place : ℕ) (fields : List (Bor (List (Bor (List Rust.Piece))))) (n at : ℕ) (d f : Bor (List (Bor (List Rust.Piece)))) → n ≡ suc at → at < length fields → f ≡ get_or fields at d
    → IsLaid old entry (fields_row (fields_of (drop n fields))) → IsPut old new entry place (λ rows us. field_row (map (λ way. map piece_of way.now) f.now) us (rows us)) → IsLaid new place (fields_row (fields_of (drop at fields)))
unfolding fields_row
laid_more old new entry place fields n at d f e h s l p = record {
  within = p.within;
  live = p.live l.live;
  told = λ us. p.told (fields_row (fields_of (drop n fields))) (fields_family (fields_of (drop n fields))) l.told us
      ∙ ap (λ (i : ℕ). head (field_row (map (λ way. map piece_of way.now) f.now) us (fields_row (fields_of (drop i fields)) us))) e
      ∙ ap (λ (r : List (Bor (List (Bor (List Rust.Piece))))). head (fields_row (fields_of r) us)) (ap (λ (x : Bor (List (Bor (List Rust.Piece)))). x ∷ drop (suc at) fields) s ∙ sym (drop-cons fields at d h));
}

pub laid_done : (steps : List Step) (entry : ℕ) (fields : List (Bor (List (Bor (List Rust.Piece))))) (at : ℕ) → at ≡ 0 → IsLaid steps entry (fields_row (fields_of (drop at fields))) → IsLaid steps entry (fields_row (fields_of fields))
laid_done steps entry fields at e l =
    subst (λ (r : List (Bor (List (Bor (List Rust.Piece))))). IsLaid steps entry (fields_row (fields_of r))) (ap (λ (i : ℕ). drop i fields) e ∙ none fields) l
  where
    none : (r : List (Bor (List (Bor (List Rust.Piece))))) → drop 0 r ≡ r
    none [] = refl
    none (x ∷ r) = refl

pub laid_form : (old new : List Step) (entry place : ℕ) (bytes : List ℕ) (fields : List (Bor (List (Bor (List Rust.Piece))))) → IsLaid old entry (fields_row (fields_of fields)) → IsPut old new entry place (λ rows us. fixed_row bytes us (rows us))
    → IsLaid new place (λ us. fixed_row bytes us (fields_row (fields_of fields) us))
laid_form old new entry place bytes fields l p = record {
  within = p.within;
  live = p.live l.live;
  told = p.told (fields_row (fields_of fields)) (fields_family (fields_of fields)) l.told;
}

-- each field has a way
pub way_of_field : (fields : List (Bor (List (Bor (List Rust.Piece))))) (at : ℕ) (d : Bor (List (Bor (List Rust.Piece)))) → at < length fields → HaveWays (fields_of fields) → 0 < length (get_or fields at d).now
way_of_field [] at d h have = absurd (omega arith)
way_of_field (f ∷ more) zero d h have = some f.now have
  where
    some : (ways : List (Bor (List Rust.Piece))) → HaveWays (map (λ way. map piece_of way.now) ways ∷ fields_of more) → 0 < length ways
    some [] k = absurd k
    some (way ∷ ways) k = omega arith
way_of_field (f ∷ more) (suc at) d h have = way_of_field more at d (omega arith) (later f.now have)
  where
    later : (ways : List (Bor (List Rust.Piece))) → HaveWays (map (λ way. map piece_of way.now) ways ∷ fields_of more) → HaveWays (fields_of more)
    later [] k = absurd k
    later (way ∷ ways) k = k

-- a place is there after more steps
pub put_grown : (old new : List Step) (next place : ℕ) (row_of : (List Token → List Bool) → List Token → List Bool) → next < length old → IsPut old new next place row_of → next < length new
put_grown old new next place row_of h p = omega (arith, ap length p.grown.1 ∙ length-append old p.grown.0)
