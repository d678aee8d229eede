-- Texts that are compared with a form byte by byte.
use Rattle.std.proofs.Common.{◌≡◌, ℕ, ◌+◌, ◌<◌, inl, inr, ◌≤◌, ◌==◌, Bool, true, false, List, [], ◌∷◌, refl, sym, ap, subst, ◌∙◌, arith, cond, drop, ◌-◌, eqb-true, get_or, length, map, nat_le, suc, zero}
use Rattle.std.proofs.Math.Seq.{drop-cons}
use Rattle.std.proofs.lemmas.List.{drop-drop, drop_all, length-drop}
use Rattle.std.proofs.lemmas.Bool.{le-leb}
use Rattle.std.specs.Prelude.{if◌then◌else◌}
use Rattle.hwdb_spec.specs.declared.ByteSet.{ByteSet}
use Rattle.hwdb_spec.specs.declared.ByteSet.TheVariants.{Only}
use Rattle.hwdb_spec.specs.Patterns.{Token, literal, one, star, token_at, token_size, tokens, tokens_from}
use Rattle.hwdb_spec.specs.Forms.{Piece, byte_cell, byte_row, counted, counted_row, end_row, either_row, field_row, fields_row, fixed, fixed_row, head, is_in, is_star, is_wild, many_cell, many_row, meets, pieces_row, repeated, tail}
use Rattle.hwdb_forms.specs.declared.leads.Passed.TheVariants.{No, Yes}
use Rattle.hwdb_forms.specs.declared.leads.Passed.{Passed}
use Rattle.hwdb_forms.specs.Internal.{GoesThrough, GoesThroughField, GoesThroughWay, IsCut, IsFamily, IsOfMany, LedTo, passed_counted, passed_fixed}
use Rattle.hwdb_forms.proofs.EndLemmas.{counted_ended, if_either, if_first, many_next, star_pieces}
use Rattle.hwdb_forms.proofs.LeadLemmas.{dropped, fields_family, fixed_family, led_first, next_piece, piece_tells, pieces_family}

-- a byte that means itself is a token
plain_by : (s o t : Bool) (b : ℕ) (x : Token) (more : ℕ → List Token) → cond s true (cond o true t) ≡ false
    → cond s star (cond o one (cond t x (literal b))) ∷ more (token_size (cond s star (cond o one (cond t x (literal b)))) - 1) ≡ literal b ∷ more 0
plain_by true o t b x more e = absurd cc
plain_by false true t b x more e = absurd cc
plain_by false false true b x more e = absurd cc
plain_by false false false b x more e = refl

pub plain_token : (b : ℕ) (rest : List ℕ) → is_wild b ≡ false → tokens (b ∷ rest) ≡ literal b ∷ tokens rest
unfolding tokens_from token_at
plain_token b rest e = plain_by (b == 42) (b == 63) (b == 91) b _ (λ n. tokens_from n rest) e

star_token : tokens (42 ∷ []) ≡ star ∷ []
unfolding tokens_from token_at
star_token = refl

pub lone_star : (text : List ℕ) → length text ≡ 1 → get_or text 0 0 ≡ 42 → tokens text ≡ star ∷ []
lone_star [] h e = absurd (omega (arith, h))
lone_star (b ∷ []) h e = ap (λ (c : ℕ). tokens (c ∷ [])) e ∙ star_token
lone_star (b ∷ c ∷ text) h e = absurd (omega (arith, h))

-- a text that is cut
abbrev rest_of : List Token → List Token
rest_of [] = []
rest_of (t ∷ ts) = ts

rest_drop : (ts : List Token) (n : ℕ) → rest_of (drop n ts) ≡ drop (suc n) ts
rest_drop [] zero = refl
rest_drop [] (suc n) = refl
rest_drop (t ∷ []) zero = refl
rest_drop (t ∷ u ∷ ts) zero = refl
rest_drop (t ∷ ts) (suc n) = rest_drop ts n

pub none_dropped : (A : Type 0) (l : List A) → drop 0 l ≡ l
none_dropped A [] = refl
none_dropped A (x ∷ l) = refl

pub cut_first : (text : List ℕ) → IsCut text 0
cut_first text = ap tokens (none_dropped ℕ text) ∙ sym (none_dropped Token (tokens text))

pub cut_more : (text : List ℕ) (at n : ℕ) → at < length text → n ≡ suc at → is_wild (get_or text at 0) ≡ false → IsCut text at → IsCut text n
cut_more text at n h e w cut =
    let b : ℕ = get_or text at 0 in
    let parted : tokens (drop at text) ≡ literal b ∷ tokens (drop (suc at) text) = ap tokens (drop-cons text at 0 h) ∙ plain_token b (drop (suc at) text) w in
    let whole : literal b ∷ tokens (drop (suc at) text) ≡ drop at (tokens text) = sym parted ∙ cut in
    ap (λ (i : ℕ). tokens (drop i text)) e ∙ ap rest_of whole ∙ rest_drop (tokens text) at ∙ sym (ap (λ (i : ℕ). drop i (tokens text)) e)

pub cut_on : (text rest : List ℕ) (at n size to : ℕ) → to ≡ at + size → size ≡ n → rest ≡ drop at text → IsCut text at → IsCut rest n → IsCut text to
cut_on text rest at n size to e k is cut more =
    let whole : to ≡ at + n = omega (arith, e, k) in
    ap (λ (i : ℕ). tokens (drop i text)) whole
    ∙ ap tokens (sym (drop-drop n at text))
    ∙ ap (λ (l : List ℕ). tokens (drop n l)) (sym is)
    ∙ more
    ∙ ap (λ (l : List ℕ). drop n (tokens l)) is
    ∙ ap (drop n) cut
    ∙ drop-drop n at (tokens text)
    ∙ ap (λ (i : ℕ). drop i (tokens text)) (sym whole)

pub within_text : (text rest : List ℕ) (at n size : ℕ) → rest ≡ drop at text → at ≤ length text → size ≡ n → n ≤ length rest → at + size ≤ length text
within_text text rest at n size is h e k =
    let long : length rest ≡ length text - at = ap length is ∙ length-drop at text in
    omega (arith, long, e, h, k)

-- a byte more
if_met : (met : Bool) (rest : Passed) → met ≡ true → (if met then rest else No) ≡ rest
if_met true rest e = refl
if_met false rest e = cc

own_in : (b : ℕ) → is_in (Only b) b ≡ true
own_in b = let le : nat_le b b ≡ true = le-leb b b (omega arith) in rw le refl

fixed_step : (b t : ℕ) (bytes text : List ℕ) → t ≡ b → is_wild t ≡ false → passed_fixed (b ∷ bytes) (tokens (t ∷ text)) ≡ passed_fixed bytes (tokens text)
fixed_step b t bytes text e w =
    ap (passed_fixed (b ∷ bytes)) (plain_token t text w) ∙ if_met (is_in (Only b) t) (passed_fixed bytes (tokens text)) (ap (is_in (Only b)) e ∙ own_in b)

pub counted_step : (set : ByteSet) (t n : ℕ) (text : List ℕ) → is_in set t ≡ true → is_wild t ≡ false → passed_counted set (suc n) (tokens (t ∷ text)) ≡ passed_counted set n (tokens text)
counted_step set t n text e w =
    ap (passed_counted set (suc n)) (plain_token t text w) ∙ if_met (is_in set t) (passed_counted set n (tokens text)) e

pub fixed_first : (bytes text : List ℕ) → passed_fixed (drop 0 bytes) (tokens (drop 0 text)) ≡ Yes → passed_fixed bytes (tokens text) ≡ Yes
fixed_first bytes text e = sym (ap (λ (l : List ℕ). passed_fixed l (tokens (drop 0 text))) (none_dropped ℕ bytes) ∙ ap (λ (l : List ℕ). passed_fixed bytes (tokens l)) (none_dropped ℕ text)) ∙ e

pub fixed_more : (bytes text : List ℕ) (at n : ℕ) → at < length bytes → at < length text → n ≡ suc at → get_or text at 0 ≡ get_or bytes at 0 → is_wild (get_or text at 0) ≡ false
    → (passed_fixed (drop at bytes) (tokens (drop at text)) ≡ Yes → passed_fixed bytes (tokens text) ≡ Yes)
    → passed_fixed (drop n bytes) (tokens (drop n text)) ≡ Yes → passed_fixed bytes (tokens text) ≡ Yes
fixed_more bytes text at n h k e same w before more =
    before (ap (λ (l : List ℕ). passed_fixed l (tokens (drop at text))) (drop-cons bytes at 0 h)
    ∙ ap (λ (l : List ℕ). passed_fixed (get_or bytes at 0 ∷ drop (suc at) bytes) (tokens l)) (drop-cons text at 0 k)
    ∙ fixed_step (get_or bytes at 0) (get_or text at 0) (drop (suc at) bytes) (drop (suc at) text) same w
    ∙ ap (λ (i : ℕ). passed_fixed (drop i bytes) (tokens (drop i text))) (sym e)
    ∙ more)

pub fixed_through : (bytes text : List ℕ) (at : ℕ) → length bytes ≤ at → (passed_fixed (drop at bytes) (tokens (drop at text)) ≡ Yes → passed_fixed bytes (tokens text) ≡ Yes) → passed_fixed bytes (tokens text) ≡ Yes
fixed_through bytes text at h before = before (ap (λ (l : List ℕ). passed_fixed l (tokens (drop at text))) (long_drop bytes at h))
  where
    long_drop : (l : List ℕ) (n : ℕ) → length l ≤ n → drop n l ≡ []
    long_drop [] zero h = refl
    long_drop [] (suc n) h = refl
    long_drop (x ∷ l) zero h = absurd (omega arith)
    long_drop (x ∷ l) (suc n) h = long_drop l n (omega arith)

-- As many bytes more are of the set as come after those that were read.
abbrev pub GoesOn : ByteSet → List ℕ → ℕ → Type 0
GoesOn set text at = (m : ℕ) → passed_counted set m (tokens (drop at text)) ≡ Yes → passed_counted set (at + m) (tokens text) ≡ Yes

pub counted_first : (set : ByteSet) (text : List ℕ) → GoesOn set text 0
counted_first set text = λ m e.
    let same : 0 + m ≡ m = omega arith in
    ap (λ (i : ℕ). passed_counted set i (tokens text)) same ∙ sym (ap (λ (l : List ℕ). passed_counted set m (tokens l)) (none_dropped ℕ text)) ∙ e

pub counted_more : (set : ByteSet) (text : List ℕ) (at n : ℕ) → at < length text → n ≡ suc at → is_in set (get_or text at 0) ≡ true → is_wild (get_or text at 0) ≡ false → GoesOn set text at → GoesOn set text n
counted_more set text at n h e own w before = λ m more.
    let count : at + suc m ≡ n + m = omega (arith, e) in
    ap (λ (i : ℕ). passed_counted set i (tokens text)) (sym count)
    ∙ before (suc m) (ap (λ (l : List ℕ). passed_counted set (suc m) (tokens l)) (drop-cons text at 0 h)
    ∙ counted_step set (get_or text at 0) m (drop (suc at) text) own w
    ∙ ap (λ (i : ℕ). passed_counted set m (tokens (drop i text))) (sym e)
    ∙ more)

pub counted_through : (set : ByteSet) (text : List ℕ) (at : ℕ) → GoesOn set text at → passed_counted set at (tokens text) ≡ Yes
counted_through set text at before = let same : at ≡ at + 0 = omega arith in ap (λ (i : ℕ). passed_counted set i (tokens text)) same ∙ before 0 refl

-- ---- a piece
pub fixed_goes : (bytes : List ℕ) (ts : List Token) → passed_fixed bytes ts ≡ Yes → GoesThrough (fixed bytes) ts (length bytes)
fixed_goes bytes ts e = λ rows f h. ((piece_tells (fixed bytes) ts rows f).1 e).1 ∙ h

pub counted_goes : (set : ByteSet) (n : ℕ) (ts : List Token) → passed_counted set n ts ≡ Yes → GoesThrough (counted set n) ts n
counted_goes set n ts e = λ rows f h. ((piece_tells (counted set n) ts rows f).1 e).1 ∙ h

pub counted_whole : (set : ByteSet) (count taken : ℕ) (ts : List Token) → taken ≡ count → passed_counted set taken ts ≡ Yes → GoesThrough (counted set count) ts taken
counted_whole set count taken ts e passed = subst (λ (n : ℕ). GoesThrough (counted set n) ts taken) e (counted_goes set taken ts passed)

pub counted_partly : (set : ByteSet) (count taken : ℕ) (text rest : List ℕ) → taken ≤ count → rest ≡ drop taken text → passed_counted set taken (tokens text) ≡ Yes → IsCut text taken → tokens rest ≡ star ∷ []
    → GoesThrough (counted set count) (tokens text) taken
counted_partly set count taken text rest h is passed cut ends =
    let d : drop taken (tokens text) ≡ star ∷ [] = sym cut ∙ ap tokens (sym is) ∙ ends in
    λ rows f t. counted_ended set count taken (tokens text) h passed d rows f (subst (λ (us : List Token). head (rows us) ≡ true) d t)

-- ---- any number of bytes, and stars
star_cons : (rest : List ℕ) → tokens (42 ∷ rest) ≡ star ∷ tokens rest
unfolding tokens_from token_at
star_cons rest = refl

pub cut_star : (text : List ℕ) (at n : ℕ) → at < length text → n ≡ suc at → get_or text at 0 ≡ 42 → IsCut text at → IsCut text n
cut_star text at n h e w cut =
    let parted : tokens (drop at text) ≡ star ∷ tokens (drop (suc at) text) =
    ap tokens (drop-cons text at 0 h ∙ ap (λ (b : ℕ). b ∷ drop (suc at) text) w) ∙ star_cons (drop (suc at) text) in
    ap (λ (i : ℕ). tokens (drop i text)) e ∙ ap rest_of (sym parted ∙ cut) ∙ rest_drop (tokens text) at ∙ sym (ap (λ (i : ℕ). drop i (tokens text)) e)

pub cut_any : (set : ByteSet) (text : List ℕ) (at n : ℕ) → at < length text → n ≡ suc at → IsOfMany set (get_or text at 0) → IsCut text at → IsCut text n
cut_any set text at n h e of cut = elim of [
  | inl starred ↦ cut_star text at n h e starred cut
  | inr both ↦ cut_more text at n h e both.1 cut
]

here_cell : (s met here next : Bool) → here ≡ true → many_cell s met here next ≡ true
here_cell true met true next e = refl
here_cell true met false next e = cc
here_cell false met true next e = refl
here_cell false met false next e = cc

next_cell : (met here next : Bool) → next ≡ true → many_cell true met here next ≡ true
next_cell met true next e = refl
next_cell met false next e = e

many_here : (set : ByteSet) (ts : List Token) (row : List Bool) → head row ≡ true → head (many_row set ts row) ≡ true
unfolding many_row
many_here set [] row h = h
many_here set (t ∷ ts) row h = here_cell (is_star t) (meets t set) (head row) (head (many_row set ts (tail row))) h

star_next : (set : ByteSet) (ts : List Token) (rows : List Token → List Bool) → IsFamily rows → head (many_row set ts (rows ts)) ≡ true → head (many_row set (star ∷ ts) (rows (star ∷ ts))) ≡ true
unfolding many_row
star_next set ts rows f h =
    next_cell true (head (rows (star ∷ ts))) (head (many_row set ts (tail (rows (star ∷ ts))))) (ap (λ (r : List Bool). head (many_row set ts r)) (f star ts) ∙ h)

-- a star takes bytes and stays, or takes none
star_here : (set : ByteSet) (us : List Token) (row : List Bool) → head row ≡ true → head (byte_row set (star ∷ us) row) ≡ true
unfolding byte_row
star_here set us row h = taken (head row) (head (tail row)) (head (byte_row set us (tail row))) h
  where
    taken : (here behind next : Bool) → here ≡ true → byte_cell true true here behind next ≡ true
    taken true behind true e = refl
    taken true behind false e = refl
    taken false behind next e = cc

fixed_here : (bytes : List ℕ) (us : List Token) (row : List Bool) → head row ≡ true → head (fixed_row bytes (star ∷ us) row) ≡ true
unfolding fixed_row
fixed_here [] us row h = h
fixed_here (b ∷ bytes) us row h = star_here (Only b) us (fixed_row bytes (star ∷ us) row) (fixed_here bytes us row h)

counted_here : (set : ByteSet) (n : ℕ) (us : List Token) (row : List Bool) → head row ≡ true → head (counted_row set n (star ∷ us) row) ≡ true
unfolding counted_row
counted_here set zero us row h = h
counted_here set (suc n) us row h = star_here set us (counted_row set n (star ∷ us) row) (counted_here set n us row h)

pub fixed_stays : (bytes : List ℕ) (ts us : List Token) → ts ≡ star ∷ us → GoesThrough (fixed bytes) ts 0
fixed_stays bytes ts us e = subst (λ (vs : List Token). GoesThrough (fixed bytes) vs 0) (sym e) (λ rows f h. fixed_here bytes us (rows (star ∷ us)) h)

pub counted_stays : (set : ByteSet) (n : ℕ) (ts us : List Token) → ts ≡ star ∷ us → GoesThrough (counted set n) ts 0
counted_stays set n ts us e = subst (λ (vs : List Token). GoesThrough (counted set n) vs 0) (sym e) (λ rows f h. counted_here set n us (rows (star ∷ us)) h)

star_first : (b : ℕ) (bytes : List ℕ) (us : List Token) (rows : List Token → List Bool) → IsFamily rows → head (fixed_row (b ∷ bytes) us (rows us)) ≡ true → head (fixed_row (b ∷ bytes) (star ∷ us) (rows (star ∷ us))) ≡ true
unfolding fixed_row byte_row
star_first b bytes us rows f h =
    let row : List Bool = fixed_row bytes (star ∷ us) (rows (star ∷ us)) in
    passed (head row) (head (tail row)) (head (byte_row (Only b) us (tail row))) (ap (λ (r : List Bool). head (byte_row (Only b) us r)) (fixed_family bytes rows f star us) ∙ h)
  where
    passed : (here behind next : Bool) → next ≡ true → byte_cell true true here behind next ≡ true
    passed here behind true e = refl
    passed here behind false e = cc

pub fixed_skips : (bytes : List ℕ) (ts us vs : List Token) (n : ℕ) → false ≡ (length bytes == 0) → ts ≡ star ∷ us → vs ≡ us → n ≡ suc (length bytes) → passed_fixed bytes vs ≡ Yes → GoesThrough (fixed bytes) ts n
fixed_skips [] ts us vs n h e i k p = cc
fixed_skips (b ∷ bytes) ts us vs n h e i k p =
    let yes : passed_fixed (b ∷ bytes) us ≡ Yes = ap (passed_fixed (b ∷ bytes)) (sym i) ∙ p in
    subst (λ (ws : List Token). GoesThrough (fixed (b ∷ bytes)) ws n) (sym e)
    (subst (λ (m : ℕ). GoesThrough (fixed (b ∷ bytes)) (star ∷ us) m) (sym k) (λ rows f t. star_first b bytes us rows f (fixed_goes (b ∷ bytes) us yes rows f t)))

pub star_text : (text : List ℕ) → false ≡ (length text == 0) → get_or text 0 0 ≡ 42 → tokens text ≡ star ∷ tokens (drop 1 text)
star_text [] h e = cc
star_text (b ∷ rest) h e = ap (λ (c : ℕ). tokens (c ∷ rest)) e ∙ star_cons rest ∙ ap (λ (l : List ℕ). star ∷ tokens l) (sym (none_dropped ℕ rest))

pub star_cut : (text : List ℕ) → false ≡ (length text == 0) → get_or text 0 0 ≡ 42 → IsCut text 1
star_cut [] h e = cc
star_cut (b ∷ rest) h e = cut_star (b ∷ rest) 0 1 (omega arith) refl e (cut_first (b ∷ rest))

-- what any number of bytes match from a place on is matched from the beginning
abbrev pub ManyTo : ByteSet → List ℕ → ℕ → Type 0
ManyTo set text at =
    (rows : List Token → List Bool) → IsFamily rows → head (many_row set (tokens (drop at text)) (rows (tokens (drop at text)))) ≡ true → head (many_row set (tokens text) (rows (tokens text))) ≡ true

pub many_first : (set : ByteSet) (text : List ℕ) → ManyTo set text 0
many_first set text = λ rows f h. subst (λ (l : List ℕ). head (many_row set (tokens l) (rows (tokens l))) ≡ true) (none_dropped ℕ text) h

one_more : (set : ByteSet) (b : ℕ) (rest : List ℕ) (rows : List Token → List Bool) → IsFamily rows → IsOfMany set b → head (many_row set (tokens rest) (rows (tokens rest))) ≡ true
    → head (many_row set (tokens (b ∷ rest)) (rows (tokens (b ∷ rest)))) ≡ true
one_more set b rest rows f of h = elim of [
  | inl starred ↦ subst (λ (ts : List Token). head (many_row set ts (rows ts)) ≡ true) (sym (ap (λ (c : ℕ). tokens (c ∷ rest)) starred ∙ star_cons rest)) (star_next set (tokens rest) rows f h)
  | inr both ↦ subst (λ (ts : List Token). head (many_row set ts (rows ts)) ≡ true) (sym (plain_token b rest both.1)) (many_next set (literal b) (tokens rest) rows f refl both.0 h)
]

pub many_more : (set : ByteSet) (text : List ℕ) (at n : ℕ) → at < length text → n ≡ suc at → IsOfMany set (get_or text at 0) → ManyTo set text at → ManyTo set text n
many_more set text at n h e of before = λ rows f more.
    before rows f (subst (λ (l : List ℕ). head (many_row set (tokens l) (rows (tokens l))) ≡ true) (sym (drop-cons text at 0 h))
    (one_more set (get_or text at 0) (drop (suc at) text) rows f of (subst (λ (i : ℕ). head (many_row set (tokens (drop i text)) (rows (tokens (drop i text)))) ≡ true) e more)))

pub many_done : (set : ByteSet) (text : List ℕ) (at : ℕ) → IsCut text at → ManyTo set text at → GoesThrough (repeated set) (tokens text) at
many_done set text at cut before = λ rows f h.
    before rows f (many_here set (tokens (drop at text)) (rows (tokens (drop at text))) (subst (λ (us : List Token). head (rows us) ≡ true) (sym cut) h))

-- ---- a way
pub led_to_first : (ps : List Piece) (ts : List Token) → LedTo ps ts 0 0
led_to_first ps ts = λ rows f h. led_first ps ts rows f ∙ h

pub led_on : (ps : List Piece) (ts us : List Token) (done next at to n : ℕ) (d p : Piece) → done < length ps → next ≡ suc done → us ≡ drop at ts → to ≡ at + n → p ≡ get_or ps done d → GoesThrough p us n → LedTo ps ts done at → LedTo ps ts next to
led_on ps ts us done next at to n d p h e u t k through led = λ rows f more.
    let inner : List Token → List Bool = λ vs. pieces_row (drop (suc done) ps) vs (rows vs) in
    let goes : GoesThrough p (drop at ts) n = subst (λ (vs : List Token). GoesThrough p vs n) u through in
    led rows f
    (ap head (next_piece ps done d p (drop at ts) (rows (drop at ts)) h k)
    ∙ goes inner (pieces_family (drop (suc done) ps) rows f)
    (ap (λ (vs : List Token). head (inner vs)) (dropped ts at n to t)
    ∙ ap (λ (i : ℕ). head (pieces_row (drop i ps) (drop to ts) (rows (drop to ts)))) (sym e)
    ∙ more))

pub led_starred : (ps : List Piece) (ts us : List Token) (done at : ℕ) → us ≡ drop at ts → us ≡ star ∷ [] → LedTo ps ts done at → GoesThroughWay ps ts at
led_starred ps ts us done at u e led = λ rows f h.
    let alone : drop at ts ≡ star ∷ [] = sym u ∙ e in
    led rows f (subst (λ (vs : List Token). head (pieces_row (drop done ps) vs (rows vs)) ≡ true) (sym alone)
    (star_pieces (drop done ps) (rows (star ∷ [])) (subst (λ (vs : List Token). head (rows vs) ≡ true) alone h)))

pub led_whole : (ps : List Piece) (ts : List Token) (done at : ℕ) → length ps ≤ done → LedTo ps ts done at → GoesThroughWay ps ts at
unfolding pieces_row
led_whole ps ts done at h led = λ rows f t.
    led rows f (subst (λ (l : List Piece). head (pieces_row l (drop at ts) (rows (drop at ts))) ≡ true) (sym (drop_all done ps h)) t)

-- ---- a field
pub field_first : (ts : List Token) (left other : List Bool) → head left ≡ true → head (either_row ts left other) ≡ true
unfolding either_row
field_first [] left other h = if_first (head left) (head other) h
field_first (t ∷ ts) left other h = if_first (head left) (head other) h

field_later : (ts : List Token) (left other : List Bool) → head other ≡ true → head (either_row ts left other) ≡ true
unfolding either_row
field_later [] left other h = if_either (head left) (head other) h
field_later (t ∷ ts) left other h = if_either (head left) (head other) h

way_in : (field : List (List Piece)) (i : ℕ) (d : List Piece) (ts : List Token) (row : List Bool) → i < length field → head (pieces_row (get_or field i d) ts row) ≡ true → head (field_row field ts row) ≡ true
unfolding field_row
way_in [] i d ts row h e = absurd (omega arith)
way_in (way ∷ more) zero d ts row h e = field_first ts (pieces_row way ts row) (field_row more ts row) e
way_in (way ∷ more) (suc i) d ts row h e = field_later ts (pieces_row way ts row) (field_row more ts row) (way_in more i d ts row (omega arith) e)

pub map_at : (A B : Type 0) (f : A → B) (l : List A) (i : ℕ) (d : A) → f (get_or l i d) ≡ get_or (map f l) i (f d)
map_at A B f [] zero d = refl
map_at A B f [] (suc i) d = refl
map_at A B f (x ∷ l) zero d = refl
map_at A B f (x ∷ l) (suc i) d = map_at A B f l i d

pub map_long : (A B : Type 0) (f : A → B) (l : List A) → length (map f l) ≡ length l
map_long A B f [] = refl
map_long A B f (x ∷ l) = ap suc (map_long A B f l)

pub field_through : (A : Type 0) (f : A → List Piece) (field : List A) (i : ℕ) (d : A) (ts : List Token) (n : ℕ) → i < length field → GoesThroughWay (f (get_or field i d)) ts n → GoesThroughField (map f field) ts n
field_through A f field i d ts n h through = λ rows g t.
    way_in (map f field) i (f d) ts (rows ts) (omega (arith, h, map_long A (List Piece) f field))
    (subst (λ (way : List Piece). head (pieces_row way ts (rows ts)) ≡ true) (map_at A (List Piece) f field i d) (through rows g t))

-- ---- fields
abbrev pub FieldsTo : List (List (List Piece)) → List Token → ℕ → ℕ → Type 0
FieldsTo fields ts done at = head (fields_row (drop done fields) (drop at ts)) ≡ true → head (fields_row fields ts) ≡ true

pub fields_first : (fields : List (List (List Piece))) (ts : List Token) → FieldsTo fields ts 0 0
fields_first fields ts = λ h. subst (λ (fs : List (List (List Piece))). head (fields_row fs ts) ≡ true) (none_dropped (List (List Piece)) fields)
    (subst (λ (us : List Token). head (fields_row (drop 0 fields) us) ≡ true) (none_dropped Token ts) h)

pub next_field : (fields : List (List (List Piece))) (done : ℕ) (d field : List (List Piece)) (us : List Token) → done < length fields → field ≡ get_or fields done d → fields_row (drop done fields) us ≡ field_row field us (fields_row (drop (suc done) fields) us)
unfolding fields_row
next_field fields done d field us h e = rw (drop-cons fields done d h, e) refl

pub fields_on : (A : Type 0) (f : A → List (List Piece)) (all : List A) (d : A) (ts us : List Token) (done next at to n : ℕ) → done < length all → next ≡ suc done → us ≡ drop at ts → to ≡ at + n
    → GoesThroughField (f (get_or all done d)) us n → FieldsTo (map f all) ts done at → FieldsTo (map f all) ts next to
fields_on A f all d ts us done next at to n h e u t through before more =
    let fields : List (List (List Piece)) = map f all in
    let inner : List Token → List Bool = fields_row (drop (suc done) fields) in
    let goes : GoesThroughField (f (get_or all done d)) (drop at ts) n = subst (λ (vs : List Token). GoesThroughField (f (get_or all done d)) vs n) u through in
    before
    (ap head (next_field fields done (f d) (f (get_or all done d)) (drop at ts) (omega (arith, h, map_long A (List (List Piece)) f all)) (map_at A (List (List Piece)) f all done d))
    ∙ goes inner (fields_family (drop (suc done) fields))
    (ap (λ (vs : List Token). head (inner vs)) (dropped ts at n to t) ∙ ap (λ (i : ℕ). head (fields_row (drop i fields) (drop to ts))) (sym e) ∙ more))

pub fields_done : (A : Type 0) (f : A → List (List Piece)) (all : List A) (ts us : List Token) (done at : ℕ) → length all ≤ done → us ≡ drop at ts → head (end_row us) ≡ true → FieldsTo (map f all) ts done at → head (fields_row (map f all) ts) ≡ true
unfolding fields_row
fields_done A f all ts us done at h u e before =
    before (subst (λ (fs : List (List (List Piece))). head (fields_row fs (drop at ts)) ≡ true) (sym (drop_all done (map f all) (omega (arith, h, map_long A (List (List Piece)) f all))))
    (subst (λ (vs : List Token). head (end_row vs) ≡ true) u e))

pub nothing_ends : (text : List ℕ) → true ≡ (length text == 0) → head (end_row (tokens text)) ≡ true
unfolding end_row tokens_from
nothing_ends [] e = refl
nothing_ends (b ∷ text) e = absurd (let none : suc (length text) ≡ 0 = eqb-true (suc (length text)) 0 (sym e) in omega (arith, none))

pub star_ends : (ts : List Token) → ts ≡ star ∷ [] → head (end_row ts) ≡ true
unfolding end_row
star_ends ts e = subst (λ (us : List Token). head (end_row us) ≡ true) (sym e) refl
