-- How tokens begin, before the first star.
use Rattle.std.proofs.Common.{◌≡◌, ℕ, ◌+◌, ◌<◌, ◌≤◌, Bool, true, false, List, [], ◌∷◌, ◌++◌, refl, sym, ap, subst, ◌∙◌, Bor, length, drop, get_or, suc, zero, arith, map}
use Rattle.std.proofs.Math.Seq.{drop-cons}
use Rattle.std.proofs.lemmas.List.{drop-drop, length-drop}
use Rattle.std.specs.Prelude.{if◌then◌else◌}
use Rattle.hwdb_spec.specs.declared.ByteSet.{ByteSet}
use Rattle.hwdb_spec.specs.declared.ByteSet.TheVariants.{Only}
use Rattle.hwdb_spec.specs.Patterns.{Token, token_at}
use Rattle.hwdb_spec.specs.Forms.{Piece, fixed, counted, repeated, is_star, meets, head, tail, byte_cell, byte_row, many_row, fixed_row, counted_row, piece_row, pieces_row, either_row, end_row, none_row, field_row, fields_row}
use Rattle.hwdb_forms.specs.declared.leads.Passed.TheVariants.{No, Unknown, Yes}
use Rattle.hwdb_forms.specs.declared.leads.Passed.{Passed}
use Rattle.hwdb_forms.specs.declared.leads.Lead.{Lead}
use Rattle.hwdb_forms.specs.declared.pieces.Piece as Rust
use Rattle.hwdb_forms.specs.Internal.{IsFamily, Leads, fields_of, is_no, passed, passed_counted, passed_fixed, piece_of, piece_size, views, way_met}
use Rattle.hwdb_forms.proofs.ViewLemmas.{below, none, split, view_at, views_length}

-- the loops
long_drop : (A : Type 0) (l : List A) (n : ℕ) → length l ≤ n → drop n l ≡ []
long_drop A [] zero h = refl
long_drop A [] (suc n) h = refl
long_drop A (x ∷ l) zero h = absurd (omega arith)
long_drop A (x ∷ l) (suc n) h = long_drop A l n (omega arith)

if_star : (b met : Bool) (rest : Passed) → b ≡ true → (if b then Unknown else (if met then rest else No)) ≡ Unknown
if_star true met rest e = refl
if_star false met rest e = cc

if_unmet : (b met : Bool) (rest : Passed) → b ≡ false → met ≡ false → (if b then Unknown else (if met then rest else No)) ≡ No
if_unmet false false rest e f = refl
if_unmet true met rest e f = cc
if_unmet false true rest e f = cc

if_met : (b met : Bool) (rest : Passed) → b ≡ false → met ≡ true → (if b then Unknown else (if met then rest else No)) ≡ rest
if_met false true rest e f = refl
if_met true met rest e f = cc
if_met false false rest e f = cc

pub token_of : (texts : List (Bor (List ℕ))) (at : ℕ) → at < length texts → drop at (views texts) ≡ token_at (get_or texts at none).now ∷ drop (suc at) (views texts)
token_of texts at h = split (views texts) at (below texts at h) ∙ ap (λ (t : Token). t ∷ drop (suc at) (views texts)) (sym (view_at texts at h))

fixed_dropped : (bytes : List ℕ) (texts : List (Bor (List ℕ))) (at : ℕ) → at < length bytes → at < length texts
    → passed_fixed (drop at bytes) (drop at (views texts)) ≡ passed_fixed (get_or bytes at 0 ∷ drop (suc at) bytes) (token_at (get_or texts at none).now ∷ drop (suc at) (views texts))
fixed_dropped bytes texts at h k = rw (drop-cons bytes at 0 h, token_of texts at k) refl

pub fixed_star : (bytes : List ℕ) (texts : List (Bor (List ℕ))) (at : ℕ) (b : Bool) (whole : Passed) → at < length bytes → at < length texts
    → b ≡ is_star (token_at (get_or texts at none).now) → b ≡ true → passed_fixed (drop at bytes) (drop at (views texts)) ≡ whole → Unknown ≡ whole
fixed_star bytes texts at b whole h k s e w =
    sym (if_star (is_star (token_at (get_or texts at none).now)) (meets (token_at (get_or texts at none).now) (Only (get_or bytes at 0))) (passed_fixed (drop (suc at) bytes) (drop (suc at) (views texts))) (sym s ∙ e))
    ∙ sym (fixed_dropped bytes texts at h k) ∙ w

pub fixed_no : (bytes : List ℕ) (texts : List (Bor (List ℕ))) (at : ℕ) (b met : Bool) (whole : Passed) → at < length bytes → at < length texts
    → b ≡ is_star (token_at (get_or texts at none).now) → b ≡ false → met ≡ meets (token_at (get_or texts at none).now) (Only (get_or bytes at 0)) → met ≡ false
    → passed_fixed (drop at bytes) (drop at (views texts)) ≡ whole → No ≡ whole
fixed_no bytes texts at b met whole h k s e m f w =
    sym (if_unmet (is_star (token_at (get_or texts at none).now)) (meets (token_at (get_or texts at none).now) (Only (get_or bytes at 0))) (passed_fixed (drop (suc at) bytes) (drop (suc at) (views texts))) (sym s ∙ e) (sym m ∙ f))
    ∙ sym (fixed_dropped bytes texts at h k) ∙ w

pub fixed_goes_on : (bytes : List ℕ) (texts : List (Bor (List ℕ))) (at n : ℕ) (b met : Bool) (whole : Passed) → at < length bytes → at < length texts → n ≡ suc at
    → b ≡ is_star (token_at (get_or texts at none).now) → b ≡ false → met ≡ meets (token_at (get_or texts at none).now) (Only (get_or bytes at 0)) → met ≡ true
    → passed_fixed (drop at bytes) (drop at (views texts)) ≡ whole → passed_fixed (drop n bytes) (drop n (views texts)) ≡ whole
fixed_goes_on bytes texts at n b met whole h k l s e m f w =
    ap (λ (i : ℕ). passed_fixed (drop i bytes) (drop i (views texts))) l
    ∙ sym (if_met (is_star (token_at (get_or texts at none).now)) (meets (token_at (get_or texts at none).now) (Only (get_or bytes at 0))) (passed_fixed (drop (suc at) bytes) (drop (suc at) (views texts))) (sym s ∙ e) (sym m ∙ f))
    ∙ sym (fixed_dropped bytes texts at h k) ∙ w

pub fixed_yes : (bytes : List ℕ) (ts : List Token) (at : ℕ) (whole : Passed) → length bytes ≤ at → passed_fixed (drop at bytes) ts ≡ whole → Yes ≡ whole
fixed_yes bytes ts at whole h w = ap (λ (r : List ℕ). passed_fixed r ts) (sym (long_drop ℕ bytes at h)) ∙ w

no_tokens : (bytes : List ℕ) (ts : List Token) → 0 < length bytes → ts ≡ [] → passed_fixed bytes ts ≡ Unknown
no_tokens [] ts h e = absurd (omega arith)
no_tokens (b ∷ bytes) [] h e = refl
no_tokens (b ∷ bytes) (t ∷ ts) h e = cc

pub fixed_ends : (bytes : List ℕ) (texts : List (Bor (List ℕ))) (at : ℕ) (whole : Passed) → at < length bytes → length texts ≤ at → passed_fixed (drop at bytes) (drop at (views texts)) ≡ whole → Unknown ≡ whole
fixed_ends bytes texts at whole h k w =
    sym (no_tokens (drop at bytes) (drop at (views texts)) (subst (λ (l : List ℕ). 0 < length l) (sym (drop-cons bytes at 0 h)) (omega arith))
    (long_drop Token (views texts) at (subst (λ (n : ℕ). n ≤ at) (sym (views_length texts)) k))) ∙ w

counted_dropped : (set : ByteSet) (n at : ℕ) (texts : List (Bor (List ℕ))) (m : ℕ) → m ≡ suc n → at < length texts
    → passed_counted set m (drop at (views texts)) ≡ passed_counted set (suc n) (token_at (get_or texts at none).now ∷ drop (suc at) (views texts))
counted_dropped set n at texts m e k = rw (e, token_of texts at k) refl

pub counted_star : (set : ByteSet) (m n at : ℕ) (texts : List (Bor (List ℕ))) (b : Bool) (whole : Passed) → m ≡ suc n → at < length texts
    → b ≡ is_star (token_at (get_or texts at none).now) → b ≡ true → passed_counted set m (drop at (views texts)) ≡ whole → Unknown ≡ whole
counted_star set m n at texts b whole l k s e w =
    sym (if_star (is_star (token_at (get_or texts at none).now)) (meets (token_at (get_or texts at none).now) set) (passed_counted set n (drop (suc at) (views texts))) (sym s ∙ e))
    ∙ sym (counted_dropped set n at texts m l k) ∙ w

pub counted_no : (set : ByteSet) (m n at : ℕ) (texts : List (Bor (List ℕ))) (b met : Bool) (whole : Passed) → m ≡ suc n → at < length texts
    → b ≡ is_star (token_at (get_or texts at none).now) → b ≡ false → met ≡ meets (token_at (get_or texts at none).now) set → met ≡ false → passed_counted set m (drop at (views texts)) ≡ whole → No ≡ whole
counted_no set m n at texts b met whole l k s e f g w =
    sym (if_unmet (is_star (token_at (get_or texts at none).now)) (meets (token_at (get_or texts at none).now) set) (passed_counted set n (drop (suc at) (views texts))) (sym s ∙ e) (sym f ∙ g))
    ∙ sym (counted_dropped set n at texts m l k) ∙ w

pub counted_goes_on : (set : ByteSet) (m n at next : ℕ) (texts : List (Bor (List ℕ))) (b met : Bool) (whole : Passed) → m ≡ suc n → at < length texts → next ≡ suc at
    → b ≡ is_star (token_at (get_or texts at none).now) → b ≡ false → met ≡ meets (token_at (get_or texts at none).now) set → met ≡ true
    → passed_counted set m (drop at (views texts)) ≡ whole → passed_counted set n (drop next (views texts)) ≡ whole
counted_goes_on set m n at next texts b met whole l k i s e f g w =
    ap (λ (j : ℕ). passed_counted set n (drop j (views texts))) i
    ∙ sym (if_met (is_star (token_at (get_or texts at none).now)) (meets (token_at (get_or texts at none).now) set) (passed_counted set n (drop (suc at) (views texts))) (sym s ∙ e) (sym f ∙ g))
    ∙ sym (counted_dropped set n at texts m l k) ∙ w

pub counted_yes : (set : ByteSet) (m : ℕ) (ts : List Token) (whole : Passed) → m ≡ 0 → passed_counted set m ts ≡ whole → Yes ≡ whole
counted_yes set m ts whole e w = ap (λ (i : ℕ). passed_counted set i ts) (sym e) ∙ w

none_counted : (set : ByteSet) (m n : ℕ) (ts : List Token) → m ≡ suc n → ts ≡ [] → passed_counted set m ts ≡ Unknown
none_counted set zero n ts h e = absurd (omega (arith, h))
none_counted set (suc m) n [] h e = refl
none_counted set (suc m) n (t ∷ ts) h e = cc

pub counted_ends : (set : ByteSet) (m n at : ℕ) (texts : List (Bor (List ℕ))) (whole : Passed) → m ≡ suc n → length texts ≤ at → passed_counted set m (drop at (views texts)) ≡ whole → Unknown ≡ whole
counted_ends set m n at texts whole h k w =
    sym (none_counted set m n (drop at (views texts)) h (long_drop Token (views texts) at (subst (λ (i : ℕ). i ≤ at) (sym (views_length texts)) k))) ∙ w

-- rows for each list of tokens
pub byte_family : (set : ByteSet) (rows : List Token → List Bool) → IsFamily rows → IsFamily (λ ts. byte_row set ts (rows ts))
unfolding byte_row
byte_family set rows f t ts = ap (byte_row set ts) (f t ts)

many_family : (set : ByteSet) (rows : List Token → List Bool) → IsFamily rows → IsFamily (λ ts. many_row set ts (rows ts))
unfolding many_row
many_family set rows f t ts = ap (many_row set ts) (f t ts)

pub fixed_family : (bytes : List ℕ) (rows : List Token → List Bool) → IsFamily rows → IsFamily (λ ts. fixed_row bytes ts (rows ts))
unfolding fixed_row
fixed_family [] rows f t ts = f t ts
fixed_family (b ∷ bytes) rows f t ts = byte_family (Only b) (λ us. fixed_row bytes us (rows us)) (fixed_family bytes rows f) t ts

pub counted_family : (set : ByteSet) (n : ℕ) (rows : List Token → List Bool) → IsFamily rows → IsFamily (λ ts. counted_row set n ts (rows ts))
unfolding counted_row
counted_family set zero rows f t ts = f t ts
counted_family set (suc n) rows f t ts = byte_family set (λ us. counted_row set n us (rows us)) (counted_family set n rows f) t ts

piece_family : (p : Piece) (rows : List Token → List Bool) → IsFamily rows → IsFamily (λ ts. piece_row p ts (rows ts))
piece_family (fixed bytes) rows f t ts = fixed_family bytes rows f t ts
piece_family (counted set n) rows f t ts = counted_family set n rows f t ts
piece_family (repeated set) rows f t ts = many_family set rows f t ts

pub pieces_family : (ps : List Piece) (rows : List Token → List Bool) → IsFamily rows → IsFamily (λ ts. pieces_row ps ts (rows ts))
unfolding pieces_row
pieces_family [] rows f t ts = f t ts
pieces_family (p ∷ ps) rows f t ts = piece_family p (λ us. pieces_row ps us (rows us)) (pieces_family ps rows f) t ts

either_family : (left other : List Token → List Bool) → IsFamily left → IsFamily other → IsFamily (λ ts. either_row ts (left ts) (other ts))
unfolding either_row
either_family left other f g t ts = ap (λ (l : List Bool). either_row ts l (tail (other (t ∷ ts)))) (f t ts) ∙ ap (either_row ts (left ts)) (g t ts)

none_family : IsFamily none_row
unfolding none_row
none_family t ts = refl

end_family : IsFamily end_row
unfolding end_row
end_family t ts = refl

field_family : (field : List (List Piece)) (rows : List Token → List Bool) → IsFamily rows → IsFamily (λ ts. field_row field ts (rows ts))
unfolding field_row
field_family [] rows f t ts = none_family t ts
field_family (way ∷ more) rows f t ts =
    either_family (λ us. pieces_row way us (rows us)) (λ us. field_row more us (rows us)) (pieces_family way rows f) (field_family more rows f) t ts

pub fields_family : (fields : List (List (List Piece))) → IsFamily (fields_row fields)
unfolding fields_row
fields_family [] t ts = end_family t ts
fields_family (field ∷ more) t ts = field_family field (fields_row more) (fields_family more) t ts

-- one byte before a token that isn't a star
no_star : (starred met here behind next : Bool) → starred ≡ false → byte_cell starred met here behind next ≡ (if met then behind else false)
no_star false met here behind next e = refl
no_star true met here behind next e = cc

byte_first : (set : ByteSet) (t : Token) (ts : List Token) (rows : List Token → List Bool) → IsFamily rows → is_star t ≡ false → head (byte_row set (t ∷ ts) (rows (t ∷ ts))) ≡ (if meets t set then head (rows ts) else false)
unfolding byte_row
byte_first set t ts rows f e =
    no_star (is_star t) (meets t set) (head (rows (t ∷ ts))) (head (tail (rows (t ∷ ts)))) (head (byte_row set ts (tail (rows (t ∷ ts))))) e
    ∙ ap (λ (r : List Bool). if meets t set then head r else false) (f t ts)

pub cases : (b met : Bool) (rest whole : Passed) → (if b then Unknown else (if met then rest else No)) ≡ whole → (whole ≡ Unknown → ⊥) → (b ≡ false) × ((met ≡ false → whole ≡ No) × (met ≡ true → rest ≡ whole))
cases true met rest whole e n = absurd (n (sym e))
cases false true rest whole e n = (refl, (λ f. cc, λ f. e))
cases false false rest whole e n = (refl, (λ f. sym e, λ f. cc))

if_yes : (b : Bool) (x : Bool) → b ≡ true → (if b then x else false) ≡ x
if_yes true x e = refl
if_yes false x e = cc

if_no : (b : Bool) (x : Bool) → b ≡ false → (if b then x else false) ≡ false
if_no false x e = refl
if_no true x e = cc

by_both : (A : Type 0) (b : Bool) → (b ≡ true → A) → (b ≡ false → A) → A
by_both A true f g = f refl
by_both A false f g = g refl

-- what is told of a piece: whatever comes after it
abbrev pub Tells : (Passed) → ℕ → List Token → (List Token → List Bool) → Bool → Type 0
Tells told n ts rows first = (told ≡ No → first ≡ false) × (told ≡ Yes → (n ≤ length ts) × (first ≡ head (rows (drop n ts))))

step_tells : (set : ByteSet) (t : Token) (ts : List Token) (n : ℕ) (rest whole : Passed) (inner rows : List Token → List Bool) → IsFamily inner
    → (if is_star t then Unknown else (if meets t set then rest else No)) ≡ whole → Tells rest n ts rows (head (inner ts)) → Tells whole (suc n) (t ∷ ts) rows (head (byte_row set (t ∷ ts) (inner (t ∷ ts))))
step_tells set t ts n rest whole inner rows f e k = (
  λ no. let c : (is_star t ≡ false) × ((meets t set ≡ false → whole ≡ No) × (meets t set ≡ true → rest ≡ whole)) = cases (is_star t) (meets t set) rest whole e (λ u. let x : No ≡ Unknown = sym no ∙ u in cc) in
      byte_first set t ts inner f c.0
      ∙ by_both _ (meets t set)
      (λ met. if_yes (meets t set) (head (inner ts)) met ∙ k.0 (c.1.1 met ∙ no))
      (λ unmet. if_no (meets t set) (head (inner ts)) unmet),
  λ yes. let c : (is_star t ≡ false) × ((meets t set ≡ false → whole ≡ No) × (meets t set ≡ true → rest ≡ whole)) = cases (is_star t) (meets t set) rest whole e (λ u. let x : Yes ≡ Unknown = sym yes ∙ u in cc) in
      let met : meets t set ≡ true = by_both _ (meets t set) (λ met. met) (λ unmet. let x : No ≡ Yes = sym (c.1.0 unmet) ∙ yes in cc) in
      let more : (n ≤ length ts) × (head (inner ts) ≡ head (rows (drop n ts))) = k.1 (c.1.1 met ∙ yes) in
      (omega (arith, more.0), byte_first set t ts inner f c.0 ∙ if_yes (meets t set) (head (inner ts)) met ∙ more.1),
)

fixed_tells : (bytes : List ℕ) (ts : List Token) (rows : List Token → List Bool) → IsFamily rows → Tells (passed_fixed bytes ts) (length bytes) ts rows (head (fixed_row bytes ts (rows ts)))
unfolding fixed_row
fixed_tells [] ts rows f = (λ no. cc, λ yes. (omega arith, refl))
fixed_tells (b ∷ bytes) [] rows f = (λ no. cc, λ yes. cc)
fixed_tells (b ∷ bytes) (t ∷ ts) rows f =
    step_tells (Only b) t ts (length bytes) (passed_fixed bytes ts) _ (λ us. fixed_row bytes us (rows us)) rows (fixed_family bytes rows f) refl (fixed_tells bytes ts rows f)

pub counted_tells : (set : ByteSet) (n : ℕ) (ts : List Token) (rows : List Token → List Bool) → IsFamily rows → Tells (passed_counted set n ts) n ts rows (head (counted_row set n ts (rows ts)))
unfolding counted_row
counted_tells set zero ts rows f = (λ no. cc, λ yes. (omega arith, refl))
counted_tells set (suc n) [] rows f = (λ no. cc, λ yes. cc)
counted_tells set (suc n) (t ∷ ts) rows f =
    step_tells set t ts n (passed_counted set n ts) _ (λ us. counted_row set n us (rows us)) rows (counted_family set n rows f) refl (counted_tells set n ts rows f)

pub piece_tells : (p : Piece) (ts : List Token) (rows : List Token → List Bool) → IsFamily rows → Tells (passed p ts) (piece_size p) ts rows (head (piece_row p ts (rows ts)))
piece_tells (fixed bytes) ts rows f = fixed_tells bytes ts rows f
piece_tells (counted set n) ts rows f = counted_tells set n ts rows f
piece_tells (repeated set) ts rows f = (λ no. cc, λ yes. cc)

-- a piece more, and none more
abbrev pub Led : List Piece → List Token → ℕ → ℕ → Type 0
Led ps ts done at =
    (rows : List Token → List Bool) → IsFamily rows → head (pieces_row ps ts (rows ts)) ≡ head (pieces_row (drop done ps) (drop at ts) (rows (drop at ts)))

pub led_first : (ps : List Piece) (ts : List Token) → Led ps ts 0 0
led_first [] [] rows f = refl
led_first (p ∷ ps) [] rows f = refl
led_first [] (t ∷ ts) rows f = refl
led_first (p ∷ ps) (t ∷ ts) rows f = refl

pub next_piece : (ps : List Piece) (done : ℕ) (d p : Piece) (us : List Token) (row : List Bool) → done < length ps → p ≡ get_or ps done d → pieces_row (drop done ps) us row ≡ piece_row p us (pieces_row (drop (suc done) ps) us row)
unfolding pieces_row
next_piece ps done d p us row h e = rw (drop-cons ps done d h, e) refl

pub dropped : (ts : List Token) (at n m : ℕ) → m ≡ at + n → drop n (drop at ts) ≡ drop m ts
dropped ts at n m e = drop-drop n at ts ∙ ap (λ (i : ℕ). drop i ts) (sym e)

pub led_more : (ps : List Piece) (ts us : List Token) (done next at to : ℕ) (d p : Piece) → done < length ps → next ≡ suc done → us ≡ drop at ts → to ≡ at + piece_size p → p ≡ get_or ps done d → passed p us ≡ Yes → Led ps ts done at → Led ps ts next to
led_more ps ts us done next at to d p h n u e k y led rows f =
    let inner : List Token → List Bool = λ vs. pieces_row (drop (suc done) ps) vs (rows vs) in
    let told : (piece_size p ≤ length (drop at ts)) × (head (piece_row p (drop at ts) (inner (drop at ts))) ≡ head (inner (drop (piece_size p) (drop at ts)))) =
    (piece_tells p (drop at ts) inner (pieces_family (drop (suc done) ps) rows f)).1 (ap (passed p) (sym u) ∙ y) in
    led rows f
    ∙ ap head (next_piece ps done d p (drop at ts) (rows (drop at ts)) h k)
    ∙ told.1
    ∙ ap (λ (vs : List Token). head (inner vs)) (dropped ts at (piece_size p) to e)
    ∙ ap (λ (i : ℕ). head (pieces_row (drop i ps) (drop to ts) (rows (drop to ts)))) (sym n)

-- what is known of the first tokens stays, whatever comes after them
more_by : (s m : Bool) (old new told : Passed) → (told ≡ Unknown → ⊥) → (old ≡ told → new ≡ told) → (if s then Unknown else (if m then old else No)) ≡ told → (if s then Unknown else (if m then new else No)) ≡ told
more_by true m old new told n f e = absurd (n (sym e))
more_by false true old new told n f e = f e
more_by false false old new told n f e = e

fixed_more : (bytes : List ℕ) (ts more : List Token) (told : Passed) → passed_fixed bytes ts ≡ told → (told ≡ Unknown → ⊥) → passed_fixed bytes (ts ++ more) ≡ told
fixed_more [] ts more told e n = e
fixed_more (b ∷ bytes) [] more told e n = absurd (n (sym e))
fixed_more (b ∷ bytes) (t ∷ ts) more told e n =
    more_by (is_star t) (meets t (Only b)) (passed_fixed bytes ts) (passed_fixed bytes (ts ++ more)) told n (λ k. fixed_more bytes ts more told k n) e

counted_more : (set : ByteSet) (i : ℕ) (ts more : List Token) (told : Passed) → passed_counted set i ts ≡ told → (told ≡ Unknown → ⊥) → passed_counted set i (ts ++ more) ≡ told
counted_more set zero ts more told e n = e
counted_more set (suc i) [] more told e n = absurd (n (sym e))
counted_more set (suc i) (t ∷ ts) more told e n =
    more_by (is_star t) (meets t set) (passed_counted set i ts) (passed_counted set i (ts ++ more)) told n (λ k. counted_more set i ts more told k n) e

piece_more : (p : Piece) (ts more : List Token) (told : Passed) → passed p ts ≡ told → (told ≡ Unknown → ⊥) → passed p (ts ++ more) ≡ told
piece_more (fixed bytes) ts more told e n = fixed_more bytes ts more told e n
piece_more (counted set i) ts more told e n = counted_more set i ts more told e n
piece_more (repeated set) ts more told e n = e

pub fixed_stays : (bytes : List ℕ) (ts more : List Token) (told whole : Passed) → told ≡ passed_fixed bytes ts → told ≡ whole → (whole ≡ Unknown → ⊥) → told ≡ passed_fixed bytes (ts ++ more)
fixed_stays bytes ts more told whole e k n = k ∙ sym (fixed_more bytes ts more whole (sym e ∙ k) n)

is_told : (told : Passed) → is_no told ≡ true → told ≡ No
is_told No e = refl
is_told Unknown e = cc
is_told Yes e = cc

pub no_more : (p : Piece) (ts more : List Token) (told : Passed) (dead : Bool) → told ≡ passed p ts → dead ≡ is_no told → dead ≡ true → passed p (ts ++ more) ≡ No
no_more p ts more told dead e n t = piece_more p ts more No (sym e ∙ is_told told (sym n ∙ t)) (λ u. cc)

pub yes_more : (p : Piece) (ts more : List Token) (told : Passed) → told ≡ passed p ts → told ≡ Yes → passed p (ts ++ more) ≡ Yes
yes_more p ts more told e y = piece_more p ts more Yes (sym e ∙ y) (λ u. cc)

drop_joined : (ts more : List Token) (at : ℕ) → at ≤ length ts → drop at ts ++ more ≡ drop at (ts ++ more)
drop_joined [] more zero h = drop_none more
  where
    drop_none : (l : List Token) → l ≡ drop 0 l
    drop_none [] = refl
    drop_none (x ∷ l) = refl
drop_joined [] more (suc at) h = absurd (omega arith)
drop_joined (t ∷ ts) more zero h = refl
drop_joined (t ∷ ts) more (suc at) h = drop_joined ts more at (omega arith)

pub rest_more : (ts us more : List Token) (at : ℕ) → us ≡ drop at ts → at ≤ length ts → us ++ more ≡ drop at (ts ++ more)
rest_more ts us more at e h = ap (λ (l : List Token). l ++ more) e ∙ drop_joined ts more at h

pub led_stops : (ps : List Piece) (ts us : List Token) (done at : ℕ) (d p : Piece) (dead : Bool) → done < length ps → us ≡ drop at ts → p ≡ get_or ps done d → (dead ≡ true → passed p us ≡ No) → Led ps ts done at
    → Leads ps ts (record { is_dead = dead; pieces = done; tokens = at })
led_stops ps ts us done at d p dead h u k dies led rows f =
    let inner : List Token → List Bool = λ vs. pieces_row (drop (suc done) ps) vs (rows vs) in
    by_both _ dead
    (λ lost. led rows f ∙ ap head (next_piece ps done d p (drop at ts) (rows (drop at ts)) h k)
    ∙ (piece_tells p (drop at ts) inner (pieces_family (drop (suc done) ps) rows f)).0 (ap (passed p) (sym u) ∙ dies lost)
    ∙ sym (if_dead dead (head (pieces_row (drop done ps) (drop at ts) (rows (drop at ts)))) lost))
    (λ alive. led rows f ∙ sym (if_alive dead (head (pieces_row (drop done ps) (drop at ts) (rows (drop at ts)))) alive))
  where
    if_dead : (b x : Bool) → b ≡ true → (if b then false else x) ≡ false
    if_dead true x e = refl
    if_dead false x e = cc

    if_alive : (b x : Bool) → b ≡ false → (if b then false else x) ≡ x
    if_alive false x e = refl
    if_alive true x e = cc

pub led_next : (ps : List Piece) (ts us : List Token) (done next at to : ℕ) (d p : Piece) (told : Passed) → done < length ps → next ≡ suc done → us ≡ drop at ts → at ≤ length ts → to ≡ at + piece_size p → p ≡ get_or ps done d
    → told ≡ passed p us → told ≡ Yes → ((more : List Token) → Led ps (ts ++ more) done at) → (more : List Token) → Led ps (ts ++ more) next to
led_next ps ts us done next at to d p told h n u w e k t y led more =
    led_more ps (ts ++ more) (us ++ more) done next at to d p h n (rest_more ts us more at u w) e k (yes_more p us more told t y) (led more)

pub led_ended : (ps : List Piece) (ts us : List Token) (done at : ℕ) (d p : Piece) (told : Passed) (dead : Bool) → done < length ps → us ≡ drop at ts → at ≤ length ts → p ≡ get_or ps done d
    → told ≡ passed p us → dead ≡ is_no told → ((more : List Token) → Led ps (ts ++ more) done at) → (more : List Token) → Leads ps (ts ++ more) (record { is_dead = dead; pieces = done; tokens = at })
led_ended ps ts us done at d p told dead h u w k t e led more =
    led_stops ps (ts ++ more) (us ++ more) done at d p dead h (rest_more ts us more at u w) k (no_more p us more told dead t e) (led more)

-- lists of Rust's, and what they mean
pub views_drop : (texts : List (Bor (List ℕ))) (n : ℕ) → views (drop n texts) ≡ drop n (views texts)
views_drop [] zero = refl
views_drop [] (suc n) = refl
views_drop (t ∷ texts) zero = refl
views_drop (t ∷ texts) (suc n) = views_drop texts n

pub mapped_at : (l : List Rust.Piece) (i : ℕ) (d : Rust.Piece) → piece_of (get_or l i d) ≡ get_or (map piece_of l) i (piece_of d)
mapped_at [] zero d = refl
mapped_at [] (suc i) d = refl
mapped_at (x ∷ l) zero d = refl
mapped_at (x ∷ l) (suc i) d = mapped_at l i d

pub mapped_long : (l : List Rust.Piece) → length (map piece_of l) ≡ length l
mapped_long [] = refl
mapped_long (x ∷ l) = ap suc (mapped_long l)

pub mapped_drop : (l : List Rust.Piece) (n : ℕ) → map piece_of (drop n l) ≡ drop n (map piece_of l)
mapped_drop [] zero = refl
mapped_drop [] (suc n) = refl
mapped_drop (x ∷ l) zero = refl
mapped_drop (x ∷ l) (suc n) = mapped_drop l n

pub long_views : (texts : List (Bor (List ℕ))) (at : ℕ) → at ≤ length texts → at ≤ length (views texts)
long_views texts at h = subst (λ (n : ℕ). at ≤ n) (sym (views_length texts)) h

pub none_more : (ps : List Piece) (ts : List Token) (lead : Lead) → ((more : List Token) → Leads ps (ts ++ more) lead) → Leads ps ts lead
none_more ps ts lead l = subst (λ (us : List Token). Leads ps us lead) (sym (append_none ts)) (l [])
  where
    append_none : (us : List Token) → us ≡ us ++ []
    append_none [] = refl
    append_none (u ∷ us) = ap (λ (r : List Token). u ∷ r) (append_none us)

pub within_rest : (texts rest : List (Bor (List ℕ))) (at n m : ℕ) → rest ≡ drop at texts → at ≤ length texts → m ≡ n → n ≤ length rest → at + m ≤ length texts
within_rest texts rest at n m e h s k = omega (arith, ap length e, length-drop at texts)

-- a way, and the fields after it
if_dead : (b x : Bool) → b ≡ true → (if b then false else x) ≡ false
if_dead true x e = refl
if_dead false x e = cc

pub if_alive : (b x : Bool) → b ≡ false → (if b then false else x) ≡ x
if_alive false x e = refl
if_alive true x e = cc

pub way_dead : (ps : List Piece) (fields : List (List (List Piece))) (ts : List Token) (lead : Lead) → Leads ps ts lead → lead.is_dead ≡ true → false ≡ way_met ps fields ts
way_dead ps fields ts lead l e =
    sym (l (fields_row fields) (fields_family fields)
    ∙ if_dead lead.is_dead (head (pieces_row (drop lead.pieces ps) (drop lead.tokens ts) (fields_row fields (drop lead.tokens ts)))) e)

pub way_alive : (ps qs : List Piece) (fields : List (List (List Piece))) (ts us : List Token) (lead : Lead) (row behind : List Bool) (b : Bool) → Leads ps ts lead → lead.is_dead ≡ false
    → qs ≡ drop lead.pieces ps → us ≡ drop lead.tokens ts → behind ≡ fields_row fields us → row ≡ pieces_row qs us behind → b ≡ head row → b ≡ way_met ps fields ts
way_alive ps qs fields ts us lead row behind b l e q u k r h =
    h ∙ ap head r ∙ rw (k, q, u) refl
    ∙ sym (l (fields_row fields) (fields_family fields)
    ∙ if_alive lead.is_dead (head (pieces_row (drop lead.pieces ps) (drop lead.tokens ts) (fields_row fields (drop lead.tokens ts)))) e)

or_none : (b : Bool) → (if b then true else false) ≡ b
or_none true = refl
or_none false = refl

pub either_none : (ts : List Token) (left : List Bool) → head (either_row ts left (none_row ts)) ≡ head left
unfolding either_row none_row
either_none [] left = or_none (head left)
either_none (t ∷ ts) left = or_none (head left)

field_one : (ways : List (Bor (List Rust.Piece))) (e : Bor (List Rust.Piece)) (ts : List Token) (row : List Bool) → length ways ≡ 1
    → head (field_row (map (λ way. map piece_of way.now) ways) ts row) ≡ head (pieces_row (map piece_of (get_or ways 0 e).now) ts row)
unfolding field_row
field_one [] e ts row h = absurd (omega (arith, h))
field_one (w ∷ []) e ts row h = either_none ts (pieces_row (map piece_of w.now) ts row)
field_one (w ∷ v ∷ ways) e ts row h = absurd (omega (arith, h))

pub single_field : (fs rest : List (Bor (List (Bor (List Rust.Piece))))) (d : Bor (List (Bor (List Rust.Piece)))) (e : Bor (List Rust.Piece)) (ts : List Token) (met : Bool)
    → 0 < length fs → length (get_or fs 0 d).now ≡ 1 → rest ≡ drop 1 fs → met ≡ way_met (map piece_of (get_or (get_or fs 0 d).now 0 e).now) (fields_of rest) ts → met ≡ head (fields_row (fields_of fs) ts)
unfolding fields_row
single_field [] rest d e ts met h n r k = absurd (omega arith)
single_field (f ∷ more) rest d e ts met h n r k =
    k ∙ ap (λ (l : List (Bor (List (Bor (List Rust.Piece))))). way_met (map piece_of (get_or f.now 0 e).now) (fields_of l) ts) (r ∙ drop_none more)
    ∙ sym (field_one f.now e ts (fields_row (fields_of more) ts) n)
  where
    drop_none : (l : List (Bor (List (Bor (List Rust.Piece))))) → drop 0 l ≡ l
    drop_none [] = refl
    drop_none (x ∷ l) = refl

-- a form
pub form_no : (bytes : List ℕ) (fields : List (List (List Piece))) (ts : List Token) (told : Passed) → told ≡ passed_fixed bytes ts → told ≡ No → false ≡ head (fixed_row bytes ts (fields_row fields ts))
form_no bytes fields ts told e n = sym ((fixed_tells bytes ts (fields_row fields) (fields_family fields)).0 (sym e ∙ n))

pub form_yes : (bytes : List ℕ) (fields : List (List (List Piece))) (ts us : List Token) (told : Passed) (met : Bool) → told ≡ passed_fixed bytes ts → told ≡ Yes → us ≡ drop (length bytes) ts → met ≡ head (fields_row fields us) → met ≡ head (fixed_row bytes ts (fields_row fields ts))
form_yes bytes fields ts us told met e y u k =
    k ∙ ap (λ (vs : List Token). head (fields_row fields vs)) u ∙ sym ((fixed_tells bytes ts (fields_row fields) (fields_family fields)).1 (sym e ∙ y)).1
