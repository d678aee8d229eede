-- Tokens that end in a star.
use Rattle.std.proofs.Common.{◌≡◌, ℕ, ◌+◌, ◌-◌, ◌<◌, ◌≤◌, Bool, true, false, List, [], ◌∷◌, refl, sym, ap, subst, ◌∙◌, Bor, length, drop, get_or, suc, zero, arith, map, Option, None, Some, IfSome}
use Rattle.std.specs.Prelude.{if◌then◌else◌, is_some}
use Rattle.std.proofs.lemmas.List.{drop_all, drop_more}
use Rattle.hwdb_spec.specs.declared.ByteSet.{ByteSet}
use Rattle.hwdb_spec.specs.declared.ByteSet.TheVariants.{Only}
use Rattle.hwdb_spec.specs.Patterns.{Token, bracket, literal, one, star, token_at}
use Rattle.hwdb_spec.specs.Forms.{Piece, fixed, counted, repeated, is_star, meets, head, tail, byte_row, many_cell, many_row, fixed_row, counted_row, piece_row, pieces_row, either_row, end_row, field_row, fields_row}
use Rattle.hwdb_forms.specs.declared.leads.Passed.TheVariants.{No, Yes}
use Rattle.hwdb_forms.specs.declared.leads.Lead.{Lead}
use Rattle.hwdb_forms.specs.declared.pieces.Piece as Rust
use Rattle.hwdb_forms.specs.Internal.{HaveWays, IsFamily, Leads, StarEnds, fields_of, passed_counted, piece_of, views, way_met}
use Rattle.hwdb_forms.proofs.LeadLemmas.{cases, counted_family, counted_tells, fields_family, if_alive, pieces_family, token_of}

pub if_either : (b x : Bool) → x ≡ true → (if b then true else x) ≡ true
if_either true x e = refl
if_either false x e = e

pub if_first : (b x : Bool) → b ≡ true → (if b then true else x) ≡ true
if_first true x e = refl
if_first false x e = cc

-- ---- a star alone matches what has a text
pub star_byte : (set : ByteSet) (row : List Bool) → head row ≡ true → head (byte_row set (star ∷ []) row) ≡ true
unfolding byte_row
star_byte set row h = h

pub star_many : (set : ByteSet) (row : List Bool) → head row ≡ true → head (many_row set (star ∷ []) row) ≡ true
unfolding many_row
star_many set row h = if_first (head row) (head (many_row set [] (tail row))) h

pub star_fixed : (bytes : List ℕ) (row : List Bool) → head row ≡ true → head (fixed_row bytes (star ∷ []) row) ≡ true
unfolding fixed_row
star_fixed [] row h = h
star_fixed (b ∷ bytes) row h = star_byte (Only b) (fixed_row bytes (star ∷ []) row) (star_fixed bytes row h)

pub star_counted : (set : ByteSet) (n : ℕ) (row : List Bool) → head row ≡ true → head (counted_row set n (star ∷ []) row) ≡ true
unfolding counted_row
star_counted set zero row h = h
star_counted set (suc n) row h = star_byte set (counted_row set n (star ∷ []) row) (star_counted set n row h)

star_piece : (p : Piece) (row : List Bool) → head row ≡ true → head (piece_row p (star ∷ []) row) ≡ true
star_piece (fixed bytes) row h = star_fixed bytes row h
star_piece (counted set n) row h = star_counted set n row h
star_piece (repeated set) row h = star_many set row h

pub star_pieces : (ps : List Piece) (row : List Bool) → head row ≡ true → head (pieces_row ps (star ∷ []) row) ≡ true
unfolding pieces_row
star_pieces [] row h = h
star_pieces (p ∷ ps) row h = star_piece p (pieces_row ps (star ∷ []) row) (star_pieces ps row h)

star_either : (left other : List Bool) → head left ≡ true → head (either_row (star ∷ []) left other) ≡ true
unfolding either_row
star_either left other h = if_first (head left) (head other) h

star_field : (way : List Piece) (more : List (List Piece)) (row : List Bool) → head row ≡ true → head (field_row (way ∷ more) (star ∷ []) row) ≡ true
unfolding field_row
star_field way more row h = star_either (pieces_row way (star ∷ []) row) (field_row more (star ∷ []) row) (star_pieces way row h)

pub star_fields : (fields : List (List (List Piece))) → HaveWays fields → head (fields_row fields (star ∷ [])) ≡ true
unfolding fields_row end_row
star_fields [] h = refl
star_fields ([] ∷ more) h = absurd h
star_fields ((way ∷ ways) ∷ more) h = star_field way ways (fields_row more (star ∷ [])) (star_fields more h)

-- ---- tokens before it
counted_split : (set : ByteSet) (m k n : ℕ) (ts : List Token) (row : List Bool) → n ≡ m + k → counted_row set n ts row ≡ counted_row set m ts (counted_row set k ts row)
unfolding counted_row
counted_split set zero k n ts row e = let same : n ≡ k = omega (arith, e) in ap (λ (i : ℕ). counted_row set i ts row) same
counted_split set (suc m) k zero ts row e = absurd (omega (arith, e))
counted_split set (suc m) k (suc n) ts row e = ap (byte_row set ts) (counted_split set m k n ts row (omega (arith, e)))

pub counted_ended : (set : ByteSet) (n m : ℕ) (ts : List Token) → m ≤ n → passed_counted set m ts ≡ Yes → drop m ts ≡ star ∷ [] → StarEnds (counted set n) ts
counted_ended set n m ts h e d = λ rows f t.
    let k : ℕ = n - m in
    let inner : List Token → List Bool = λ us. counted_row set k us (rows us) in
    let told : (m ≤ length ts) × (head (counted_row set m ts (inner ts)) ≡ head (inner (drop m ts))) =
    (counted_tells set m ts inner (counted_family set k rows f)).1 e in
    let split : n ≡ m + k = omega (arith, h) in
    ap head (counted_split set m k n ts (rows ts) split)
    ∙ told.1
    ∙ ap (λ (us : List Token). head (inner us)) d
    ∙ star_counted set k (rows (star ∷ [])) t

many_true : (s met here next : Bool) → s ≡ false → met ≡ true → next ≡ true → many_cell s met here next ≡ true
many_true false true here next a b e = if_either here next e
many_true true met here next a b e = cc
many_true false false here next a b e = cc

pub many_next : (set : ByteSet) (t : Token) (ts : List Token) (rows : List Token → List Bool) → IsFamily rows → is_star t ≡ false → meets t set ≡ true → head (many_row set ts (rows ts)) ≡ true → head (many_row set (t ∷ ts) (rows (t ∷ ts))) ≡ true
unfolding many_row
many_next set t ts rows f s m h =
    many_true (is_star t) (meets t set) (head (rows (t ∷ ts))) (head (many_row set ts (tail (rows (t ∷ ts))))) s m (ap (λ (r : List Bool). head (many_row set ts r)) (f t ts) ∙ h)
