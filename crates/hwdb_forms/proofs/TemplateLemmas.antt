-- Templates: a byte for each byte of a text.
use Rattle.std.proofs.Common.{◌≡◌, ℕ, ◌+◌, ◌<◌, ◌≤◌, ◌==◌, ◌++◌, Bool, true, false, List, [], ◌∷◌, refl, sym, ap, subst, ◌∙◌, arith, drop, eqb-true, get_or, length, map, nat_le, suc, zero, ◌||◌}
use Rattle.std.proofs.Math.Seq.{drop-cons}
use Rattle.std.proofs.lemmas.List.{drop_all}
use Rattle.std.proofs.lemmas.Bool.{le-leb}
use Rattle.std.specs.Prelude.{if◌then◌else◌}
use Rattle.hwdb_spec.specs.declared.ByteSet.{ByteSet}
use Rattle.hwdb_spec.specs.declared.ByteSet.TheVariants.{AnyHex, Only, UpperHex}
use Rattle.hwdb_spec.specs.Patterns.{Token, in_span, tokens}
use Rattle.hwdb_spec.specs.Forms.{Form, Piece, byte_row, counted, counted_row, end_row, field_row, fields_row, fixed, fixed_row, head, is_in, is_wild, many_row, pieces_row, repeated}
use Rattle.hwdb_forms.specs.declared.leads.Passed.TheVariants.{Yes}
use Rattle.hwdb_forms.specs.Internal.{AreFirstWays, GoesThroughField, GoesThroughWay, IsCut, LedTo, all_parts, copies, parts, passed_counted, set_of, unit_of, units}
use Rattle.hwdb_forms.proofs.LeadLemmas.{dropped, fields_family}
use Rattle.hwdb_forms.proofs.MeetLemmas.{or_second}
use Rattle.hwdb_forms.proofs.PlainLemmas.{FieldsTo, counted_goes, counted_step, field_first, led_on, led_to_first, led_whole, map_at, map_long, next_field}

-- ---- a byte of a template
by_number : (A : Type 0) (b n : ℕ) → ((b == n) ≡ true → A) → ((b == n) ≡ false → A) → A
by_number A b n f g = by (b == n) f g
  where
    by : (t : Bool) → (t ≡ true → A) → (t ≡ false → A) → A
    by true f g = f refl
    by false f g = g refl

-- a digit
pub low_digit : (b : ℕ) → 48 ≤ b → b ≤ 57 → is_in UpperHex b ≡ true
low_digit b h k = let low : nat_le 48 b ≡ true = le-leb 48 b h in let high : nat_le b 57 ≡ true = le-leb b 57 k in rw (low, high) refl

pub high_digit : (b : ℕ) → 65 ≤ b → b ≤ 70 → is_in UpperHex b ≡ true
high_digit b h k =
    let low : nat_le 65 b ≡ true = le-leb 65 b h in let high : nat_le b 70 ≡ true = le-leb b 70 k in
    or_second (in_span b (48, 57)) (in_span b (65, 70) || false) (rw (low, high) refl)

-- a digit is no wildcard
tame : (s o t : Bool) → s ≡ false → o ≡ false → t ≡ false → (if s then true else (if o then true else t)) ≡ false
tame false false false e f g = refl
tame true o t e f g = cc
tame false true t e f g = cc
tame false false true e f g = cc

not_in : (set : ByteSet) (b n : ℕ) → is_in set n ≡ false → is_in set b ≡ true → (b == n) ≡ false
not_in set b n out own = by_number ((b == n) ≡ false) b n
    (λ same. absurd (let x : true ≡ false = sym own ∙ ap (is_in set) (eqb-true b n same) ∙ out in cc))
    (λ other. other)

pub upper_tame : (b : ℕ) → is_in UpperHex b ≡ true → is_wild b ≡ false
upper_tame b own = tame (b == 42) (b == 63) (b == 91) (not_in UpperHex b 42 refl own) (not_in UpperHex b 63 refl own) (not_in UpperHex b 91 refl own)

pub any_tame : (b : ℕ) → is_in AnyHex b ≡ true → is_wild b ≡ false
any_tame b own = tame (b == 42) (b == 63) (b == 91) (not_in AnyHex b 42 refl own) (not_in AnyHex b 63 refl own) (not_in AnyHex b 91 refl own)

-- ---- a byte more
pub led_first : (template text : List ℕ) → LedTo (units template) (tokens text) 0 0
led_first template text = led_to_first (units template) (tokens text)

pub led_more : (template text : List ℕ) (at n : ℕ) → at < length template → at < length text → n ≡ suc at → is_in (set_of (get_or template at 0)) (get_or text at 0) ≡ true → is_wild (get_or text at 0) ≡ false
    → IsCut text at → LedTo (units template) (tokens text) at at → LedTo (units template) (tokens text) n n
led_more template text at n h k e own w cut led =
    let set : ByteSet = set_of (get_or template at 0) in
    let passed : passed_counted set 1 (tokens (drop at text)) ≡ Yes =
    ap (λ (l : List ℕ). passed_counted set 1 (tokens l)) (drop-cons text at 0 k) ∙ counted_step set (get_or text at 0) 0 (drop (suc at) text) own w in
    led_on (units template) (tokens text) (tokens (drop at text)) at n at n 1 (unit_of 0) (counted set 1)
    (omega (arith, h, map_long ℕ Piece unit_of template)) e cut (omega (arith, e)) (map_at ℕ Piece unit_of template at 0)
    (counted_goes set 1 (tokens (drop at text)) passed) led

pub led_all : (template : List ℕ) (ts : List Token) (taken : ℕ) → taken ≡ length template → LedTo (units template) ts taken taken → GoesThroughWay (units template) ts taken
led_all template ts taken e led = led_whole (units template) ts taken taken (omega (arith, e, map_long ℕ Piece unit_of template)) led

-- ---- pieces of one byte each
joined_row : (ps qs : List Piece) (ts : List Token) (row : List Bool) → pieces_row (ps ++ qs) ts row ≡ pieces_row ps ts (pieces_row qs ts row)
unfolding pieces_row
joined_row [] qs ts row = refl
joined_row (fixed bytes ∷ ps) qs ts row = ap (fixed_row bytes ts) (joined_row ps qs ts row)
joined_row (counted set n ∷ ps) qs ts row = ap (counted_row set n ts) (joined_row ps qs ts row)
joined_row (repeated set ∷ ps) qs ts row = ap (many_row set ts) (joined_row ps qs ts row)

fixed_parts : (bytes : List ℕ) (ts : List Token) (row : List Bool) → pieces_row (parts (fixed bytes)) ts row ≡ fixed_row bytes ts row
unfolding pieces_row fixed_row counted_row
fixed_parts [] ts row = refl
fixed_parts (own ∷ bytes) ts row = ap (byte_row (Only own) ts) (fixed_parts bytes ts row)

counted_parts : (set : ByteSet) (n : ℕ) (ts : List Token) (row : List Bool) → pieces_row (copies n (counted set 1)) ts row ≡ counted_row set n ts row
unfolding pieces_row counted_row
counted_parts set zero ts row = refl
counted_parts set (suc n) ts row = ap (byte_row set ts) (counted_parts set n ts row)

parts_row : (ps : List Piece) (ts : List Token) (row : List Bool) → pieces_row (all_parts ps) ts row ≡ pieces_row ps ts row
unfolding pieces_row
parts_row [] ts row = refl
parts_row (fixed bytes ∷ ps) ts row =
    joined_row (parts (fixed bytes)) (all_parts ps) ts row ∙ fixed_parts bytes ts (pieces_row (all_parts ps) ts row) ∙ ap (fixed_row bytes ts) (parts_row ps ts row)
parts_row (counted set n ∷ ps) ts row =
    joined_row (parts (counted set n)) (all_parts ps) ts row ∙ counted_parts set n ts (pieces_row (all_parts ps) ts row) ∙ ap (counted_row set n ts) (parts_row ps ts row)
parts_row (repeated set ∷ ps) ts row = ap (many_row set ts) (parts_row ps ts row)

-- ---- fields
pub first_long : (fields : List (List (List Piece))) (templates : List (List ℕ)) → AreFirstWays fields templates → length fields ≡ length templates
first_long [] [] first = refl
first_long [] (t ∷ templates) first = absurd first
first_long ([] ∷ fields) templates first = absurd first
first_long ((way ∷ ways) ∷ fields) [] first = absurd first
first_long ((way ∷ ways) ∷ fields) (t ∷ templates) first = ap suc (first_long fields templates first.1)

first_through : (fields : List (List (List Piece))) (templates : List (List ℕ)) (done : ℕ) (d : List ℕ) (ts : List Token) (n : ℕ) → AreFirstWays fields templates → done < length templates
    → GoesThroughWay (units (get_or templates done d)) ts n → GoesThroughField (get_or fields done []) ts n
unfolding field_row
first_through [] [] done d ts n first h through = absurd (omega arith)
first_through [] (t ∷ templates) done d ts n first h through = absurd first
first_through ([] ∷ fields) templates done d ts n first h through = absurd first
first_through ((way ∷ ways) ∷ fields) [] done d ts n first h through = absurd first
first_through ((way ∷ ways) ∷ fields) (t ∷ templates) zero d ts n first h through = λ rows f more.
    field_first ts (pieces_row way ts (rows ts)) (field_row ways ts (rows ts))
    (ap head (sym (parts_row way ts (rows ts))) ∙ ap (λ (ps : List Piece). head (pieces_row ps ts (rows ts))) (sym first.0) ∙ through rows f more)
first_through ((way ∷ ways) ∷ fields) (t ∷ templates) (suc done) d ts n first h through = first_through fields templates done d ts n first.1 (omega arith) through

pub ways_on : (A : Type 0) (f : A → List ℕ) (fields : List (List (List Piece))) (all : List A) (d : A) (ts us : List Token) (done next at to n : ℕ) → AreFirstWays fields (map f all) → done < length all → next ≡ suc done → us ≡ drop at ts → to ≡ at + n
    → GoesThroughWay (units (f (get_or all done d))) us n → FieldsTo fields ts done at → FieldsTo fields ts next to
ways_on A f fields all d ts us done next at to n first h e u t through before more =
    let inner : List Token → List Bool = fields_row (drop (suc done) fields) in
    let way : GoesThroughWay (units (get_or (map f all) done (f d))) (drop at ts) n =
    subst (λ (vs : List Token). GoesThroughWay (units (get_or (map f all) done (f d))) vs n) u
    (subst (λ (l : List ℕ). GoesThroughWay (units l) us n) (map_at A (List ℕ) f all done d) through) in
    let goes : GoesThroughField (get_or fields done []) (drop at ts) n = first_through fields (map f all) done (f d) (drop at ts) n first (omega (arith, h, map_long A (List ℕ) f all)) way in
    before
    (ap head (next_field fields done [] (get_or fields done []) (drop at ts) (omega (arith, h, map_long A (List ℕ) f all, first_long fields (map f all) first)) refl)
    ∙ goes inner (fields_family (drop (suc done) fields))
    (ap (λ (vs : List Token). head (inner vs)) (dropped ts at n to t) ∙ ap (λ (i : ℕ). head (fields_row (drop i fields) (drop to ts))) (sym e) ∙ more))

pub ways_done : (A : Type 0) (f : A → List ℕ) (fields : List (List (List Piece))) (all : List A) (ts us : List Token) (done at : ℕ) → AreFirstWays fields (map f all) → length all ≤ done → us ≡ drop at ts → head (end_row us) ≡ true
    → FieldsTo fields ts done at → head (fields_row fields ts) ≡ true
unfolding fields_row
ways_done A f fields all ts us done at first h u e before =
    before (subst (λ (fs : List (List (List Piece))). head (fields_row fs (drop at ts)) ≡ true) (sym (drop_all done fields (omega (arith, h, map_long A (List ℕ) f all, first_long fields (map f all) first))))
    (subst (λ (vs : List Token). head (end_row vs) ≡ true) u e))

pub first_ways_of : (form known : Form) (templates : List (List ℕ)) → form ≡ known → AreFirstWays known.fields templates → AreFirstWays form.fields templates
first_ways_of form known templates e first = subst (λ (f : Form). AreFirstWays f.fields templates) (sym e) first
