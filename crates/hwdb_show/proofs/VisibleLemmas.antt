-- What is shown has kept characters alone, and a text that has no others is shown as it is.
use Rattle.std.proofs.Common.{◌≡◌, ◌≢◌, ◌∙◌, ◌<◌, ◌≤◌, ◌⊎◌, ◌+◌, ◌-◌, ◌/◌, ◌%◌, ◌&&◌, All, Bool, inl, inr, List, Option, [], ◌∷◌, ◌++◌, ap, ap₂, append_assoc, arith, drop, false, length, ltb-true, not, refl, subst, suc, sym, take, true, zero, ℕ}
use Rattle.std.specs.Prelude.{if◌then◌else◌, nat_le, nat_lt, slice_index}
use Rattle.std.specs.List.{list_all}
use lib.Utf8.{low_scalar, scalar, scalar_cases}
use Rattle.std.specs.Char.{encode_utf8}
use Rattle.std.specs.Str.{IsUtf8, all_scalars, chars, continuation_len, encode_utf8_all, is_utf8}
use Rattle.std.proofs.KnownBytes.{Appends-trans}
use Rattle.std.proofs.lemmas.List.{append-nil, drop-drop, drop_all, length-append, length-drop, take-append-le, take_all}
use Rattle.std.specs.Io.KnownBytes.{Appends}
use Rattle.hwdb_spec.specs.Outputs.{AppendsPrefix}
use Rattle.std.proofs.lemmas.List.Elements.{All-append, All-cons, All-nil}
use Rattle.std.proofs.lemmas.List.Folds.{list_all-append}
use Rattle.std.proofs.lemmas.Str.{IsUtf8-from_is_utf8, chars-append, chars_from_encodes, encodes-chars, is_utf8-from_IsUtf8, scalars-chars}
use Rattle.std.proofs.str.Laws.{IsUtf8-append, Shape, both, of1, of2, of3, of4, one, shape}
use Rattle.hex.specs.Hex.{IsBytes, encode_with, lower_digits}
use Rattle.std.proofs.lemmas.Bool.{cases_lt, leb-true}
use Rattle.hwdb_show.specs.Lemmas.Names.{implied, implies, refuted, upto_sound}
use Rattle.hwdb_spec.specs.Patterns.{in_span}
use Rattle.hwdb_spec_commands.specs.Json.{escaped_after}
use Rattle.hwdb_show.specs.Rows.{Rows}
use Rattle.hwdb_spec.specs.Lemmas.Orders.{not_utf8}
use Rattle.hwdb_spec.specs.Visible.{are_kept, first_bytes, hex_byte, is_kept, is_layout, shown_as, visible_after}

both_true : (a b : Bool) → a ≡ true → b ≡ true → (a && b) ≡ true
both_true true b e f = f
both_true false b e f = e

-- kept bytes, as facts
kept_is : (n : Bool) (bytes : List ℕ) → are_kept n bytes ≡ true → IsUtf8 bytes × (list_all (is_kept n) (chars bytes) ≡ true)
kept_is n bytes h = let p = both (is_utf8 bytes) (list_all (is_kept n) (chars bytes)) h in (IsUtf8-from_is_utf8 bytes p.0, p.1)

-- the bytes of characters that are kept
kept_from : (n : Bool) (cs : List ℕ) → all_scalars cs ≡ true → list_all (is_kept n) cs ≡ true → are_kept n (encode_utf8_all cs) ≡ true
kept_from n cs scalars kept =
    let utf8 : IsUtf8 (encode_utf8_all cs) = (cs, (scalars, refl)) in
    both_true _ _ (is_utf8-from_IsUtf8 (encode_utf8_all cs) utf8)
    (ap (list_all (is_kept n)) (sym (chars_from_encodes cs (encode_utf8_all cs) utf8 refl)) ∙ kept)

kept_append : (n : Bool) (a b : List ℕ) → are_kept n a ≡ true → are_kept n b ≡ true → are_kept n (a ++ b) ≡ true
kept_append n a b left right =
    let x = kept_is n a left in
    let y = kept_is n b right in
    both_true _ _ (is_utf8-from_IsUtf8 (a ++ b) (IsUtf8-append a b x.0 y.0))
    (ap (list_all (is_kept n)) (chars-append a b x.0) ∙ list_all-append (is_kept n) (chars a) (chars b) ∙ both_true _ _ x.1 y.1)

nothing_kept : (n : Bool) → are_kept n [] ≡ true
nothing_kept n = kept_from n [] refl refl

-- the test, by those of a text and of bytes that are none
pub kept_text : (n : Bool) (text bytes : List ℕ) → text ≡ bytes → IsUtf8 bytes → list_all (is_kept n) (chars text) ≡ are_kept n bytes
kept_text n text bytes is utf8 =
    ap (λ (t : List ℕ). list_all (is_kept n) (chars t)) is ∙ sym (ap (λ (b : Bool). b && list_all (is_kept n) (chars bytes)) (is_utf8-from_IsUtf8 bytes utf8))

pub none_kept : (n : Bool) (bytes : List ℕ) → (IsUtf8 bytes → ⊥) → false ≡ are_kept n bytes
none_kept n bytes none = sym (ap (λ (b : Bool). b && list_all (is_kept n) (chars bytes)) (not_utf8 bytes none))

-- ---- hexadecimal digits

-- what is kept of a name is kept of a text
kept_in_all : (n : Bool) (c : ℕ) → is_kept true c ≡ true → is_kept n c ≡ true
kept_in_all true c h = h
kept_in_all false c h = go (is_layout c)
  where
    go : (layout : Bool) → (if layout then true else is_kept true c) ≡ true
    go true = refl
    go false = h

-- a character of ASCII that is kept
abbrev is_plain : ℕ → Bool
is_plain c = nat_lt c 128 && is_kept true c

plain_at : (cs : List ℕ) (i : ℕ) → list_all is_plain cs ≡ true → i < length cs → is_plain (slice_index cs i) ≡ true
plain_at [] i h lt = absurd (omega (arith, lt))
plain_at (c ∷ cs) zero h lt = (both (is_plain c) (list_all is_plain cs) h).0
plain_at (c ∷ cs) (suc i) h lt = plain_at cs i (both (is_plain c) (list_all is_plain cs) h).1 (omega (arith, lt))

plain_small : (c : ℕ) → is_plain c ≡ true → c < 128
plain_small c h = ltb-true c 128 (both (nat_lt c 128) (is_kept true c) h).0

scalar_small : (c : ℕ) → c < 128 → all_scalars (c ∷ []) ≡ true
scalar_small c h = both_true _ _ (low_scalar c (omega (arith, h))) refl

plain_kept : (n : Bool) (cs : List ℕ) → list_all is_plain cs ≡ true → are_kept n cs ≡ true
plain_kept n [] h = nothing_kept n
plain_kept n (c ∷ cs) h =
    let here = (both (is_plain c) (list_all is_plain cs) h).0 in
    let small = plain_small c here in
    let first : are_kept n (encode_utf8_all (c ∷ [])) ≡ true =
    kept_from n (c ∷ []) (scalar_small c small) (both_true _ _ (kept_in_all n c (both (nat_lt c 128) (is_kept true c) here).1) refl) in
    let is : encode_utf8_all (c ∷ []) ≡ c ∷ [] = ap (λ (l : List ℕ). l ++ []) (one c small) in
    kept_append n (c ∷ []) cs (subst (λ l. are_kept n l ≡ true) is first) (plain_kept n cs (both (is_plain c) (list_all is_plain cs) h).1)

hex_kept : (n : Bool) (b : ℕ) → b < 256 → are_kept n (hex_byte b) ≡ true
unfolding encode_with
hex_kept n b h =
    let high = plain_at lower_digits (b / 16) refl (omega (arith, h)) in
    let low = plain_at lower_digits (b % 16) refl (omega (arith, h)) in
    plain_kept n (hex_byte b) (both_true _ _ high (both_true _ _ low refl))

-- ---- texts

passed : (n : Bool) (k : ℕ) (bytes : List ℕ) → visible_after n k bytes ≡ take k bytes ++ visible_after n 0 (drop k bytes)
unfolding visible_after
passed n zero bytes = refl
passed n (suc k) [] = refl
passed n (suc k) (b ∷ bs) = ap (λ (l : List ℕ). b ∷ l) (passed n k bs)

tail_bytes : (b : ℕ) (bs : List ℕ) → IsBytes (b ∷ bs) → IsBytes bs
tail_bytes b bs h = λ i. h (suc i)

pub kept_after : (n : Bool) (text : List ℕ) (k : ℕ) → IsBytes text → are_kept n (visible_after n 0 (drop k text)) ≡ true
unfolding visible_after
kept_after n [] zero h = nothing_kept n
kept_after n [] (suc k) h = nothing_kept n
kept_after n (b ∷ bs) (suc k) h = kept_after n bs k (tail_bytes b bs h)
kept_after n (b ∷ bs) zero h = go (are_kept n (first_bytes b bs)) refl (λ k. kept_after n bs k (tail_bytes b bs h))
  where
    go : (kept : Bool) → are_kept n (first_bytes b bs) ≡ kept → ((k : ℕ) → are_kept n (visible_after n 0 (drop k bs)) ≡ true)
        → are_kept n (shown_as kept b ++ visible_after n (if kept then continuation_len b else 0) bs) ≡ true
    go true e rest =
        subst (λ l. are_kept n (b ∷ l) ≡ true) (sym (passed n (continuation_len b) bs))
        (kept_append n (first_bytes b bs) (visible_after n 0 (drop (continuation_len b) bs)) e (rest (continuation_len b)))
    go false e rest = kept_append n (hex_byte b) (visible_after n 0 bs) (hex_kept n b (h 0)) (rest 0)

-- ---- a text that is kept

-- the first byte of a character, and those after it
record Led (c : ℕ) : Type 0 where
  pub first : ℕ
  pub rest : List ℕ
  pub is : encode_utf8 c ≡ first ∷ rest
  pub long : length rest ≡ continuation_len first

led : (c : ℕ) → Shape c → Led c
led c (of1 h e) = record { first = c; rest = []; is = e; long = grind (arith) }
led c (of2 a b l h f s e) = record { first = a; rest = b ∷ []; is = e; long = grind (arith) }
led c (of3 a b d l h f g s e) = record { first = a; rest = b ∷ d ∷ []; is = e; long = grind (arith) }
led c (of4 a b d x l h f g k s e) = record { first = a; rest = b ∷ d ∷ x ∷ []; is = e; long = grind (arith) }

over : (n : Bool) (front more : List ℕ) → visible_after n (length front) (front ++ more) ≡ front ++ visible_after n 0 more
unfolding visible_after
over n [] more = refl
over n (b ∷ bs) more = ap (λ (l : List ℕ). b ∷ l) (over n bs more)

taken : (front more : List ℕ) → take (length front) (front ++ more) ≡ front
taken [] more = refl
taken (b ∷ bs) more = ap (λ (l : List ℕ). b ∷ l) (taken bs more)

step_text : (n : Bool) (b : ℕ) (rest more : List ℕ) → length rest ≡ continuation_len b → are_kept n (b ∷ rest) ≡ true
    → visible_after n 0 (b ∷ (rest ++ more)) ≡ b ∷ (rest ++ visible_after n 0 more)
unfolding visible_after
step_text n b rest more long kept =
    let found : first_bytes b (rest ++ more) ≡ b ∷ rest = ap (λ (l : List ℕ). b ∷ l) (ap (λ i. take i (rest ++ more)) (sym long) ∙ taken rest more) in
    let test : are_kept n (first_bytes b (rest ++ more)) ≡ true = ap (are_kept n) found ∙ kept in
    ap (λ (t : Bool). shown_as t b ++ visible_after n (if t then continuation_len b else 0) (rest ++ more)) test
    ∙ ap (λ (l : List ℕ). b ∷ l) (ap (λ i. visible_after n i (rest ++ more)) (sym long) ∙ over n rest more)

pub same_from : (n : Bool) (cs : List ℕ) → all_scalars cs ≡ true → list_all (is_kept n) cs ≡ true
    → visible_after n 0 (encode_utf8_all cs) ≡ encode_utf8_all cs
unfolding visible_after
same_from n [] scalars kept = refl
same_from n (c ∷ cs) scalars kept =
    let s = both (scalar c) (all_scalars cs) scalars in
    let k = both (is_kept n c) (list_all (is_kept n) cs) kept in
    let l = led c (shape c (scalar_cases c s.0)) in
    let alone : are_kept n (encode_utf8 c ++ []) ≡ true = kept_from n (c ∷ []) (both_true _ _ s.0 refl) (both_true _ _ k.0 refl) in
    let one : are_kept n (l.first ∷ l.rest) ≡ true = ap (are_kept n) (sym (append-nil (encode_utf8 c) ∙ l.is)) ∙ alone in
    ap (λ (t : List ℕ). visible_after n 0 (t ++ encode_utf8_all cs)) l.is
    ∙ step_text n l.first l.rest (encode_utf8_all cs) l.long one
    ∙ ap (λ (m : List ℕ). l.first ∷ (l.rest ++ m)) (same_from n cs s.1 k.1)
    ∙ ap (λ (t : List ℕ). t ++ encode_utf8_all cs) (sym l.is)

pub same_shown : (n : Bool) (text : List ℕ) → are_kept n text ≡ true → visible_after n 0 text ≡ text
same_shown n text h =
    let k = kept_is n text h in
    ap (visible_after n 0) (sym (encodes-chars text k.0)) ∙ same_from n (chars text) (scalars-chars text k.0) k.1 ∙ encodes-chars text k.0

-- ---- no byte of an escape sequence

no_escape_in : (c : ℕ) → is_kept false c ≡ true → Shape c → All (λ b. b ≢ 27) (encode_utf8 c)
no_escape_in c kept (of1 h e) =
    subst (All (λ b. b ≢ 27)) (sym e) (All-cons (λ b. b ≢ 27) c [] (λ is. let no : false ≡ true = sym (ap (is_kept false) is) ∙ kept in cc) (All-nil (λ b. b ≢ 27)))
no_escape_in c kept (of2 a b l h f s e) =
    subst (All (λ b. b ≢ 27)) (sym e)
    (All-cons (λ b. b ≢ 27) a (b ∷ []) (λ is. omega (arith, is, l)) (All-cons (λ b. b ≢ 27) b [] (λ is. omega (arith, is, f.0)) (All-nil (λ b. b ≢ 27))))
no_escape_in c kept (of3 a b d l h f g s e) =
    subst (All (λ b. b ≢ 27)) (sym e)
    (All-cons (λ b. b ≢ 27) a (b ∷ d ∷ []) (λ is. omega (arith, is, l)) (All-cons (λ b. b ≢ 27) b (d ∷ []) (λ is. omega (arith, is, f.0))
    (All-cons (λ b. b ≢ 27) d [] (λ is. omega (arith, is, g.0)) (All-nil (λ b. b ≢ 27)))))
no_escape_in c kept (of4 a b d x l h f g k s e) =
    subst (All (λ b. b ≢ 27)) (sym e)
    (All-cons (λ b. b ≢ 27) a (b ∷ d ∷ x ∷ []) (λ is. omega (arith, is, l)) (All-cons (λ b. b ≢ 27) b (d ∷ x ∷ []) (λ is. omega (arith, is, f.0))
    (All-cons (λ b. b ≢ 27) d (x ∷ []) (λ is. omega (arith, is, g.0)) (All-cons (λ b. b ≢ 27) x [] (λ is. omega (arith, is, k.0)) (All-nil (λ b. b ≢ 27))))))

no_escape_from : (cs : List ℕ) → all_scalars cs ≡ true → list_all (is_kept false) cs ≡ true → All (λ b. b ≢ 27) (encode_utf8_all cs)
no_escape_from [] scalars kept = All-nil (λ b. b ≢ 27)
no_escape_from (c ∷ cs) scalars kept =
    let s = both (scalar c) (all_scalars cs) scalars in
    let k = both (is_kept false c) (list_all (is_kept false) cs) kept in
    All-append (λ b. b ≢ 27) (encode_utf8 c) (encode_utf8_all cs) (no_escape_in c k.0 (shape c (scalar_cases c s.0))) (no_escape_from cs s.1 k.1)

pub no_escape : (text : List ℕ) → are_kept false text ≡ true → All (λ b. b ≢ 27) text
no_escape text h =
    let k = kept_is false text h in
    subst (All (λ b. b ≢ 27)) (encodes-chars text k.0) (no_escape_from (chars text) (scalars-chars text k.0) k.1)

-- ---- the byte at a place

first_at : (text : List ℕ) (i : ℕ) → i < length text → slice_index (drop i text) 0 ≡ slice_index text i
first_at [] i lt = absurd (omega (arith, lt))
first_at (b ∷ bs) zero lt = refl
first_at (b ∷ bs) (suc i) lt = first_at bs i (omega (arith, lt))

-- ---- one step

-- what is so of the first byte from a place on is so of the byte there
at_place : (n : Bool) (text : List ℕ) (i left more : ℕ) (kept : Bool) → i < length text
    → visible_after n left (drop i text) ≡ shown_as kept (slice_index (drop i text) 0) ++ visible_after n more (drop 1 (drop i text))
    → visible_after n left (drop i text) ≡ shown_as kept (slice_index text i) ++ visible_after n more (drop (i + 1) text)
at_place n text i left more kept lt one =
    one ∙ ap₂ (λ (x : ℕ) (l : List ℕ). shown_as kept x ++ visible_after n more l) (first_at text i lt) (drop-drop 1 i text)

some_left : (text : List ℕ) (i : ℕ) → i < length text → 0 < length (drop i text)
some_left text i lt = omega (arith, lt, length-drop i text)

inside_first : (n : Bool) (left : ℕ) (rest : List ℕ) → 0 < length rest → 0 < left
    → visible_after n left rest ≡ shown_as true (slice_index rest 0) ++ visible_after n (left - 1) (drop 1 rest)
unfolding visible_after
inside_first n left [] some inside = absurd (omega (arith, some))
inside_first n zero (b ∷ bs) some inside = absurd (omega (arith, inside))
inside_first n (suc left) (b ∷ bs) some inside = let same : left ≡ suc left - 1 = omega arith in ap (λ (k : ℕ). b ∷ visible_after n k bs) same

tested_first : (n : Bool) (rest : List ℕ) (more : ℕ) (kept : Bool) → 0 < length rest → more ≡ continuation_len (slice_index rest 0)
    → kept ≡ are_kept n (take (1 + more) rest)
    → visible_after n 0 rest ≡ shown_as kept (slice_index rest 0) ++ visible_after n (if kept then more else 0) (drop 1 rest)
unfolding visible_after
tested_first n [] more kept some long test = absurd (omega (arith, some))
tested_first n (b ∷ bs) more kept some long test =
    let next : 1 + more ≡ suc more = omega arith in
    let whole : take (1 + more) (b ∷ bs) ≡ first_bytes b bs = ap (λ (k : ℕ). take k (b ∷ bs)) next ∙ ap (λ (k : ℕ). b ∷ take k bs) long in
    let same : are_kept n (first_bytes b bs) ≡ kept = ap (are_kept n) (sym whole) ∙ sym test in
    ap (λ (t : Bool). shown_as t b ++ visible_after n (if t then continuation_len b else 0) bs) same
    ∙ ap (λ (k : ℕ). shown_as kept b ++ visible_after n (if kept then k else 0) bs) (sym long)

pub step_inside : (n : Bool) (text : List ℕ) (i left : ℕ) → i < length text → 0 < left
    → visible_after n left (drop i text) ≡ shown_as true (slice_index text i) ++ visible_after n (left - 1) (drop (i + 1) text)
step_inside n text i left lt inside = at_place n text i left (left - 1) true lt (inside_first n left (drop i text) (some_left text i lt) inside)

step_tested : (n : Bool) (text : List ℕ) (i left more : ℕ) (kept : Bool) → i < length text → left ≤ 0 → more ≡ continuation_len (slice_index text i)
    → kept ≡ are_kept n (take (1 + more) (drop i text))
    → visible_after n left (drop i text) ≡ shown_as kept (slice_index text i) ++ visible_after n (if kept then more else 0) (drop (i + 1) text)
step_tested n text i left more kept lt none long test =
    let zero_is : left ≡ 0 = omega (arith, none) in
    ap (λ (k : ℕ). visible_after n k (drop i text)) zero_is
    ∙ at_place n text i 0 (if kept then more else 0) kept lt
    (tested_first n (drop i text) more kept (some_left text i lt) (long ∙ ap continuation_len (sym (first_at text i lt))) test)

pub step_kept : (n : Bool) (text : List ℕ) (i left more : ℕ) → i < length text → left ≤ 0 → more ≡ continuation_len (slice_index text i)
    → are_kept n (take (1 + more) (drop i text)) ≡ true
    → visible_after n left (drop i text) ≡ shown_as true (slice_index text i) ++ visible_after n more (drop (i + 1) text)
step_kept n text i left more lt none long test = step_tested n text i left more true lt none long (sym test)

pub step_hex : (n : Bool) (text : List ℕ) (i left more : ℕ) → i < length text → left ≤ 0 → more ≡ continuation_len (slice_index text i)
    → are_kept n (take (1 + more) (drop i text)) ≡ false
    → visible_after n left (drop i text) ≡ shown_as false (slice_index text i) ++ visible_after n 0 (drop (i + 1) text)
step_hex n text i left more lt none long test = step_tested n text i left more false lt none long (sym test)

-- a slice up to the end
pub slice_is : (text : List ℕ) (i : ℕ) → take (length text - i) (drop i text) ≡ drop i text
slice_is text i = take_all (length text - i) (drop i text) (omega (arith, length-drop i text))

-- at the end nothing is left
pub all_shown : (n : Bool) (text shown whole : List ℕ) (i left : ℕ) → length text ≤ i → shown ++ visible_after n left (drop i text) ≡ whole → shown ≡ whole
unfolding visible_after
all_shown n text shown whole i left end is =
    sym (append-nil shown) ∙ ap (λ (l : List ℕ). shown ++ visible_after n left l) (sym (drop_all i text end)) ∙ is

-- ---- a text that is written in pieces

take_past : (xs ys : List ℕ) (m n : ℕ) → m ≡ length xs + n → take m (xs ++ ys) ≡ xs ++ take n ys
take_past [] ys m n is = let same : m ≡ n = omega (arith, is) in ap (λ (k : ℕ). take k ys) same
take_past (x ∷ xs) ys zero n is = absurd (omega (arith, is))
take_past (x ∷ xs) ys (suc m) n is = ap (λ (l : List ℕ). x ∷ l) (take_past xs ys m n (omega (arith, is)))

-- a call failed in the midst of a piece
pub cut_within : (whole front piece behind : List ℕ) (a b c : Option (List ℕ)) → (front ++ piece) ++ behind ≡ whole → Appends a b front → AppendsPrefix b c piece → AppendsPrefix a c whole
cut_within whole front piece behind a b c is p q =
    let size = length-append front piece in
    let all = sym (ap length is) ∙ length-append (front ++ piece) behind in
    let n = length front + q.0 in
    let same : take n whole ≡ front ++ take q.0 piece =
    ap (λ (l : List ℕ). take n l) (sym is)
    ∙ take-append-le n (front ++ piece) behind (omega (arith, q.1, size))
    ∙ take_past front piece n q.0 refl in
    let P : List ℕ → Type 0 = λ l. Appends a c l in
    (n, omega (arith, q.1, size, all), subst P (sym same) (Appends-trans a b c _ _ p q.2))

-- one piece more
pub piece_more : (whole done piece before after : List ℕ) → done ++ before ≡ whole → before ≡ piece ++ after → (done ++ piece) ++ after ≡ whole
piece_more whole done piece before after so_far one = append_assoc done piece after ∙ ap (λ (l : List ℕ). done ++ l) (sym one) ∙ so_far

-- ---- rows

pub rows_are : Rows
unfolding visible_after is_utf8 chars encode_utf8 encode_with escaped_after
rows_are = record { below = refl; csi = refl; letters = refl; cut = refl; name = refl; json = refl }

-- ---- names that ASCII prints

small_span : (b : ℕ) → in_span b (32, 126) ≡ true → b < 127
small_span b h = go (nat_le 32 b) h
  where
    go : (above : Bool) → (if above then nat_le b 126 else false) ≡ true → b < 127
    go true e = omega (arith, leb-true b 126 e)
    go false e = let no : false ≡ true = e in cc

printed_plain : (b : ℕ) → in_span b (32, 126) ≡ true → is_plain b ≡ true
printed_plain b h =
    implied (in_span b (32, 126)) (is_plain b) (upto_sound (λ (y : ℕ). implies (in_span y (32, 126)) (is_plain y)) 127 refl b (small_span b h)) h

plain_of : (text : List ℕ) → list_all (λ b. in_span b (32, 126)) text ≡ true → list_all is_plain text ≡ true
plain_of [] h = refl
plain_of (b ∷ bs) h = let p = both (in_span b (32, 126)) (list_all (λ b. in_span b (32, 126)) bs) h in both_true _ _ (printed_plain b p.0) (plain_of bs p.1)

-- a name that ASCII prints is shown as it is
pub printed_name : (name : List ℕ) → list_all (λ b. in_span b (32, 126)) name ≡ true → visible_after true 0 name ≡ name
printed_name name h = same_shown true name (plain_kept true name (plain_of name h))

-- ---- no byte of a name below 32

abbrev above : ℕ → Type 0
above b = 32 ≤ b

kept_above : (c : ℕ) → is_kept true c ≡ true → 32 ≤ c
kept_above c kept = go (cases_lt c 32)
  where
    go : (c < 32) ⊎ (32 ≤ c) → 32 ≤ c
    go (inr le) = le
    go (inl lt) = let no : false ≡ true = sym (refuted _ (upto_sound (λ (y : ℕ). not (is_kept true y)) 32 refl c lt)) ∙ kept in cc

above_in : (c : ℕ) → is_kept true c ≡ true → Shape c → All above (encode_utf8 c)
above_in c kept (of1 h e) = subst (All above) (sym e) (All-cons above c [] (kept_above c kept) (All-nil above))
above_in c kept (of2 a b l h f s e) =
    subst (All above) (sym e) (All-cons above a (b ∷ []) (omega (arith, l)) (All-cons above b [] (omega (arith, f.0)) (All-nil above)))
above_in c kept (of3 a b d l h f g s e) =
    subst (All above) (sym e)
    (All-cons above a (b ∷ d ∷ []) (omega (arith, l)) (All-cons above b (d ∷ []) (omega (arith, f.0)) (All-cons above d [] (omega (arith, g.0)) (All-nil above))))
above_in c kept (of4 a b d x l h f g k s e) =
    subst (All above) (sym e)
    (All-cons above a (b ∷ d ∷ x ∷ []) (omega (arith, l)) (All-cons above b (d ∷ x ∷ []) (omega (arith, f.0))
    (All-cons above d (x ∷ []) (omega (arith, g.0)) (All-cons above x [] (omega (arith, k.0)) (All-nil above)))))

above_from : (cs : List ℕ) → all_scalars cs ≡ true → list_all (is_kept true) cs ≡ true → All above (encode_utf8_all cs)
above_from [] scalars kept = All-nil above
above_from (c ∷ cs) scalars kept =
    let s = both (scalar c) (all_scalars cs) scalars in
    let k = both (is_kept true c) (list_all (is_kept true) cs) kept in
    All-append above (encode_utf8 c) (encode_utf8_all cs) (above_in c k.0 (shape c (scalar_cases c s.0))) (above_from cs s.1 k.1)

pub name_above : (name : List ℕ) → IsBytes name → All (λ b. 32 ≤ b) (visible_after true 0 name)
name_above name bytes =
    let shown = visible_after true 0 name in
    let k = kept_is true shown (kept_after true name 0 bytes) in
    subst (All above) (encodes-chars shown k.0) (above_from (chars shown) (scalars-chars shown k.0) k.1)
