-- What is read of JSON's text with DEL and U+0080 to U+009F escaped is what is read of the text.
use Rattle.std.proofs.Common.{◌≡◌, ◌∙◌, ◌<◌, ◌≤◌, ◌+◌, ◌-◌, ◌⊎◌, ℕ, zero, suc, Bool, true, false, not, ◌&&◌, ◌||◌, ◌==◌, ap, ap₂, arith, append_assoc, cond, drop, inl, inr, List, [], ◌∷◌, ◌++◌, Option, None, Some, option_and_then, refl, subst, sym}
use Rattle.std.specs.Prelude.{get_or, if◌then◌else◌, nat_le}
use Rattle.std.specs.List.{list_all, prefix_len}
use Rattle.std.specs.Char.{is_ascii_digit}
use Rattle.std.proofs.lemmas.Bool.{and_parts, cases_Bool, cases_eq, cases_lt, eqb-true, leb-true, ne_eqb, le-ltb, or_cases}
use lib.Utf8.{encode}
use Rattle.hex.specs.Hex.{encode_with}
use Rattle.json.specs.Json.{Json, document, if_last, max_depth, value}
use Rattle.json.specs.Lex.{Lexeme, Mode, between, colon, comma, in_string, lex, lex_byte, operator, other, punctuate, fresh, space, string_token, token, tokens}
use Rattle.json.specs.Print.{ArePrintable, IsNumber, IsPrintable, begins, ends, escape, escape_byte, print, print_from, quoted, token_text}
use Rattle.json.specs.Text.{code_unit, content, plain, prepend, short_escape}
use Rattle.json.specs.Token.{Token, bad, begin_array, begin_object, boolean, end_array, end_object, key, null, number, string}
use Rattle.json.specs.Tree.{HasNumbers, depth, json_tokens}
use Rattle.json.specs.Word.{after_digits, after_exponent, after_fraction, after_minus, after_number, after_sign, after_whole, ends_word, head, is_operator, is_space, word}
use Rattle.hwdb_show.specs.Lemmas.Names.{implied, implies, refuted, upto_sound}
use Rattle.json.proofs.Printed.Numbers.{in_word-ended, lex-number}
use Rattle.json.proofs.Printed.Strings.{content-escape, escape_byte_plain, lex-escape}
use Rattle.json.proofs.Printed.Trees.{ArePrintable-json_tokens, document-print}
use Rattle.hwdb_spec_commands.specs.Json.{escaped, escaped_after, escaped_byte, escaped_code}
use Rattle.hwdb_spec.specs.Patterns.{in_span}

-- ---- bytes that stay

-- a byte that is neither DEL nor the first one of U+0080 to U+009F
abbrev stays : ℕ → Bool
stays b = not (b == 0x7f) && not (b == 0xc2)

is_false : (b : Bool) → not b ≡ true → b ≡ false
is_false true h = sym h
is_false false h = refl

one_stays : (b : ℕ) (l : List ℕ) → stays b ≡ true → escaped (b ∷ l) ≡ b ∷ escaped l
unfolding escaped_after
one_stays b l h =
    let tests = and_parts (not (b == 0x7f)) (not (b == 0xc2)) h in
    let near : Bool → Bool = λ (t : Bool). t && in_span (get_or l 0 0) (0x80, 0x9f) in
    ap (λ (t : Bool). escaped_byte (near t) b ++ escaped_after (near t) l) (is_false _ tests.1)
    ∙ ap (λ (t : Bool). (if t then escaped_code b else b ∷ []) ++ escaped_after false l) (is_false _ tests.0)

all_stay : (xs l : List ℕ) → list_all stays xs ≡ true → escaped (xs ++ l) ≡ xs ++ escaped l
all_stay [] l h = refl
all_stay (x ∷ xs) l h =
    let p = and_parts (stays x) (list_all stays xs) h in
    one_stays x (xs ++ l) p.0 ∙ ap (λ (k : List ℕ). x ∷ k) (all_stay xs l p.1)

-- ---- the bytes of a number stay

abbrev Then : Option (List ℕ) → Type 0
Then None = ⊥
Then (Some rest) = list_all stays rest ≡ true

by_test : (b : Bool) (x y : Option (List ℕ)) (P : Type 0) → (b ≡ true → Then x → P) → (Then y → P) → Then (cond b x y) → P
by_test true x y P f g h = f refl h
by_test false x y P f g h = g h

both_stay : (a b : Bool) → a ≡ true → b ≡ true → (a && b) ≡ true
both_stay true b e f = f
both_stay false b e f = e

first_stays : (c : ℕ) (t : List ℕ) → stays c ≡ true → (head t == c) ≡ true → list_all stays (drop 1 t) ≡ true → list_all stays t ≡ true
first_stays c [] passes e h = refl
first_stays c (x ∷ xs) passes e h = both_stay (stays x) (list_all stays xs) (ap stays (eqb-true x c e) ∙ passes) h

digit_stays : (x : ℕ) → is_ascii_digit x ≡ true → stays x ≡ true
digit_stays x h =
    let small : x < 58 = omega (arith, leb-true x 57 (and_parts _ _ h).1) in
    implied (is_ascii_digit x) (stays x) (upto_sound (λ y. implies (is_ascii_digit y) (stays y)) 58 refl x small) h

digits_at : (d : Bool) (x : ℕ) (xs : List ℕ) (n : ℕ) → (d ≡ true → stays x ≡ true) → (list_all stays (drop n xs) ≡ true → list_all stays xs ≡ true)
    → list_all stays (drop (cond d (1 + n) 0) (x ∷ xs)) ≡ true → list_all stays (x ∷ xs) ≡ true
digits_at false x xs n passes ih h = h
digits_at true x xs n passes ih h =
    let e : 1 + n ≡ suc n = omega arith in
    both_stay (stays x) (list_all stays xs) (passes refl) (ih (ap (λ k. list_all stays (drop k (x ∷ xs))) (sym e) ∙ h))

digits_stay : (t : List ℕ) → list_all stays (drop (prefix_len is_ascii_digit t) t) ≡ true → list_all stays t ≡ true
digits_stay [] h = refl
digits_stay (x ∷ xs) h = digits_at (is_ascii_digit x) x xs (prefix_len is_ascii_digit xs) (digit_stays x) (digits_stay xs) h

after_digits_stay : (t : List ℕ) → Then (after_digits t) → list_all stays t ≡ true
after_digits_stay t = by_test (prefix_len is_ascii_digit t == 0) None _ _ (λ e h. absurd h) (digits_stay t)

either : (a b : ℕ) (t : List ℕ) → stays a ≡ true → stays b ≡ true → ((head t == a) ≡ true) ⊎ ((head t == b) ≡ true)
    → list_all stays (drop 1 t) ≡ true → list_all stays t ≡ true
either a b t p q (inl e) = first_stays a t p e
either a b t p q (inr e) = first_stays b t q e

skipped : (b : Bool) (t : List ℕ) → (b ≡ true → list_all stays (drop 1 t) ≡ true → list_all stays t ≡ true) → list_all stays (cond b (drop 1 t) t) ≡ true
    → list_all stays t ≡ true
skipped true t f h = f refl h
skipped false t f h = h

exponent_stays : (t : List ℕ) → Then (after_exponent t) → list_all stays t ≡ true
exponent_stays t =
    let u = drop 1 t in
    by_test ((head t == 101) || (head t == 69)) _ (Some t) _
    (λ e h. either 101 69 t refl refl (or_cases _ _ e) (skipped _ u (λ s. either 45 43 u refl refl (or_cases _ _ s)) (after_digits_stay (after_sign u) h))) (λ h. h)

fraction_stays : (t : List ℕ) → Then (after_fraction t) → list_all stays t ≡ true
fraction_stays t = by_test (head t == 46) _ (Some t) _ (λ e h. first_stays 46 t refl e (after_digits_stay (drop 1 t) h)) (λ h. h)

whole_stays : (t : List ℕ) → Then (after_whole t) → list_all stays t ≡ true
whole_stays t = by_test (head t == 48) (Some (drop 1 t)) _ _ (λ e h. first_stays 48 t refl e h) (after_digits_stay t)

back : (f : List ℕ → Option (List ℕ)) → ((t : List ℕ) → Then (f t) → list_all stays t ≡ true) → (o : Option (List ℕ)) → Then (option_and_then f o) → Then o
back f p None h = h
back f p (Some t) h = p t h

number_stays : (t : List ℕ) → IsNumber t → list_all stays t ≡ true
unfolding after_number
number_stays t h =
    skipped (head t == 45) t (first_stays 45 t refl)
    (whole_stays (after_minus t) (back after_fraction fraction_stays _ (back after_exponent exponent_stays _ (subst Then (sym h) refl))))

-- ---- what is read in a string

-- a piece of a string's text means bytes
record Reads (bytes text : List ℕ) : Type 0 where
  read : (r : List ℕ) → content plain (text ++ r) ≡ prepend bytes (content plain r)
  lexed : (r : List ℕ) → lex in_string (text ++ r) ≡ lex in_string r

-- P holds below n
abbrev Each : (ℕ → Type 0) → ℕ → Type 0
Each P zero = Unit {0}
Each P (suc n) = P n × Each P n

each_sound : (P : ℕ → Type 0) (n : ℕ) → Each P n → (x : ℕ) → x < n → P x
each_sound P zero h x lt = absurd (omega arith)
each_sound P (suc n) h x lt = go (each_sound P n h.1 x) (cases_eq x n)
  where
    go : (x < n → P x) → (x ≡ n) ⊎ (x ≡ n → ⊥) → P x
    go below (inl e) = subst P (sym e) h.0
    go below (inr ne) = below (omega arith)

controls_read : Each (λ x. Reads (x ∷ []) (escape_byte x)) 32
unfolding escape_byte content lex code_unit short_escape encode
controls_read = (record { read = λ r. refl; lexed = λ r. refl }, (record { read = λ r. refl; lexed = λ r. refl }, (record { read = λ r. refl; lexed = λ r. refl }, (record { read = λ r. refl; lexed = λ r. refl }, (record { read = λ r. refl; lexed = λ r. refl }, (record { read = λ r. refl; lexed = λ r. refl }, (record { read = λ r. refl; lexed = λ r. refl }, (record { read = λ r. refl; lexed = λ r. refl }, (record { read = λ r. refl; lexed = λ r. refl }, (record { read = λ r. refl; lexed = λ r. refl }, (record { read = λ r. refl; lexed = λ r. refl }, (record { read = λ r. refl; lexed = λ r. refl }, (record { read = λ r. refl; lexed = λ r. refl }, (record { read = λ r. refl; lexed = λ r. refl }, (record { read = λ r. refl; lexed = λ r. refl }, (record { read = λ r. refl; lexed = λ r. refl }, (record { read = λ r. refl; lexed = λ r. refl }, (record { read = λ r. refl; lexed = λ r. refl }, (record { read = λ r. refl; lexed = λ r. refl }, (record { read = λ r. refl; lexed = λ r. refl }, (record { read = λ r. refl; lexed = λ r. refl }, (record { read = λ r. refl; lexed = λ r. refl }, (record { read = λ r. refl; lexed = λ r. refl }, (record { read = λ r. refl; lexed = λ r. refl }, (record { read = λ r. refl; lexed = λ r. refl }, (record { read = λ r. refl; lexed = λ r. refl }, (record { read = λ r. refl; lexed = λ r. refl }, (record { read = λ r. refl; lexed = λ r. refl }, (record { read = λ r. refl; lexed = λ r. refl }, (record { read = λ r. refl; lexed = λ r. refl }, (record { read = λ r. refl; lexed = λ r. refl }, (record { read = λ r. refl; lexed = λ r. refl }, tt))))))))))))))))))))))))))))))))

quote_reads : Reads (34 ∷ []) (escape_byte 34)
unfolding escape_byte content lex short_escape
quote_reads = record { read = λ r. refl; lexed = λ r. refl }

backslash_reads : Reads (92 ∷ []) (escape_byte 92)
unfolding escape_byte content lex short_escape
backslash_reads = record { read = λ r. refl; lexed = λ r. refl }

stays_inside : (o s : Bool) (x : ℕ) (r : List ℕ) (k : Mode → List Lexeme) → lex_byte in_string (cond o operator (cond s space other)) x r k ≡ k in_string
stays_inside true s x r k = refl
stays_inside false true x r k = refl
stays_inside false false x r k = refl

plain_reads : (x : ℕ) → (x ≡ 34 → ⊥) → (x ≡ 92 → ⊥) → 32 ≤ x → Reads (x ∷ []) (x ∷ [])
unfolding content lex
plain_reads x q b l = record {
  read = λ r. rw (ne_eqb x 34 q, ne_eqb x 92 b, le-ltb x 32 l);
  lexed = λ r. rw (ne_eqb x 34 q, ne_eqb x 92 b) (stays_inside (is_operator x) (is_space x) x r (λ m. lex m r));
}

byte_reads : (x : ℕ) → Reads (x ∷ []) (escape_byte x)
byte_reads x = go (cases_eq x 34) (cases_eq x 92) (cases_lt x 32)
  where
    go : (x ≡ 34) ⊎ (x ≡ 34 → ⊥) → (x ≡ 92) ⊎ (x ≡ 92 → ⊥) → (x < 32) ⊎ (32 ≤ x) → Reads (x ∷ []) (escape_byte x)
    go (inl e) b c = subst (λ y. Reads (y ∷ []) (escape_byte y)) (sym e) quote_reads
    go (inr q) (inl e) c = subst (λ y. Reads (y ∷ []) (escape_byte y)) (sym e) backslash_reads
    go (inr q) (inr b) (inl c) = each_sound (λ y. Reads (y ∷ []) (escape_byte y)) 32 controls_read x c
    go (inr q) (inr b) (inr l) = subst (λ t. Reads (x ∷ []) t) (sym (escape_byte_plain x q b l)) (plain_reads x q b l)

-- the escapes of DEL, and of the characters from U+0080 on
delete_reads : Reads (127 ∷ []) (escaped_code 127)
unfolding content lex code_unit short_escape encode encode_with
delete_reads = record { read = λ r. refl; lexed = λ r. refl }

codes_read : Each (λ k. Reads (194 ∷ (128 + k) ∷ []) (escaped_code (128 + k))) 32
unfolding content lex code_unit short_escape encode encode_with
codes_read = (record { read = λ r. refl; lexed = λ r. refl }, (record { read = λ r. refl; lexed = λ r. refl }, (record { read = λ r. refl; lexed = λ r. refl }, (record { read = λ r. refl; lexed = λ r. refl }, (record { read = λ r. refl; lexed = λ r. refl }, (record { read = λ r. refl; lexed = λ r. refl }, (record { read = λ r. refl; lexed = λ r. refl }, (record { read = λ r. refl; lexed = λ r. refl }, (record { read = λ r. refl; lexed = λ r. refl }, (record { read = λ r. refl; lexed = λ r. refl }, (record { read = λ r. refl; lexed = λ r. refl }, (record { read = λ r. refl; lexed = λ r. refl }, (record { read = λ r. refl; lexed = λ r. refl }, (record { read = λ r. refl; lexed = λ r. refl }, (record { read = λ r. refl; lexed = λ r. refl }, (record { read = λ r. refl; lexed = λ r. refl }, (record { read = λ r. refl; lexed = λ r. refl }, (record { read = λ r. refl; lexed = λ r. refl }, (record { read = λ r. refl; lexed = λ r. refl }, (record { read = λ r. refl; lexed = λ r. refl }, (record { read = λ r. refl; lexed = λ r. refl }, (record { read = λ r. refl; lexed = λ r. refl }, (record { read = λ r. refl; lexed = λ r. refl }, (record { read = λ r. refl; lexed = λ r. refl }, (record { read = λ r. refl; lexed = λ r. refl }, (record { read = λ r. refl; lexed = λ r. refl }, (record { read = λ r. refl; lexed = λ r. refl }, (record { read = λ r. refl; lexed = λ r. refl }, (record { read = λ r. refl; lexed = λ r. refl }, (record { read = λ r. refl; lexed = λ r. refl }, (record { read = λ r. refl; lexed = λ r. refl }, (record { read = λ r. refl; lexed = λ r. refl }, tt))))))))))))))))))))))))))))))))

code_reads : (y : ℕ) → in_span y (0x80, 0x9f) ≡ true → Reads (194 ∷ y ∷ []) (escaped_code y)
code_reads y h = subst (λ n. Reads (194 ∷ n ∷ []) (escaped_code n)) same (each_sound (λ k. Reads (194 ∷ (128 + k) ∷ []) (escaped_code (128 + k))) 32 codes_read (y - 128) small)
  where
    above : (t : Bool) → nat_le 128 y ≡ t → (if t then nat_le y 159 else false) ≡ true → (128 ≤ y) × (y ≤ 159)
    above true e g = (leb-true 128 y e, leb-true y 159 g)
    above false e g = let no : false ≡ true = g in cc

    within : (128 ≤ y) × (y ≤ 159)
    within = above (nat_le 128 y) refl h

    same : 128 + (y - 128) ≡ y
    same = omega (arith, within.0)

    small : y - 128 < 32
    small = omega (arith, within.1)

-- ---- strings

-- the rest of a string's text is read as these bytes, and passed over
record Read (bytes text rest : List ℕ) : Type 0 where
  content_is : content plain text ≡ Some bytes
  passed : lex in_string text ≡ lex between rest

read_more : (front piece text bytes rest whole : List ℕ) → Reads front piece → Read bytes text rest → whole ≡ piece ++ text → Read (front ++ bytes) whole rest
read_more front piece text bytes rest whole p q is = record {
  content_is = ap (content plain) is ∙ p.read text ∙ ap (prepend front) q.content_is;
  passed = ap (lex in_string) is ∙ p.lexed text ∙ q.passed;
}

-- bytes below 128 but DEL are escaped to bytes that stay
low_stays : (x : ℕ) → x < 127 → list_all stays (escape_byte x) ≡ true
unfolding escape_byte
low_stays x lt = upto_sound (λ y. list_all stays (escape_byte y)) 127 refl x lt

high_plain : (x : ℕ) → 127 ≤ x → escape_byte x ≡ x ∷ []
high_plain x le = escape_byte_plain x (λ e. omega (arith, e, le)) (λ e. omega (arith, e, le)) (omega (arith, le))

escaped_stays : (x : ℕ) → (x ≡ 127 → ⊥) → (x ≡ 194 → ⊥) → list_all stays (escape_byte x) ≡ true
escaped_stays x d c = go (cases_lt x 127)
  where
    go : (x < 127) ⊎ (127 ≤ x) → list_all stays (escape_byte x) ≡ true
    go (inl lt) = low_stays x lt
    go (inr le) = ap (list_all stays) (high_plain x le)
        ∙ both_stay (stays x) true (both_stay _ _ (ap not (ne_eqb x 127 d)) (ap not (ne_eqb x 194 c))) refl

-- whether a text begins with the second byte of a character from U+0080 to U+009F
abbrev seconds : List ℕ → Bool
seconds l = in_span (get_or l 0 0) (0x80, 0x9f)

-- the escape of a byte that isn't plain begins with a backslash
low_first : (y : ℕ) (l : List ℕ) → y < 128 → seconds (escape_byte y ++ l) ≡ true → ⊥
unfolding escape_byte
low_first y l lt h = let no : false ≡ true = sym (first y lt) ∙ h in cc
  where
    short : List ℕ → Bool
    short [] = true
    short (b ∷ bs) = in_span b (0x80, 0x9f)

    of_front : (xs l : List ℕ) → short xs ≡ false → seconds (xs ++ l) ≡ false
    of_front [] l e = let no : true ≡ false = e in cc
    of_front (x ∷ xs) l e = e

    first : (y : ℕ) → y < 128 → seconds (escape_byte y ++ l) ≡ false
    first y lt = of_front (escape_byte y) l (refuted _ (upto_sound (λ z. not (short (escape_byte z))) 128 refl y lt))

-- a byte, of which the text that is left is read
next_read : (x : ℕ) (s text rest whole : List ℕ) → (x ≡ 127 → ⊥) → (x ≡ 194 → ⊥) → Read s (escaped text) rest → whole ≡ escape_byte x ++ text
    → Read (x ∷ s) (escaped whole) rest
next_read x s text rest whole d c q is =
    read_more (x ∷ []) (escape_byte x) (escaped text) s rest (escaped whole) (byte_reads x) q (ap escaped is ∙ all_stay (escape_byte x) text (escaped_stays x d c))

delete_read : (s text rest whole : List ℕ) → Read s (escaped text) rest → whole ≡ escape_byte 127 ++ text → Read (127 ∷ s) (escaped whole) rest
unfolding escape_byte escaped_after
delete_read s text rest whole q is =
    read_more (127 ∷ []) (escaped_code 127) (escaped text) s rest (escaped whole) delete_reads q (ap escaped is)

-- 194 before a byte that isn't a second one
lone_read : (s text rest whole : List ℕ) → seconds text ≡ false → Read s (escaped text) rest → whole ≡ 194 ∷ text → Read (194 ∷ s) (escaped whole) rest
unfolding escaped_after
lone_read s text rest whole alone q is =
    read_more (194 ∷ []) (194 ∷ []) (escaped text) s rest (escaped whole) (plain_reads 194 (λ e. omega (arith, e)) (λ e. omega (arith, e)) (omega arith)) q
    (ap escaped is ∙ ap (λ (t : Bool). escaped_byte t 194 ++ escaped_after t text) alone)

pair_read : (y : ℕ) (s text rest whole : List ℕ) → in_span y (0x80, 0x9f) ≡ true → Read s (escaped text) rest → whole ≡ 194 ∷ y ∷ text
    → Read (194 ∷ y ∷ s) (escaped whole) rest
unfolding escaped_after
pair_read y s text rest whole second q is =
    read_more (194 ∷ y ∷ []) (escaped_code y) (escaped text) s rest (escaped whole) (code_reads y second) q
    (ap escaped is ∙ ap (λ (t : Bool). escaped_byte t 194 ++ escaped_after t (y ∷ text)) second)

-- after a string's bytes come its closing quote, and what follows it
abbrev closed : List ℕ → List ℕ → List ℕ
closed s r = escape s ++ 34 ∷ r

-- what is read after the first byte, if there is one
abbrev TailRead : List ℕ → List ℕ → Type 0
TailRead [] r = Unit {0}
TailRead (y ∷ s) r = Read s (escaped (closed s r)) (escaped r)

record Both (s r : List ℕ) : Type 0 where
  all : Read s (escaped (closed s r)) (escaped r)
  tail : TailRead s r

-- 194, and what is read after it
after_first : (s r : List ℕ) → Both s r → Read (194 ∷ s) (escaped (194 ∷ closed s r)) (escaped r)
after_first [] r q = lone_read [] (34 ∷ r) (escaped r) _ refl q.all refl
after_first (y ∷ s) r q = go (cases_Bool (seconds (closed (y ∷ s) r))) (cases_lt y 128)
  where
    split : closed (y ∷ s) r ≡ escape_byte y ++ closed s r
    split = append_assoc (escape_byte y) (escape s) (34 ∷ r)

    go : (seconds (closed (y ∷ s) r) ≡ true) ⊎ (seconds (closed (y ∷ s) r) ≡ false) → (y < 128) ⊎ (128 ≤ y) → Read (194 ∷ y ∷ s) (escaped (194 ∷ closed (y ∷ s) r)) (escaped r)
    go (inr alone) b = lone_read (y ∷ s) (closed (y ∷ s) r) (escaped r) _ alone q.all refl
    go (inl second) (inl low) = absurd (low_first y (closed s r) low (sym (ap seconds split) ∙ second))
    go (inl second) (inr le) =
        let plain_byte = high_plain y (omega (arith, le)) in
        let is : closed (y ∷ s) r ≡ y ∷ closed s r = split ∙ ap (λ l. l ++ closed s r) plain_byte in
        pair_read y s (closed s r) (escaped r) _ (sym (ap seconds is) ∙ second) q.tail (ap (λ l. 194 ∷ l) is)

byte_read : (x : ℕ) (s r : List ℕ) → Both s r → Read (x ∷ s) (escaped (closed (x ∷ s) r)) (escaped r)
byte_read x s r q = go (cases_eq x 127) (cases_eq x 194)
  where
    split : closed (x ∷ s) r ≡ escape_byte x ++ closed s r
    split = append_assoc (escape_byte x) (escape s) (34 ∷ r)

    P : ℕ → Type 0
    P y = Read (y ∷ s) (escaped (closed (x ∷ s) r)) (escaped r)

    go : (x ≡ 127) ⊎ (x ≡ 127 → ⊥) → (x ≡ 194) ⊎ (x ≡ 194 → ⊥) → P x
    go (inl e) b = subst P (sym e) (delete_read s (closed s r) (escaped r) _ q.all (split ∙ ap (λ y. escape_byte y ++ closed s r) e))
    go (inr d) (inr c) = next_read x s (closed s r) (escaped r) _ d c q.all split
    go (inr d) (inl e) =
        let is : closed (x ∷ s) r ≡ 194 ∷ closed s r = split ∙ ap (λ y. escape_byte y ++ closed s r) e ∙ ap (λ l. l ++ closed s r) (high_plain 194 (omega arith)) in
        subst P (sym e) (subst (λ l. Read (194 ∷ s) (escaped l) (escaped r)) (sym is) (after_first s r q))

both_read : (s r : List ℕ) → Both s r
unfolding escaped_after content lex
both_read [] r = record { all = record { content_is = refl; passed = refl }; tail = tt }
both_read (x ∷ s) r = let q = both_read s r in record { all = byte_read x s r q; tail = q.all }

-- ---- tokens

abbrev token_lexemes : Token → List Lexeme
token_lexemes begin_object = token begin_object ∷ []
token_lexemes end_object = token end_object ∷ []
token_lexemes begin_array = token begin_array ∷ []
token_lexemes end_array = token end_array ∷ []
token_lexemes (key s) = token (string s) ∷ colon ∷ []
token_lexemes (string s) = token (string s) ∷ []
token_lexemes (number s) = token (number s) ∷ []
token_lexemes (boolean b) = token (boolean b) ∷ []
token_lexemes null = token null ∷ []
token_lexemes bad = []

-- after a value comes a comma, a closing bracket or nothing, also in the escaped text
after_value_ends : (ts : List Token) → ends_word (print_from true ts) ≡ true
unfolding print_from
after_value_ends [] = refl
after_value_ends (begin_object ∷ ts) = refl
after_value_ends (end_object ∷ ts) = refl
after_value_ends (begin_array ∷ ts) = refl
after_value_ends (end_array ∷ ts) = refl
after_value_ends (key s ∷ ts) = refl
after_value_ends (string s ∷ ts) = refl
after_value_ends (number s ∷ ts) = refl
after_value_ends (boolean b ∷ ts) = refl
after_value_ends (null ∷ ts) = refl
after_value_ends (bad ∷ ts) = refl

escaped_value_ends : (ts : List Token) → ends_word (escaped (print_from true ts)) ≡ true
unfolding print_from escaped_after
escaped_value_ends [] = refl
escaped_value_ends (begin_object ∷ ts) = refl
escaped_value_ends (end_object ∷ ts) = refl
escaped_value_ends (begin_array ∷ ts) = refl
escaped_value_ends (end_array ∷ ts) = refl
escaped_value_ends (key s ∷ ts) = refl
escaped_value_ends (string s ∷ ts) = refl
escaped_value_ends (number s ∷ ts) = refl
escaped_value_ends (boolean b ∷ ts) = refl
escaped_value_ends (null ∷ ts) = refl
escaped_value_ends (bad ∷ ts) = refl

lex_quoted : (s r : List ℕ) → lex between (quoted s ++ r) ≡ token (string s) ∷ lex between r
unfolding lex
lex_quoted s r =
    ap (λ l. lex between (34 ∷ l)) (append_assoc (escape s) (34 ∷ []) r) ∙ ap₂ (λ o l. token (string_token o) ∷ l) (content-escape s r) (lex-escape s r)

-- the lexemes of a token's text
lex_token : (t : Token) (r : List ℕ) → IsPrintable t → (ends t ≡ true → ends_word r ≡ true) → lex between (token_text t ++ r) ≡ token_lexemes t ++ lex between r
unfolding lex word
lex_token begin_object r h ended = refl
lex_token end_object r h ended = refl
lex_token begin_array r h ended = refl
lex_token end_array r h ended = refl
lex_token (key s) r h ended = ap (lex between) (append_assoc (quoted s) (58 ∷ []) r) ∙ lex_quoted s (58 ∷ r)
lex_token (string s) r h ended = lex_quoted s r
lex_token (number s) r h ended = lex-number s r h (ended refl)
lex_token (boolean true) r h ended = ap₂ (λ b l. token (cond b (boolean true) bad) ∷ l) (ended refl) (in_word-ended r (ended refl))
lex_token (boolean false) r h ended = ap₂ (λ b l. token (cond b (boolean false) bad) ∷ l) (ended refl) (in_word-ended r (ended refl))
lex_token null r h ended = ap₂ (λ b l. token (cond b null bad) ∷ l) (ended refl) (in_word-ended r (ended refl))
lex_token bad r h ended = absurd h

escaped_quoted : (s r : List ℕ) → lex between (escaped (quoted s ++ r)) ≡ token (string s) ∷ lex between (escaped r)
unfolding lex escaped_after
escaped_quoted s r =
    let q = (both_read s r).all in
    ap (λ l. lex between (34 ∷ escaped l)) (append_assoc (escape s) (34 ∷ []) r) ∙ ap₂ (λ o l. token (string_token o) ∷ l) q.content_is q.passed

escaped_plain : (t : Token) (r : List ℕ) → IsPrintable t → (ends t ≡ true → ends_word (escaped r) ≡ true) → list_all stays (token_text t) ≡ true
    → lex between (escaped (token_text t ++ r)) ≡ token_lexemes t ++ lex between (escaped r)
escaped_plain t r h ended same = ap (lex between) (all_stay (token_text t) r same) ∙ lex_token t (escaped r) h ended

-- the same in the escaped text
escaped_token : (t : Token) (r : List ℕ) → IsPrintable t → (ends t ≡ true → ends_word (escaped r) ≡ true)
    → lex between (escaped (token_text t ++ r)) ≡ token_lexemes t ++ lex between (escaped r)
unfolding lex escaped_after
escaped_token begin_object r h ended = escaped_plain begin_object r h ended refl
escaped_token end_object r h ended = escaped_plain end_object r h ended refl
escaped_token begin_array r h ended = escaped_plain begin_array r h ended refl
escaped_token end_array r h ended = escaped_plain end_array r h ended refl
escaped_token (key s) r h ended = ap (λ l. lex between (escaped l)) (append_assoc (quoted s) (58 ∷ []) r) ∙ escaped_quoted s (58 ∷ r)
escaped_token (string s) r h ended = escaped_quoted s r
escaped_token (number s) r h ended = escaped_plain (number s) r h ended (number_stays s h)
escaped_token (boolean true) r h ended = escaped_plain (boolean true) r h ended refl
escaped_token (boolean false) r h ended = escaped_plain (boolean false) r h ended refl
escaped_token null r h ended = escaped_plain null r h ended refl
escaped_token bad r h ended = absurd h

separated : (b : Bool) (x y : List ℕ) → lex between (escaped x) ≡ lex between y → lex between (escaped (cond b (44 ∷ []) [] ++ x)) ≡ lex between (cond b (44 ∷ []) [] ++ y)
unfolding lex escaped_after
separated true x y is = ap (λ l. comma ∷ l) is
separated false x y is = is

same_lexemes : (c : Bool) (ts : List Token) → ArePrintable ts → lex between (escaped (print_from c ts)) ≡ lex between (print_from c ts)
unfolding lex print_from escaped_after ArePrintable
same_lexemes c [] h = refl
same_lexemes c (t ∷ ts) h =
    let rest = print_from (ends t) ts in
    separated (c && begins t) _ _
    (escaped_token t rest h.0 (λ e. ap (λ b. ends_word (escaped (print_from b ts))) e ∙ escaped_value_ends ts)
    ∙ ap (λ l. token_lexemes t ++ l) (same_lexemes (ends t) ts h.1)
    ∙ sym (lex_token t rest h.0 (λ e. ap (λ b. ends_word (print_from b ts)) e ∙ after_value_ends ts)))

-- the escaped text is read as the tokens, and so as the value
pub tokens_escaped : (ts : List Token) → ArePrintable ts → tokens (escaped (print ts)) ≡ tokens (print ts)
tokens_escaped ts h = ap (punctuate fresh) (same_lexemes false ts h)

pub document_escaped : (j : Json) → HasNumbers j → depth j ≤ max_depth → document (escaped (print (json_tokens j))) ≡ Some j
document_escaped j numbers shallow =
    ap (λ ts. option_and_then (λ p. if_last p.0 p.1) (value max_depth ts)) (tokens_escaped (json_tokens j) (ArePrintable-json_tokens j numbers))
    ∙ document-print j numbers shallow
