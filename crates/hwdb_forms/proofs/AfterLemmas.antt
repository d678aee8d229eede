-- Bytes as bits, and which may come after all tokens.
use Rattle.std.proofs.Common.{◌≡◌, ℕ, ◌+◌, ◌<◌, ◌≤◌, ◌-◌, ◌==◌, ◌||◌, ◌⊎◌, ◌*◌, ◌%◌, ◌^◌, Bool, true, false, List, [], ◌∷◌, ◌++◌, refl, sym, ap, subst, ◌∙◌, inl, inr, append_assoc, arith, cond, drop, eq-eqb, eqb-true, get_or, length, map, nat_lt, suc, zero}
use Rattle.std.specs.Prelude.{if◌then◌else◌, max}
use Rattle.std.proofs.Math.Seq.{drop-cons}
use Rattle.std.proofs.lemmas.Bool.{ltb-false, ltb-true}
use Rattle.std.proofs.lemmas.List.{drop_all}
use Rattle.std.specs.Int.{bit_at}
use Rattle.std.specs.Int.Bits.{bit_or}
use Rattle.std.proofs.lemmas.Nat.{one_shl}
use Rattle.std.proofs.lemmas.Nat.Bits.{bit_at-lt, bit_at-pow_other, bit_at-pow_same, bit_at-zero, bit_at_or}
use Rattle.hwdb_spec.specs.declared.ByteSet.{ByteSet}
use Rattle.hwdb_spec.specs.declared.ByteSet.TheVariants.{Only}
use Rattle.hwdb_spec.specs.Patterns.{Token, literal, one, star, token_at, tokens}
use Rattle.hwdb_spec.specs.Forms.{Form, Piece, can_begin, can_match, fields_row, head, is_in, is_wild, meets_form}
use Rattle.hwdb_pattern.specs.Laws.{StaysClosed, TokensAreThePattern}
use Rattle.hwdb_spec_commands.specs.FormTable.{asked, free, free_prefixes, known}
use Rattle.hwdb_spec_commands.specs.LikelyForms.{kept, likely, narrow}
use Rattle.hwdb_forms.specs.declared.pieces.Table.{Table}
use Rattle.hwdb_forms.specs.declared.pieces.Table.TheVariants.{Asked, Likely}
use Rattle.hwdb_forms.specs.declared.bytes.Bytes.{Bytes}
use Rattle.hwdb_forms.specs.Internal.{AreAfter, Every, HasWays, Stays, bytes_of, followed, forms_of, has_bit, has_byte}
use Rattle.hwdb_forms.proofs.MeetLemmas.{own_in, own_span}
use Rattle.hwdb_forms.proofs.KeptLemmas.{kept_front}

-- ---- bits
or_bit : (x y : ℕ) → x < 2 → y < 2 → (max x y == 1) ≡ (if x == 1 then true else y == 1)
or_bit zero zero h k = refl
or_bit zero (suc zero) h k = refl
or_bit (suc zero) zero h k = refl
or_bit (suc zero) (suc zero) h k = refl
or_bit (suc (suc x)) y h k = absurd (omega arith)
or_bit zero (suc (suc y)) h k = absurd (omega arith)
or_bit (suc zero) (suc (suc y)) h k = absurd (omega arith)

pub no_bit : (i : ℕ) → has_bit 0 i ≡ false
no_bit i = ap (λ (n : ℕ). n == 1) (bit_at-zero i)

pub either_bit : (a b i : ℕ) → has_bit (bit_or a b) i ≡ (if has_bit a i then true else has_bit b i)
either_bit a b i = ap (λ (n : ℕ). n == 1) (bit_at_or a b i) ∙ or_bit (bit_at a i) (bit_at b i) (bit_at-lt a i) (bit_at-lt b i)

own_bit : (k : ℕ) → has_bit (2 ^ k) k ≡ true
own_bit k = ap (λ (n : ℕ). n == 1) (bit_at-pow_same k)

other_bit : (k i : ℕ) → (i ≡ k → ⊥) → has_bit (2 ^ k) i ≡ false
other_bit k i h = ap (λ (n : ℕ). n == 1) (bit_at-pow_other k i h)

or_none : (b : Bool) → b ≡ (if b then true else false)
or_none true = refl
or_none false = refl

never : (m : Bool) → (if m then false else false) ≡ false
never true = refl
never false = refl

always : (m : Bool) → (if m then true else false) ≡ m
always true = refl
always false = refl

or_never : (m b : Bool) → (if b then true else (if m then false else false)) ≡ b
or_never true true = refl
or_never true false = refl
or_never false true = refl
or_never false false = refl

or_again : (a b c : Bool) → (if (if a then true else b) then true else c) ≡ (if a then true else (b || c))
or_again true b c = refl
or_again false true c = refl
or_again false false c = refl

if_no : (b : Bool) (x y : ℕ) → b ≡ false → (if b then x else y) ≡ y
if_no false x y e = refl
if_no true x y e = cc

if_yes : (b : Bool) (x y : ℕ) → b ≡ true → (if b then x else y) ≡ x
if_yes true x y e = refl
if_yes false x y e = cc

-- one more bit, if a byte is in the set
with_bit : (m : Bool) (x k i : ℕ) → has_bit (if m then bit_or x (2 ^ k) else x) i ≡ (if has_bit x i then true else (if m then has_bit (2 ^ k) i else false))
with_bit true x k i = either_bit x (2 ^ k) i
with_bit false x k i = or_none (has_bit x i)

bits_above : (set : ByteSet) (first n i : ℕ) → n ≤ i → has_bit (bytes_of set first n) i ≡ false
unfolding bytes_of
bits_above set first zero i h = no_bit i
bits_above set first (suc n) i h =
    with_bit (is_in set (first + n)) (bytes_of set first n) n i
    ∙ ap (λ (b : Bool). if b then true else (if is_in set (first + n) then has_bit (2 ^ n) i else false)) (bits_above set first n i (omega arith))
    ∙ ap (λ (b : Bool). if is_in set (first + n) then b else false) (other_bit n i (λ e. omega (arith, e)))
    ∙ never (is_in set (first + n))

pub bits_told : (set : ByteSet) (first n i : ℕ) → i < n → has_bit (bytes_of set first n) i ≡ is_in set (first + i)
unfolding bytes_of
bits_told set first zero i h = absurd (omega arith)
bits_told set first (suc n) i h = by (i == n) (λ other. bits_told set first n i (omega (arith, other))) refl
  where
    by : (e : Bool) → ((i ≡ n → ⊥) → has_bit (bytes_of set first n) i ≡ is_in set (first + i)) → (i == n) ≡ e → has_bit (if is_in set (first + n) then bit_or (bytes_of set first n) (2 ^ n) else bytes_of set first n) i ≡ is_in set (first + i)
    by true before e =
        let same : i ≡ n = eqb-true i n e in
        with_bit (is_in set (first + n)) (bytes_of set first n) n i
        ∙ ap (λ (b : Bool). if b then true else (if is_in set (first + n) then has_bit (2 ^ n) i else false)) (bits_above set first n i (omega (arith, same)))
        ∙ ap (λ (k : ℕ). if is_in set (first + n) then has_bit (2 ^ n) k else false) same
        ∙ ap (λ (b : Bool). if is_in set (first + n) then b else false) (own_bit n)
        ∙ always (is_in set (first + n))
        ∙ sym (ap (λ (k : ℕ). is_in set (first + k)) same)
    by false before e =
        let other : i ≡ n → ⊥ = λ same. let t : true ≡ false = sym (eq-eqb i n same) ∙ e in cc in
        with_bit (is_in set (first + n)) (bytes_of set first n) n i
        ∙ ap (λ (b : Bool). if has_bit (bytes_of set first n) i then true else (if is_in set (first + n) then b else false)) (other_bit n i other)
        ∙ or_never (is_in set (first + n)) (has_bit (bytes_of set first n) i)
        ∙ before other

-- ---- both halves
pub no_byte : (byte : ℕ) → (if nat_lt byte 128 then has_bit 0 byte else has_bit 0 (byte - 128)) ≡ false
no_byte byte = by (nat_lt byte 128)
  where
    by : (c : Bool) → (if c then has_bit 0 byte else has_bit 0 (byte - 128)) ≡ false
    by true = no_bit byte
    by false = no_bit (byte - 128)

pub halves : (set : ByteSet) (bytes : Bytes) (byte : ℕ) → bytes.low ≡ bytes_of set 0 128 → bytes.high ≡ bytes_of set 128 128 → byte < 256 → has_byte bytes byte ≡ is_in set byte
halves set bytes byte l h w = by (nat_lt byte 128) refl
  where
    by : (c : Bool) → nat_lt byte 128 ≡ c → (if c then has_bit bytes.low byte else has_bit bytes.high (byte - 128)) ≡ is_in set byte
    by true e = ap (λ (n : ℕ). has_bit n byte) l ∙ bits_told set 0 128 byte (ltb-true byte 128 e) ∙ ap (is_in set) (omega arith)
    by false e =
        let more : 128 ≤ byte = ltb-false byte 128 e in
        ap (λ (n : ℕ). has_bit n (byte - 128)) h ∙ bits_told set 128 128 (byte - 128) (omega (arith, more, w)) ∙ ap (is_in set) (omega (arith, more))

pub either_byte : (some others new : Bytes) (byte : ℕ) → new.low ≡ bit_or some.low others.low → new.high ≡ bit_or some.high others.high → has_byte new byte ≡ (if has_byte some byte then true else has_byte others byte)
either_byte some others new byte l h = by (nat_lt byte 128)
  where
    by : (c : Bool) → (if c then has_bit new.low byte else has_bit new.high (byte - 128))
        ≡ (if (if c then has_bit some.low byte else has_bit some.high (byte - 128)) then true else (if c then has_bit others.low byte else has_bit others.high (byte - 128)))
    by true = ap (λ (n : ℕ). has_bit n byte) l ∙ either_bit some.low others.low byte
    by false = ap (λ (n : ℕ). has_bit n (byte - 128)) h ∙ either_bit some.high others.high (byte - 128)

-- several forms
pub among_start : (A : Type 0) (f : A → Form) (l : List A) (us : List Token) (had : Bool) → had ≡ false → (if had then true else can_match (map f (drop 0 l)) us) ≡ can_match (map f l) us
among_start A f l us had e = ap (λ (b : Bool). if b then true else can_match (map f (drop 0 l)) us) e ∙ ap (λ (r : List A). can_match (map f r) us) (none l)
  where
    none : (r : List A) → drop 0 r ≡ r
    none [] = refl
    none (x ∷ r) = refl

pub among_kept : (A : Type 0) (f : A → Form) (l : List A) (k n : ℕ) (d : A) (us : List Token) (had own has whole : Bool) → k < length l → n ≡ suc k → own ≡ meets_form us (f (get_or l k d)) → has ≡ (if had then true else own)
    → (if had then true else can_match (map f (drop k l)) us) ≡ whole → (if has then true else can_match (map f (drop n l)) us) ≡ whole
among_kept A f l k n d us had own has whole h e o r before =
    ap (λ (j : ℕ). if has then true else can_match (map f (drop j l)) us) e
    ∙ ap (λ (b : Bool). if b then true else can_match (map f (drop (suc k) l)) us) (r ∙ ap (λ (b : Bool). if had then true else b) o)
    ∙ or_again had (meets_form us (f (get_or l k d))) (can_match (map f (drop (suc k) l)) us)
    ∙ sym (ap (λ (r : List A). if had then true else can_match (map f r) us) (drop-cons l k d h))
    ∙ before

pub among_all : (A : Type 0) (f : A → Form) (l : List A) (k : ℕ) (us : List Token) (has whole : Bool) → length l ≤ k → (if has then true else can_match (map f (drop k l)) us) ≡ whole → has ≡ whole
among_all A f l k us has whole h before =
    or_none has ∙ sym (ap (λ (r : List A). if has then true else can_match (map f r) us) (drop_all k l h)) ∙ before

-- ---- after a front
plain_by : (s o t : Bool) (b : ℕ) (x : Token) → cond s true (cond o true t) ≡ false → cond s star (cond o one (cond t x (literal b))) ≡ literal b
plain_by true o t b x e = absurd cc
plain_by false true t b x e = absurd cc
plain_by false false true b x e = absurd cc
plain_by false false false b x e = refl

plain_token : (b : ℕ) → is_wild b ≡ false → token_at (b ∷ []) ≡ literal b
unfolding token_at
plain_token b e = plain_by (b == 42) (b == 63) (b == 91) b _ e

begun_by : (all : List Form) (front : List ℕ) (ts : List Token) (b : ℕ) → tokens (front ++ b ∷ []) ≡ ts ++ token_at (b ∷ []) ∷ [] → is_wild b ≡ false → can_begin all (tokens (front ++ b ∷ [])) ≡ can_match all (ts ++ literal b ∷ star ∷ [])
begun_by all front ts b kept w =
    ap (can_begin all) (kept ∙ ap (λ (t : Token). ts ++ t ∷ []) (plain_token b w))
    ∙ ap (can_match all) (append_assoc ts (literal b ∷ []) (star ∷ []))

pub bytes_told : StaysClosed → TokensAreThePattern → (forms all : List Form) (front : List ℕ) (ts : List Token) (bytes : Bytes) → forms ≡ all → ts ≡ tokens front
    → ((b : ℕ) → b < 256 → has_byte bytes b ≡ can_match forms (followed ts b)) → AreAfter all front bytes
bytes_told stays cut forms all front ts bytes e same told = λ b h w k.
    told b h
    ∙ ap (λ (fs : List Form). can_match fs (followed ts b)) e
    ∙ sym (begun_by all front ts b (kept_front stays cut front ts b same k) w)

-- ---- each form has ways
every_joined : (A : Type 0) (Told : A → Type 0) (a b : List A) → Every A Told a → Every A Told b → Every A Told (a ++ b)
every_joined A Told [] b e k = k
every_joined A Told (x ∷ a) b e k = (e.0, every_joined A Told a b e.1 k)

free_ways : (l : List (List ℕ)) → Every Form HasWays (map free l)
free_ways [] = tt
free_ways (x ∷ l) = (tt, free_ways l)

known_ways : Every Form HasWays (map (λ k. k.form) known)
unfolding known
known_ways = (tt, (tt, (tt, (tt, (tt, (tt, (tt, (tt, (tt, (tt, (tt, (tt, (tt, (tt, (tt, (tt, (tt, (tt, (tt, (tt, (tt, (tt, (tt, (tt, (tt, (tt, (tt, (tt, (tt, (tt, tt))))))))))))))))))))))))))))))

asked_ways : Every Form HasWays asked
asked_ways = every_joined Form HasWays (map (λ k. k.form) known) (map free free_prefixes) known_ways (free_ways free_prefixes)

kept_ways : Every Form HasWays kept
unfolding kept
kept_ways = (tt, (tt, (tt, (tt, (tt, (tt, (tt, (tt, (tt, (tt, (tt, (tt, (tt, (tt, (tt, (tt, tt))))))))))))))))

narrow_ways : Every Form HasWays (map (λ k. k.form) narrow)
unfolding narrow
narrow_ways = (tt, (tt, (tt, (tt, (tt, (tt, (tt, (tt, (tt, (tt, (tt, (tt, (tt, (tt, (tt, (tt, tt))))))))))))))))

likely_ways : Every Form HasWays likely
likely_ways =
    every_joined Form HasWays (kept ++ map (λ k. k.form) narrow) (map free free_prefixes) (every_joined Form HasWays kept (map (λ k. k.form) narrow) kept_ways narrow_ways) (free_ways free_prefixes)

pub table_ways : (table : Table) → Every Form HasWays (forms_of table)
table_ways Asked = asked_ways
table_ways Likely = likely_ways

-- ---- one bit
pub one_bit : (k : ℕ) → k < 128 → 1 * 2 ^ k % 340282366920938463463374607431768211456 ≡ 2 ^ k
one_bit k h = one_shl k 128 h

-- ---- a byte alone
own_is : (own : ℕ) → is_in (Only own) own ≡ true
own_is own = own_in own

other_is : (own b : ℕ) → (own ≡ b → ⊥) → is_in (Only own) b ≡ false
other_is own b h = by (is_in (Only own) b) refl
  where
    by : (e : Bool) → is_in (Only own) b ≡ e → is_in (Only own) b ≡ false
    by true e = absurd (h (sym (own_span b own e)))
    by false e = e

pub no_own : (own first n : ℕ) → (own < first) ⊎ (first + n ≤ own) → 0 ≡ bytes_of (Only own) first n
unfolding bytes_of
no_own own first zero h = refl
no_own own first (suc n) h =
    no_own own first n (fewer h)
    ∙ sym (if_no (is_in (Only own) (first + n)) (bit_or (bytes_of (Only own) first n) (2 ^ n)) (bytes_of (Only own) first n) (other_is own (first + n) (differs h)))
  where
    fewer : (own < first) ⊎ (first + suc n ≤ own) → (own < first) ⊎ (first + n ≤ own)
    fewer (inl a) = inl a
    fewer (inr a) = inr (omega (arith, a))

    differs : (own < first) ⊎ (first + suc n ≤ own) → own ≡ first + n → ⊥
    differs (inl a) e = omega (arith, a, e)
    differs (inr a) e = omega (arith, a, e)

pub with_own : (own first at n : ℕ) → own ≡ first + at → at < n → 2 ^ at ≡ bytes_of (Only own) first n
unfolding bytes_of
with_own own first at zero e h = absurd (omega arith)
with_own own first at (suc n) e h = by (at == n) (λ other. with_own own first at n e (omega (arith, other))) refl
  where
    by : (b : Bool) → ((at ≡ n → ⊥) → 2 ^ at ≡ bytes_of (Only own) first n) → (at == n) ≡ b → 2 ^ at ≡ bytes_of (Only own) first (suc n)
    by true before k =
        let same : at ≡ n = eqb-true at n k in
        ap (λ (i : ℕ). 2 ^ i) same
        ∙ sym (ap (λ (x : ℕ). bit_or x (2 ^ n)) (sym (no_own own first n (inr (omega (arith, e, same))))))
        ∙ sym (if_yes (is_in (Only own) (first + n)) (bit_or (bytes_of (Only own) first n) (2 ^ n)) (bytes_of (Only own) first n) (subst (λ (x : ℕ). is_in (Only own) x ≡ true) (e ∙ ap (λ (i : ℕ). first + i) same) (own_is own)))
    by false before k =
        let other : at ≡ n → ⊥ = λ same. let t : true ≡ false = sym (eq-eqb at n same) ∙ k in cc in
        before other
        ∙ sym (if_no (is_in (Only own) (first + n)) (bit_or (bytes_of (Only own) first n) (2 ^ n)) (bytes_of (Only own) first n) (other_is own (first + n) (λ same. other (omega (arith, e, same)))))
