-- Texts of numbers, read, and texts that hold no colon.
use Rattle.std.proofs.Common.{◌≡◌, ◌≢◌, ◌∙◌, ℕ, ◌<◌, ◌≤◌, ◌^◌, ap, sym, subst, refl, arith, List, [], ◌∷◌, eq-eqb, zero, suc, length, slice_index, Option, Some, None, Result, Ok, Err, true≢false, Bool, true, false}
use Rattle.std.specs.Str.{bytes_eq}
use Rattle.std.specs.Prelude.{is_some, MatchOption}
use Rattle.std.specs.Char.{digit_value}
use Rattle.std.specs.Fmt.{decimal}
use Rattle.std.specs.Str.Parse.{ParsesUnsigned, AllDigits}
use Rattle.std.proofs.lemmas.Fmt.{parse-decimal, decimal_is_IsNumeral}
use Rattle.hex.specs.Hex.{decode_of, is_hex_digit}
use Rattle.hex.proofs.HexLemmas.{decode_of-ok}

abbrev value_of : {E : Type 0} → ℕ → Result ℕ E → ℕ
value_of d (Ok n) = n
value_of d (Err e) = d

abbrev is_value : {E : Type 0} → Result ℕ E → Bool
is_value (Ok n) = true
is_value (Err e) = false

pub read_is : (E : Type 0) (bs : List ℕ) (n m : ℕ) → ParsesUnsigned {E = E} 64 10 bs (Ok n) → m < 2 ^ 64 → bs ≡ decimal m → n ≡ m
read_is E bs n m reads small is = ap (λ (r : Result ℕ E). value_of n r) (parse-decimal {E = E} 64 m bs (Ok n) small small is reads)

pub never_err : (E : Type 0) (bs : List ℕ) (x : E) (m : ℕ) → ParsesUnsigned {E = E} 64 10 bs (Err x) → m < 2 ^ 64 → bs ≡ decimal m → ⊥
never_err E bs x m reads small is = true≢false (sym (ap (λ (r : Result ℕ E). is_value r) (parse-decimal {E = E} 64 m bs (Err x) small small is reads)))

abbrev pub NoColon : List ℕ → Type 0
NoColon xs = (i : ℕ) → i < length xs → slice_index xs i ≢ 58

colon_is_no_digit : (c : ℕ) → is_hex_digit c ≡ true → c ≢ 58
colon_is_no_digit c is e = true≢false (sym is ∙ ap is_hex_digit e)

pub no_colon_hex : (text bytes : List ℕ) → decode_of text ≡ Ok bytes → NoColon text
no_colon_hex text bytes is = λ i lt. colon_is_no_digit (slice_index text i) ((decode_of-ok text bytes is).1 i 0 lt)

bytes_same : (xs : List ℕ) → bytes_eq xs xs ≡ true
bytes_same [] = refl
bytes_same (x ∷ xs) = rw (eq-eqb x x refl) (bytes_same xs)

pub texts_equal : (a b : List ℕ) → a ≡ b → bytes_eq a b ≡ true
texts_equal a b is = ap (λ l. bytes_eq a l) (sym is) ∙ bytes_same a

no_colon_at : (xs : List ℕ) → AllDigits 10 xs → (i : ℕ) → i < length xs → slice_index xs i ≡ 58 → ⊥
no_colon_at [] d i lt e = absurd (omega arith)
no_colon_at (x ∷ xs) d zero lt e = let P : ℕ → Type 0 = λ c. digit_value c < 10 in let bad = subst P e d.0 in absurd (omega (arith, bad))
no_colon_at (x ∷ xs) d (suc i) lt e = no_colon_at xs d.1 i (omega arith) e

pub no_colon_decimal : (n : ℕ) → n < 2 ^ 64 → NoColon (decimal n)
no_colon_decimal n small = λ i lt e. no_colon_at (decimal n) (decimal_is_IsNumeral n small).0.1 i lt e

pub never_some : {A : Type 0} (x : A) (o : Option A) → o ≡ None → o ≡ Some x → ⊥
never_some x o none some = true≢false (ap is_some (sym some ∙ none))

pub missing : {A : Type 0} (P : Type 0) (Q : A → Type 0) (o : Option A) → o ≡ None → MatchOption o P Q → P
missing P Q None none h = h
missing P Q (Some x) none h = absurd (never_some x (Some x) none refl)

pub wide : (n k : ℕ) → k ≤ 2 ^ 64 → n < k → n < 2 ^ 64
wide n k most small = omega arith
