-- Rows, one after the other.
use Rattle.std.proofs.Common.{◌≡◌, ℕ, zero, suc, ◌+◌, ◌-◌, ◌<◌, ◌≤◌, Bool, true, false, List, [], ◌∷◌, ◌++◌, take, drop, length, get_or, map, refl, sym, ap, ◌∙◌, arith, drop-cons, add-one, Option, Some, None, append_assoc, append-nil, nat_le, ◌==◌}
use Rattle.std.proofs.lemmas.Bool.Decides.{nat_tests}
use Rattle.std.specs.Borrow.{Bor}
use Rattle.hwdb_rulefiles.specs.RuleText.{first_rows, rows, row_len, after_row, long_row, steps, step, Reading}
use Rattle.hwdb_rulefiles.specs.Views.{text_of}

pub next_text : (xs : List (Bor (List ℕ))) (i : ℕ) (d : Bor (List ℕ)) → i < length xs
    → map text_of (drop i xs) ≡ (get_or xs i d).now ∷ map text_of (drop (i + 1) xs)
next_text xs i d h = rw add-one (ap (map text_of) (drop-cons xs i d h))

pub no_text : (xs : List (Bor (List ℕ))) (i : ℕ) → length xs ≤ i → map text_of (drop i xs) ≡ []
no_text [] zero h = refl
no_text [] (suc i) h = refl
no_text (x ∷ xs) zero h = absurd (omega arith)
no_text (x ∷ xs) (suc i) h = no_text xs i (omega arith)

is_long : (n : ℕ) → 16384 ≤ n → nat_le 16384 n ≡ true
is_long n h = grind (arith, nat_tests)

is_short : (n : ℕ) → n < 16384 → nat_le 16384 n ≡ false
is_short n h = grind (arith, nat_tests)

pub long_here : (n : ℕ) (all rest : List (List ℕ)) (row : List ℕ) → all ≡ row ∷ rest → 16384 ≤ length row → long_row n all ≡ Some n
unfolding long_row
long_here n all rest row e h = ap (long_row n) e ∙ rw (is_long (length row) h) refl

pub long_later : (n : ℕ) (all rest : List (List ℕ)) (row : List ℕ) → all ≡ row ∷ rest → length row < 16384 → long_row n all ≡ long_row (n + 1) rest
unfolding long_row
long_later n all rest row e h = ap (long_row n) e ∙ rw (is_short (length row) h) refl

pub long_none : (n : ℕ) (all : List (List ℕ)) → all ≡ [] → long_row n all ≡ None
unfolding long_row
long_none n all e = ap (long_row n) e

pub steps_on : (r next : Reading) (n : ℕ) (all rest : List (List ℕ)) (row : List ℕ) → all ≡ row ∷ rest → next ≡ step r n row → steps r n all ≡ steps next (n + 1) rest
unfolding steps
steps_on r next n all rest row e s = ap (steps r n) e ∙ ap (λ (t : Reading). steps t (n + 1) rest) (sym s)

pub steps_none : (r : Reading) (n : ℕ) (all : List (List ℕ)) → all ≡ [] → steps r n all ≡ r
unfolding steps
steps_none r n all e = ap (steps r n) e

is_zero : (n : ℕ) → (n == 0) ≡ true → n ≡ 0
is_zero n h = grind (arith, nat_tests)

pub none_left : (n : ℕ) (text : List ℕ) → (length text == 0) ≡ true → first_rows n text ≡ []
unfolding first_rows
none_left zero text h = refl
none_left (suc n) [] h = refl
none_left (suc n) (b ∷ rest) h = absurd (omega (arith, is_zero (length (b ∷ rest)) h))

pub no_more : (text : List ℕ) → first_rows 0 text ≡ []
unfolding first_rows
no_more text = refl

one_more : (m n : ℕ) (text : List ℕ) → n ≡ suc m → (length text == 0) ≡ false → first_rows n text ≡ take (row_len text) text ∷ first_rows m (after_row text)
unfolding first_rows
one_more m n [] e some = cc
one_more m n (b ∷ rest) e some = ap (λ (k : ℕ). first_rows k (b ∷ rest)) e

-- the rows so far, with one more
pub one_row : (sofar next : List (Bor (List ℕ))) (row : Bor (List ℕ)) (n : ℕ) (text rest : List ℕ) → 0 < n → (length text == 0) ≡ false
    → next ≡ sofar ++ (row ∷ []) → row.now ≡ take (row_len text) text → rest ≡ after_row text
    → map text_of next ++ first_rows (n - 1) rest ≡ map text_of sofar ++ first_rows n text
one_row sofar next row n text rest h some e r a =
    ap (λ (l : List (Bor (List ℕ))). map text_of l ++ first_rows (n - 1) rest) e
    ∙ ap (λ (l : List (List ℕ)). l ++ first_rows (n - 1) rest) (snoc sofar row)
    ∙ append_assoc (map text_of sofar) (row.now ∷ []) (first_rows (n - 1) rest)
    ∙ ap (λ (l : List (List ℕ)). map text_of sofar ++ l)
    (ap (λ (x : List ℕ). x ∷ first_rows (n - 1) rest) r ∙ ap (λ (x : List ℕ). take (row_len text) text ∷ first_rows (n - 1) x) a ∙ sym (one_more (n - 1) n text (omega arith) some))
  where
    snoc : (xs : List (Bor (List ℕ))) (x : Bor (List ℕ)) → map text_of (xs ++ (x ∷ [])) ≡ map text_of xs ++ (x.now ∷ [])
    snoc [] x = refl
    snoc (y ∷ xs) x = ap (λ (l : List (List ℕ)). y.now ∷ l) (snoc xs x)
