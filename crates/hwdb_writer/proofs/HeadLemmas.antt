-- Strings are compared as their first bytes are, as a number, if these differ.
use Rattle.std.proofs.Common.{◌≡◌, ◌<◌, ◌≤◌, ℕ, zero, suc, ◌+◌, ◌*◌, ◌^◌, List, [], ◌∷◌, length, drop, get_or, refl, sym, ◌∙◌, ap, subst, arith, Ordering}
use Rattle.std.specs.declared.cmp.Ordering.TheVariants.{Less, Equal, Greater}
use Rattle.std.specs.Ordering.{MatchOrdering, nat_cmp, ordering_then, ordering_reverse}
use Rattle.std.specs.Cmp.Lexicographic.{slice_cmp, nat_list_cmp_total}
use Rattle.std.specs.Cmp.{nat_cmp_is}
use Rattle.std.proofs.lemmas.Cmp.{ranked, tied_itself, nat_cmp_total}
use Rattle.std.proofs.lemmas.Nat.{row_fits}
use Rattle.byteorder.specs.Endian.{big_from, big_number}
use Rattle.hwdb_writer.specs.Internal.Keyed.{AreHeads}
use Rattle.byteorder.specs.Numbers.{big_from-cons, big_from-lt}

abbrev pub AreBytes : List ℕ → Type 0
AreBytes xs = (i : ℕ) → get_or xs i 0 < 256

behind : (x : ℕ) (xs : List ℕ) → AreBytes (x ∷ xs) → AreBytes xs
behind x xs b i = b (suc i)

-- the number of a string is that of its first byte and that of the rest
front : (n x : ℕ) (xs : List ℕ) → big_from 0 (suc n) (x ∷ xs) ≡ x * 256 ^ n + big_from 0 n xs
front n x xs = ap (λ m. x * 256 ^ n + m) (big_from-cons 0 n x xs)

none : (i n : ℕ) → big_from i n [] ≡ 0
none i zero = refl
none i (suc n) = omega (arith, none (suc i) n)

-- a greater first byte outweighs all bytes after it
outweighs : (n x y : ℕ) (xs ys : List ℕ) → AreBytes ys → y < x → big_from 0 (suc n) (x ∷ xs) ≤ big_from 0 (suc n) (y ∷ ys) → ⊥
outweighs n x y xs ys b lt less =
    let rest : big_from 0 n ys < 256 ^ n = big_from-lt 0 n ys b in
    let row : y * 256 ^ n + 256 ^ n ≤ x * 256 ^ n = row_fits y (256 ^ n) x (256 ^ n) lt (omega arith) in
    omega (arith, rest, row, front n x xs, front n y ys, less)

less_behind : (n x y : ℕ) (xs ys : List ℕ) → x ≡ y → big_from 0 (suc n) (x ∷ xs) < big_from 0 (suc n) (y ∷ ys) → big_from 0 n xs < big_from 0 n ys
less_behind n x y xs ys e less =
    let f = front n x xs in
    let g = front n y ys ∙ ap (λ z. z * 256 ^ n + big_from 0 n ys) (sym e) in
    omega (arith, f, g, less)

by_first : (x y : ℕ) (r rest : Ordering) → MatchOrdering r (x < y) (x ≡ y) (y < x) → (y < x → ⊥) → (x ≡ y → rest ≡ Less) → ordering_then r rest ≡ Less
by_first x y Less rest m not same = refl
by_first x y Equal rest m not same = same m
by_first x y Greater rest m not same = absurd (not m)

less : (n : ℕ) (xs ys : List ℕ) → AreBytes xs → AreBytes ys → big_from 0 n xs < big_from 0 n ys → slice_cmp nat_cmp xs ys ≡ Less
less zero xs ys a b lt = absurd (omega (arith, lt))
less (suc n) [] [] a b lt = absurd (omega (arith, lt))
less (suc n) [] (y ∷ ys) a b lt = refl
less (suc n) (x ∷ xs) [] a b lt = absurd (omega (arith, lt, none 0 (suc n)))
less (suc n) (x ∷ xs) (y ∷ ys) a b lt =
    by_first x y (nat_cmp x y) (slice_cmp nat_cmp xs ys) (ranked x y (nat_cmp x y) refl) (λ g. outweighs n x y xs ys (behind y ys b) g (omega (arith, lt)))
    (λ e. less n xs ys (behind x xs a) (behind y ys b) (less_behind n x y xs ys e lt))

pub less_head : (h k : ℕ) (xs ys : List ℕ) → h ≡ big_number 8 xs → k ≡ big_number 8 ys → AreBytes xs → AreBytes ys → h < k → Less ≡ slice_cmp nat_cmp xs ys
less_head h k xs ys e f a b lt = sym (less 8 xs ys a b (omega (arith, e, f, lt)))

pub greater_head : (h k : ℕ) (xs ys : List ℕ) → h ≡ big_number 8 xs → k ≡ big_number 8 ys → AreBytes xs → AreBytes ys → k < h → Greater ≡ slice_cmp nat_cmp xs ys
greater_head h k xs ys e f a b lt =
    ap ordering_reverse (less_head k h ys xs f e b a lt) ∙ sym (nat_list_cmp_total.antisymm xs ys)

-- strings that are no longer than the bytes compared, and have one number, differ in their lengths alone
same_first : (n x y : ℕ) (xs ys : List ℕ) → AreBytes (x ∷ xs) → AreBytes (y ∷ ys) → big_from 0 (suc n) (x ∷ xs) ≡ big_from 0 (suc n) (y ∷ ys) → (r : Ordering) → MatchOrdering r (x < y) (x ≡ y) (y < x) → x ≡ y
same_first n x y xs ys a b e Less m = absurd (outweighs n y x ys xs (behind x xs a) m (omega (arith, e)))
same_first n x y xs ys a b e Equal m = m
same_first n x y xs ys a b e Greater m = absurd (outweighs n x y xs ys (behind y ys b) m (omega (arith, e)))

same_behind : (n x y : ℕ) (xs ys : List ℕ) → x ≡ y → big_from 0 (suc n) (x ∷ xs) ≡ big_from 0 (suc n) (y ∷ ys) → big_from 0 n xs ≡ big_from 0 n ys
same_behind n x y xs ys e same =
    let f = front n x xs in
    let g = front n y ys ∙ ap (λ z. z * 256 ^ n + big_from 0 n ys) (sym e) in
    omega (arith, f, g, same)

longer : (r : Ordering) (a b : ℕ) → MatchOrdering r (a < b) (a ≡ b) (b < a) → MatchOrdering r (suc a < suc b) (suc a ≡ suc b) (suc b < suc a)
longer Less a b m = omega (arith, m)
longer Equal a b m = omega (arith, m)
longer Greater a b m = omega (arith, m)

by_length : (n : ℕ) (xs ys : List ℕ) → AreBytes xs → AreBytes ys → length xs ≤ n → length ys ≤ n → big_from 0 n xs ≡ big_from 0 n ys →
    MatchOrdering (slice_cmp nat_cmp xs ys) (length xs < length ys) (length xs ≡ length ys) (length ys < length xs)
by_length n [] [] a b l m e = refl
by_length n [] (y ∷ ys) a b l m e = omega arith
by_length n (x ∷ xs) [] a b l m e = omega arith
by_length zero (x ∷ xs) (y ∷ ys) a b l m e = absurd (omega (arith, l))
by_length (suc n) (x ∷ xs) (y ∷ ys) a b l m e =
    let same = same_first n x y xs ys a b e (nat_cmp x y) (ranked x y (nat_cmp x y) refl) in
    let tied : nat_cmp x y ≡ Equal = ap (nat_cmp x) (sym same) ∙ tied_itself nat_cmp_total x in
    let rest = by_length n xs ys (behind x xs a) (behind y ys b) (omega (arith, l)) (omega (arith, m)) (same_behind n x y xs ys same e) in
    let P : Ordering → Type 0 = λ r. MatchOrdering (ordering_then r (slice_cmp nat_cmp xs ys)) (suc (length xs) < suc (length ys)) (suc (length xs) ≡ suc (length ys)) (suc (length ys) < suc (length xs)) in
    subst P (sym tied) (longer (slice_cmp nat_cmp xs ys) (length xs) (length ys) rest)

pub same_head : (h k : ℕ) (xs ys : List ℕ) → h ≡ big_number 8 xs → k ≡ big_number 8 ys → AreBytes xs → AreBytes ys → h ≡ k → length xs ≤ 8 → length ys ≤ 8 → nat_cmp (length xs) (length ys) ≡ slice_cmp nat_cmp xs ys
same_head h k xs ys e f a b same l m = sym (nat_cmp_is (length xs) (length ys) (slice_cmp nat_cmp xs ys) (by_length 8 xs ys a b l m (sym e ∙ same ∙ f)))

-- strings whose first bytes are one number are compared as those after them are
same_then_less : (n m : ℕ) (xs ys : List ℕ) → AreBytes xs → AreBytes ys → big_from 0 n xs ≡ big_from 0 n ys → big_from 0 m (drop n xs) < big_from 0 m (drop n ys) → slice_cmp nat_cmp xs ys ≡ Less
same_then_less zero m xs ys a b e lt = less m xs ys a b lt
same_then_less (suc n) m [] [] a b e lt = absurd (omega (arith, lt))
same_then_less (suc n) m [] (y ∷ ys) a b e lt = refl
same_then_less (suc n) m (x ∷ xs) [] a b e lt = absurd (omega (arith, lt, none 0 m))
same_then_less (suc n) m (x ∷ xs) (y ∷ ys) a b e lt =
    let same = same_first n x y xs ys a b e (nat_cmp x y) (ranked x y (nat_cmp x y) refl) in
    let tied : nat_cmp x y ≡ Equal = ap (nat_cmp x) (sym same) ∙ tied_itself nat_cmp_total x in
    ap (λ r. ordering_then r (slice_cmp nat_cmp xs ys)) tied ∙ same_then_less n m xs ys (behind x xs a) (behind y ys b) (same_behind n x y xs ys same e) lt

pub less_next : (h k i j : ℕ) (xs ys : List ℕ) → AreHeads h i xs → AreHeads k j ys → h ≡ k → i < j → Less ≡ slice_cmp nat_cmp xs ys
less_next h k i j xs ys a b e lt =
    sym (same_then_less 8 8 xs ys a.first.bytes b.first.bytes (sym a.first.is ∙ e ∙ b.first.is) (omega (arith, a.second, b.second, lt)))

pub greater_next : (h k i j : ℕ) (xs ys : List ℕ) → AreHeads h i xs → AreHeads k j ys → h ≡ k → j < i → Greater ≡ slice_cmp nat_cmp xs ys
greater_next h k i j xs ys a b e lt =
    ap ordering_reverse (less_next k h j i ys xs b a (sym e) lt) ∙ sym (nat_list_cmp_total.antisymm xs ys)
