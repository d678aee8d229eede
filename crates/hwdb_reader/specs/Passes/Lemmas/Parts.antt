-- What a part says of the file that it is of.
use Rattle.std.proofs.Common.{◌≡◌, ◌≤◌, ◌<◌, ℕ, zero, suc, ◌+◌, ◌*◌, List, [], ◌∷◌, length, take, drop, slice_index, Bool, true, false, not, cond, ◌==◌, refl, sym, ◌∙◌, ap, arith}
use Rattle.std.proofs.lemmas.List.{get_or-drop, length-drop}
use Rattle.std.proofs.lemmas.List.Sums.{take_while-cons}
use Rattle.std.specs.List.{take_while}
use Rattle.byteorder.specs.Endian.{little_from}
use Rattle.hwdb_spec.specs.declared.Layout.{Layout}
use Rattle.hwdb_spec.specs.Format.{number_at, text_at, record_end, children_count, values_count, prefix_off}
use Rattle.hwdb_reader.specs.Passes.Views.{IsPart}

pub slice_index_drop : (xs : List ℕ) (i j : ℕ) → slice_index (drop i xs) j ≡ slice_index xs (i + j)
slice_index_drop xs i j = get_or-drop i xs j 0

same_from : (xs ys : List ℕ) (k n : ℕ) → ((j : ℕ) → k ≤ j → j < k + n → slice_index xs j ≡ slice_index ys j) → little_from k n xs ≡ little_from k n ys
same_from xs ys k zero same = refl
same_from xs ys k (suc n) same =
    let here = same k (omega arith) (omega arith) in
    let rest = same_from xs ys (suc k) n (λ j above below. same j (omega (arith, above)) (omega (arith, below))) in
    omega (arith, here, rest)

-- the byte i of the part is the file's byte j
pub byte_is : (file part : List ℕ) (at i j : ℕ) → IsPart file at part → i < length part → at + i ≡ j → slice_index part i ≡ slice_index file j
byte_is file part at i j p lt is = p.same i lt ∙ ap (slice_index file) is

-- so it is with a number
pub number_is : (file part : List ℕ) (at n i j : ℕ) → IsPart file at part → i + n ≤ length part → at + i ≡ j → number_at n i part ≡ number_at n j file
unfolding number_at
number_is file part at n i j p room is =
    same_from (drop i part) (drop j file) 0 n
    (λ k above below.
    slice_index_drop part i k ∙ byte_is file part at (i + k) (j + k) p (omega (arith, below, room)) (omega (arith, is)) ∙ sym (slice_index_drop file j k))

-- what a record says of itself
module _ (l : Layout) (file part : List ℕ) (at off : ℕ) (p : IsPart file at part) (room : off + 24 ≤ length part) where
  pub children_there : children_count part off ≡ children_count file (at + off)
  children_there = byte_is file part at (off + 8) (at + off + 8) p (omega (arith, room)) (omega arith)

  pub values_there : values_count part off ≡ values_count file (at + off)
  values_there = number_is file part at 8 (off + 16) (at + off + 16) p (omega (arith, room)) (omega arith)

  pub prefix_there : prefix_off part off ≡ prefix_off file (at + off)
  prefix_there = number_is file part at 8 off (at + off) p (omega (arith, room)) (omega arith)

  ends : (a b : ℕ) → at + (off + l.node_size + l.child_size * a + l.value_size * b) ≡ at + off + l.node_size + l.child_size * a + l.value_size * b
  ends a b = omega arith

  pub end_there : at + record_end l part off ≡ record_end l file (at + off)
  unfolding record_end
  end_there =
      ends (children_count part off) (values_count part off)
      ∙ ap (λ n. at + off + l.node_size + l.child_size * n + l.value_size * values_count part off) children_there
      ∙ ap (λ n. at + off + l.node_size + l.child_size * children_count file (at + off) + l.value_size * n) values_there

-- ---- strings

part_step : (p : ℕ → Bool) (n x : ℕ) (xs : List ℕ) (y : ℕ) (ys : List ℕ) → x ≡ y → take n (take_while p xs) ≡ take n (take_while p ys) → (t : Bool) → p x ≡ t
    → take (suc n) (take_while p (x ∷ xs)) ≡ take (suc n) (take_while p (y ∷ ys))
part_step p n x xs y ys first rest true is =
    let here : take_while p (x ∷ xs) ≡ x ∷ take_while p xs = take_while-cons p x xs ∙ ap (λ t. cond t (x ∷ take_while p xs) []) is in
    let there : take_while p (y ∷ ys) ≡ y ∷ take_while p ys = take_while-cons p y ys ∙ ap (λ t. cond t (y ∷ take_while p ys) []) (sym (ap p first) ∙ is) in
    ap (take (suc n)) here ∙ ap (λ (more : List ℕ). x ∷ more) rest ∙ ap (λ z. z ∷ take n (take_while p ys)) first ∙ sym (ap (take (suc n)) there)
part_step p n x xs y ys first rest false is =
    let here : take_while p (x ∷ xs) ≡ [] = take_while-cons p x xs ∙ ap (λ t. cond t (x ∷ take_while p xs) []) is in
    let there : take_while p (y ∷ ys) ≡ [] = take_while-cons p y ys ∙ ap (λ t. cond t (y ∷ take_while p ys) []) (sym (ap p first) ∙ is) in
    ap (take (suc n)) (here ∙ sym there)

part_same : (p : ℕ → Bool) (n : ℕ) (xs ys : List ℕ) → length xs ≡ length ys → ((j : ℕ) → j < length xs → slice_index xs j ≡ slice_index ys j) → take n (take_while p xs) ≡ take n (take_while p ys)
part_same p zero xs ys size same = refl
part_same p (suc n) [] [] size same = refl
part_same p (suc n) [] (y ∷ ys) size same = absurd (omega (arith, size))
part_same p (suc n) (x ∷ xs) [] size same = absurd (omega (arith, size))
part_same p (suc n) (x ∷ xs) (y ∷ ys) size same =
    part_step p n x xs y ys (same 0 (omega arith))
    (part_same p n xs ys (omega (arith, size)) (λ j lt. same (suc j) (omega (arith, lt)))) (p x) refl

-- lists that agree are one
pub same_lists : (xs ys : List ℕ) → length xs ≡ length ys → ((j : ℕ) → j < length xs → slice_index xs j ≡ slice_index ys j) → xs ≡ ys
same_lists [] [] size same = refl
same_lists [] (y ∷ ys) size same = absurd (omega (arith, size))
same_lists (x ∷ xs) [] size same = absurd (omega (arith, size))
same_lists (x ∷ xs) (y ∷ ys) size same =
    let first : x ≡ y = same 0 (omega arith) in
    let rest = same_lists xs ys (omega (arith, size)) (λ j lt. same (suc j) (omega (arith, lt))) in
    ap (λ (more : List ℕ). x ∷ more) rest ∙ ap (λ z. z ∷ ys) first

-- a string of the part, up to the file's end, is the file's
pub text_is : (file part : List ℕ) (at i j : ℕ) → IsPart file at part → at + length part ≡ length file → at + i ≡ j → text_at part i ≡ text_at file j
unfolding text_at
text_is file part at i j p whole is =
    let here = length-drop i part in
    let there = length-drop j file in
    ap (take_while (λ x. not (x == 0)))
    (same_lists (drop i part) (drop j file) (omega (arith, here, there, whole, is))
    (λ k lt. slice_index_drop part i k ∙ byte_is file part at (i + k) (j + k) p (omega (arith, lt, here)) (omega (arith, is)) ∙ sym (slice_index_drop file j k)))

-- the front of a string of the part is that of the file's
pub front_is : (file part : List ℕ) (at i j most : ℕ) → IsPart file at part → at + length part ≡ length file → at + i ≡ j → take most (text_at part i) ≡ take most (text_at file j)
unfolding text_at
front_is file part at i j most p whole is =
    let here = length-drop i part in
    let there = length-drop j file in
    part_same (λ x. not (x == 0)) most (drop i part) (drop j file) (omega (arith, here, there, whole, is))
    (λ k lt. slice_index_drop part i k ∙ byte_is file part at (i + k) (j + k) p (omega (arith, lt, here)) (omega (arith, is)) ∙ sym (slice_index_drop file j k))
