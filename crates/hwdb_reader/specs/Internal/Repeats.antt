-- Bytes that occur twice. `at` gives the byte at a place.
use Rattle.std.specs.Prelude.{◌≡◌, ◌≤◌, ◌<◌, ◌+◌, ℕ, List, get_or, length}

-- as far as it lies in the stretch from s to e, each byte occurs again `gap` places after
abbrev pub HasPeriod : (ℕ → ℕ) → (s e gap : ℕ) → Type 0
HasPeriod at s e gap = (i : ℕ) → s ≤ i → i + gap < e → at i ≡ at (i + gap)

-- no byte of the stretch is 0
abbrev pub IsFull : (ℕ → ℕ) → (s e : ℕ) → Type 0
IsFull at s e = (i : ℕ) → s ≤ i → i < e → at i ≡ 0 → ⊥

-- the n bytes from x on are those from y on, and none of them is 0
abbrev pub Agree : List ℕ → (x y n : ℕ) → Type 0
Agree b x y n = (j : ℕ) → j < n → (get_or b (x + j) 0 ≡ get_or b (y + j) 0) × (get_or b (x + j) 0 ≡ 0 → ⊥)

-- from x and y on there are n bytes, which agree
pub record AgreeInside (b : List ℕ) (x y n : ℕ) : Type 0 where
  pub agree : Agree b x y n
  pub left : x + n ≤ length b
  pub right : y + n ≤ length b

-- the bytes at x and y differ, or are 0
abbrev pub Ends : List ℕ → (x y : ℕ) → Type 0
Ends b x y = get_or b x 0 ≡ get_or b y 0 → get_or b x 0 ≡ 0

-- the bytes from `first` to `end`, none of them 0, occur again `gap` places after
pub record IsRepeat (b : List ℕ) (first gap end : ℕ) : Type 0 where
  pub again : HasPeriod (λ i. get_or b i 0) first (end + gap) gap
  pub full : IsFull (λ i. get_or b i 0) first end
  pub inside : end + gap ≤ length b

-- so do those under each number of a table
abbrev pub AreRepeats : List ℕ → (first gap end : List ℕ) → Type 0
AreRepeats b first gap end = (k : ℕ) → IsRepeat b (get_or first k 0) (get_or gap k 0) (get_or end k 0)

-- The n bytes at p are those at x, and the n bytes at q are those at y. If x is y, none of them is 0.
pub record StandFor (b : List ℕ) (p q x y n : ℕ) : Type 0 where
  pub left : (j : ℕ) → j < n → get_or b (p + j) 0 ≡ get_or b (x + j) 0
  pub right : (j : ℕ) → j < n → get_or b (q + j) 0 ≡ get_or b (y + j) 0
  pub full : x ≡ y → (j : ℕ) → j < n → get_or b (x + j) 0 ≡ 0 → ⊥
  pub left_inside : x + n ≤ length b
  pub right_inside : y + n ≤ length b
  pub from_left : p + n ≤ length b
  pub from_right : q + n ≤ length b
  pub some : 0 < n
