-- The lengths of a device's prefixes that tokens match, as the code goes from one token to the next.
use Rattle.std.specs.Prelude.{All, Bool, false, true, slice_index, slice_index_or, ◌≡◌, List, length, ℕ, ◌≤◌, ◌++◌, drop, filter, map, ◌+◌, Contains, ◌<◌}
use Rattle.hwdb_pattern.specs.Views.{Lengths, takes}
use Rattle.hwdb_spec.specs.Patterns.{Token, admits_byte, token_at, token_size, tokens}

-- every length is one of a prefix of the device
abbrev pub Within : List ℕ → List ℕ → Type 0
Within device lengths = All (λ n. n ≤ length device) lengths

-- whatever tokens led to the lengths before, those and then these tokens lead to the lengths after
pub record Follows (more : List Token) (device before after : List ℕ) : Type 0 where
  pub lengths : (ts : List Token) → Lengths ts device before → Lengths (ts ++ more) device after

-- the tokens before a place of the text are followed
pub record Along (device before after text : List ℕ) (at : ℕ) : Type 0 where
  pub done : List Token
  pub cut : tokens text ≡ done ++ tokens (drop at text)
  pub follows : Follows done device before after

-- the lengths after one more token that isn't a star: those whose next byte it takes, one further
pub record Steps (t : Token) (device before after : List ℕ) : Type 0 where
  pub from : (n : ℕ) → Contains after n → (m : ℕ) × (n ≡ m + 1) × Contains before m × (takes t device m ≡ true)
  pub into : (m : ℕ) → Contains before m → takes t device m ≡ true → Contains after (m + 1)

-- the lengths after a star: those from the least one on
pub record Spread (end : ℕ) (before after : List ℕ) : Type 0 where
  pub sound : (n : ℕ) → Contains after n → (n ≤ end) × (m : ℕ) × (m ≤ n) × Contains before m
  pub complete : (n m : ℕ) → n ≤ end → m ≤ n → Contains before m → Contains after n

-- the lengths after the first token of a text
pub record IsAfter (device before after text : List ℕ) : Type 0 where
  pub star : slice_index text 0 ≡ 42 → Spread (length device) before after
  pub token : (slice_index text 0 ≡ 42 → ⊥) → Steps (token_at text) device before after

-- so many bytes of a text are its first token, or the run of stars that it begins with
pub record IsRun (text : List ℕ) (size : ℕ) : Type 0 where
  pub stars : slice_index text 0 ≡ 42 → (k : ℕ) → k < size → slice_index text k ≡ 42
  pub token : (slice_index text 0 ≡ 42 → ⊥) → size ≡ token_size (token_at text)

-- the lengths after one more token that isn't a star
abbrev pub stepped : Token → List ℕ → List ℕ → List ℕ
stepped t device lengths = map (λ n. n + 1) (filter (takes t device) lengths)

-- the first members of a table say whether the token admits these bytes
abbrev pub AreAdmitted : Token → List Bool → ℕ → Type 0
AreAdmitted t table n = (b : ℕ) → b < n → slice_index_or table b false ≡ admits_byte t b

-- the numbers are those from the least on, below `end`
pub record Between (least end : ℕ) (numbers : List ℕ) : Type 0 where
  pub sound : (m : ℕ) → Contains numbers m → (least ≤ m) × (m < end)
  pub complete : (m : ℕ) → least ≤ m → m < end → Contains numbers m
