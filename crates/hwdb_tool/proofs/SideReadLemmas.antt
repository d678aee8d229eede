-- What a side of `diff` is, by what was read of it.
use Rattle.std.proofs.Common.{◌≡◌, ◌==◌, ◌<◌, ◌∙◌, ◌++◌, ◌∷◌, ◌||◌, [], if◌then◌else◌, ap, arith, eqb-true, zero, suc, sym, refl, ℕ, Bool, true, false, List, length, Some}
use Rattle.std.specs.Borrow.{Bor}
use Rattle.std.specs.Prelude.{IfNone, MatchOption, None, Option, slice_index, ◌≢◌}
use Rattle.hwdb_spec.specs.Lines.{byte, has}
use Rattle.hwdb_spec_commands.specs.Sides.{file_name}

-- ---- the last name of a path
later : (b : ℕ) (text : List ℕ) → has (byte "/") text ≡ true → has (byte "/") (b ∷ text) ≡ true
later b text more = ap (λ (h : Bool). (b == 47) || h) more ∙ or_true (b == 47)
  where
    or_true : (x : Bool) → (x || true) ≡ true
    or_true true = refl
    or_true false = refl

has_slash : (before after : List ℕ) → has (byte "/") (before ++ byte "/" ∷ after) ≡ true
has_slash [] after = refl
has_slash (b ∷ before) after = later b (before ++ byte "/" ∷ after) (has_slash before after)

-- it is that of what comes after a slash
pub name_after : (before after : List ℕ) → file_name (before ++ byte "/" ∷ after) ≡ file_name after
unfolding file_name
name_after [] after = refl
name_after (b ∷ before) after =
    ap (λ (h : Bool). if h then file_name (before ++ byte "/" ∷ after) else b ∷ (before ++ byte "/" ∷ after)) (has_slash (b ∷ before) after) ∙ name_after before after

-- and without a slash all of it
pub name_alone : (name : List ℕ) → has (byte "/") name ≡ false → file_name name ≡ name
unfolding file_name
name_alone [] plain = refl
name_alone (b ∷ more) plain = ap (λ (h : Bool). if h then file_name more else b ∷ more) plain

-- the first slash of a path that has one
abbrev NoSlash : List ℕ → Type 0
NoSlash xs = (i : ℕ) → i < length xs → slice_index xs i ≢ 47

abbrev FirstSlash : List ℕ → Type 0
FirstSlash path = (xs ys : List ℕ) × (path ≡ xs ++ 47 ∷ ys) × NoSlash xs

none_yet : NoSlash []
none_yet i lt = absurd (omega (arith, lt))

one_other : (b : ℕ) (xs : List ℕ) → (b ≡ 47 → ⊥) → NoSlash xs → NoSlash (b ∷ xs)
one_other b xs other all zero lt = other
one_other b xs other all (suc i) lt = all i (omega (arith, lt))

other_byte : (b : ℕ) → (b == 47) ≡ false → b ≡ 47 → ⊥
other_byte b no_slash is = let e : true ≡ false = sym (ap (λ (x : ℕ). x == 47) is) ∙ no_slash in absurd cc

first_slash : (path : List ℕ) → has (byte "/") path ≡ true → FirstSlash path
first_slash [] some = absurd cc
first_slash (b ∷ more) some =
    elim (b == 47) as (λ t. (b == 47) ≡ t → (t || has (byte "/") more) ≡ true → FirstSlash (b ∷ more)) [
      | true ↦ λ is found. ([], more, ap (λ (x : ℕ). x ∷ more) (eqb-true b 47 is), none_yet)
      | false ↦ λ is found.
          let rest = first_slash more found in
          (b ∷ rest.0, rest.1, ap (λ (l : List ℕ). b ∷ l) rest.2, one_other b rest.0 (other_byte b is) rest.3)
    ] refl some

-- if it can't be cut at one, it has none
pub no_slash : (path : List ℕ) (r : Option (Bor (List ℕ) × Bor (List ℕ)))
    → ((xs ys : List ℕ) → path ≡ xs ++ 47 ∷ ys → ((i : ℕ) → i < length xs → slice_index xs i ≢ 47) → MatchOption r ⊥ (λ x. (x.0.now ≡ xs) × (x.1.now ≡ ys))) → IfNone r (has 47 path ≡ false)
no_slash path (Some parts) found = tt
no_slash path None found = by (has 47 path) refl
  where
    by : (b : Bool) → has 47 path ≡ b → b ≡ false
    by false is = refl
    by true is = let first = first_slash path is in absurd (found first.0 first.1 first.2 first.3)
