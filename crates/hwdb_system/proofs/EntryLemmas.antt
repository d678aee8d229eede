-- A listing, name by name.
use Rattle.std.proofs.Common.{◌≡◌, ◌<◌, ◌≤◌, ◌+◌, ℕ, suc, Bool, true, false, List, [], ◌∷◌, ◌++◌, take, drop, length, filter, Contains, refl, sym, ap, ◌∙◌, subst, arith, append_assoc, append-nil}
use Rattle.std.specs.List.{position_or_len}
use Rattle.hwdb_spec.specs.Lines.{is, pieces}
use Rattle.hwdb_system.specs.Raw.{entries}
use Rattle.hwdb_text.specs.Lemmas.Pieces.{first_is, last_is}

-- the first name, and what comes after it
pub first_entry_is : (xs : List ℕ) (n : ℕ) → 0 < length xs → n ≡ position_or_len (is 0) xs → entries xs ≡ take n xs ∷ entries (drop (n + 1) xs)
first_entry_is xs n some at = first_is 0 xs n some at

-- one name more
one_more : (which : List ℕ → Bool) (b : Bool) (name : List ℕ) (rest : List (List ℕ)) → which name ≡ b → filter which (name ∷ []) ++ filter which rest ≡ filter which (name ∷ rest)
one_more which true name rest e = rw e refl
one_more which false name rest e = rw e refl

pub name_taken : (which : List ℕ → Bool) (done new : List (List ℕ)) (left all : List ℕ) (name rest : List ℕ) → done ++ filter which (entries left) ≡ filter which (entries all) → entries left ≡ name ∷ entries rest
    → new ≡ done ++ filter which (name ∷ []) → new ++ filter which (entries rest) ≡ filter which (entries all)
name_taken which done new left all name rest whole next is =
    ap (λ (l : List (List ℕ)). l ++ filter which (entries rest)) is ∙ append_assoc done (filter which (name ∷ [])) (filter which (entries rest))
    ∙ ap (λ (l : List (List ℕ)). done ++ l) (one_more which (which name) name (entries rest) refl) ∙ ap (λ (l : List (List ℕ)). done ++ filter which l) (sym next) ∙ whole

in_middle : (xs ys : List (List ℕ)) (y : List ℕ) → Contains (xs ++ y ∷ ys) y
in_middle [] ys y = (0, omega arith, refl)
in_middle (x ∷ xs) ys y = let rest = in_middle xs ys y in (suc rest.0, omega (arith, rest.1), rest.2)

kept_name : (which : List ℕ → Bool) (name : List ℕ) (rest : List (List ℕ)) → which name ≡ true → filter which (name ∷ rest) ≡ name ∷ filter which rest
kept_name which name rest e = rw e refl

-- a name that counts is one of all
pub is_one : (which : List ℕ → Bool) (done : List (List ℕ)) (left all : List ℕ) (name rest : List ℕ) → done ++ filter which (entries left) ≡ filter which (entries all) → entries left ≡ name ∷ entries rest → which name ≡ true
    → Contains (filter which (entries all)) name
is_one which done left all name rest whole next counted =
    subst (λ (l : List (List ℕ)). Contains l name) (ap (λ (l : List (List ℕ)). done ++ l) (sym (ap (filter which) next ∙ kept_name which name (entries rest) counted)) ∙ whole)
    (in_middle done (filter which (entries rest)) name)

-- the last name, if no byte 0 is after it
pub last_entry_is : (xs : List ℕ) (n : ℕ) → 0 < length xs → n ≡ position_or_len (is 0) xs → length xs ≤ n → entries xs ≡ xs ∷ entries []
last_entry_is xs n some is_at le = last_is 0 xs n some is_at le

-- all names
pub all_taken : (which : List ℕ → Bool) (done : List (List ℕ)) (left all : List ℕ) → done ++ filter which (entries left) ≡ filter which (entries all) → left ≡ [] → filter which (entries all) ≡ done
unfolding pieces
all_taken which done left all whole none = sym whole ∙ ap (λ (l : List ℕ). done ++ filter which (entries l)) none ∙ append-nil done
