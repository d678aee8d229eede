-- A side of `diff` that is standard input: a database that has what is told of it.
use Rattle.std.proofs.Common.{◌≡◌, ◌⊎◌, ◌∷◌, ◌&&◌, ◌||◌, inl, inr, refl, ℕ, Bool, true, false, List}
use Rattle.hwdb_spec_commands.specs.Given.{any_dash, is_dash}
use Rattle.hwdb_spec_program.specs.GivenDatabases.{names_twice}
use Rattle.hwdb_tool.specs.SideSteps.{IsOneDash}

-- ---- standard input is read once
either : (a b d : Bool) → ((a && b) || ((a || b) && d)) ≡ false → (a ≡ false) ⊎ (b ≡ false)
either true true d once = absurd cc
either true false d once = inr refl
either false b d once = inl refl

neither : (a b d : Bool) → ((a && b) || ((a || b) && d)) ≡ false → d ≡ true → (a ≡ false) × (b ≡ false)
neither true true d once is = absurd cc
neither true false true once is = absurd cc
neither true false false once is = absurd cc
neither false true true once is = absurd cc
neither false true false once is = absurd cc
neither false false d once is = (refl, refl)

pub one_dash : (given : List (List ℕ)) (old_path new_path : List ℕ) → names_twice given old_path new_path ≡ false → IsOneDash old_path new_path
one_dash given old_path new_path once = either (is_dash old_path) (is_dash new_path) (any_dash given) once

pub no_dash : (given : List (List ℕ)) (old_path new_path : List ℕ) → names_twice given old_path new_path ≡ false → any_dash given ≡ true → (is_dash old_path ≡ false) × (is_dash new_path ≡ false)
no_dash given old_path new_path once = neither (is_dash old_path) (is_dash new_path) (any_dash given) once

none_of : (a b d : Bool) → (a || (b || d)) ≡ false → (a ≡ false) × (b ≡ false) × (d ≡ false)
none_of true b d none = absurd cc
none_of false true d none = absurd cc
none_of false false true none = absurd cc
none_of false false false none = (refl, refl, refl)

pub none_named : (given : List (List ℕ)) (old_path new_path : List ℕ) → any_dash (old_path ∷ new_path ∷ given) ≡ false → (is_dash old_path ≡ false) × (is_dash new_path ≡ false) × (any_dash given ≡ false)
none_named given old_path new_path none = none_of (is_dash old_path) (is_dash new_path) (any_dash given) none
