-- The text files that given paths mean.
use Rattle.std.proofs.Common.{◌≡◌, ◌<◌, ◌∙◌, ◌++◌, ◌==◌, ◌&&◌, ap, sym, refl, arith, eqb-true, ℕ, zero, suc, Bool, true, false, List, [], ◌∷◌, length, map, get_or, if◌then◌else◌}
use Rattle.std.specs.Prelude.{nat_eq}
use Rattle.hwdb_spec_commands.specs.CheckedFiles.{folder_of}
use Rattle.hwdb_spec.specs.Folders.{Choice}
use Rattle.hwdb_spec_commands.specs.Given.{any_dash, is_dash}
use Rattle.hwdb_spec.specs.Store.{path_in}
use Rattle.hwdb_spec.specs.Lemmas.Truth.{neither_or, or_neither}

-- ---- the folder that a path names
pub with_slash : (path : List ℕ) → folder_of (path ++ 47 ∷ []) ≡ path
unfolding folder_of
with_slash [] = refl
with_slash (b ∷ []) = refl
with_slash (b ∷ c ∷ more) = ap (λ (l : List ℕ). b ∷ l) (with_slash (c ∷ more))

no_slash : (path : List ℕ) → ((front : List ℕ) → path ≡ front ++ 47 ∷ [] → ⊥) → folder_of path ≡ path
unfolding folder_of
no_slash [] not = refl
no_slash (b ∷ []) not = by (b == 47) refl
  where
    by : (c : Bool) → (b == 47) ≡ c → (if c then [] else b ∷ []) ≡ b ∷ []
    by true e = absurd (not [] (ap (λ (x : ℕ). x ∷ []) (eqb-true b 47 e)))
    by false e = refl
no_slash (b ∷ c ∷ more) not = ap (λ (l : List ℕ). b ∷ l) (no_slash (c ∷ more) (λ front e. not (b ∷ front) (ap (λ (l : List ℕ). b ∷ l) e)))

pub cut_slash : (path folder : List ℕ) → path ≡ folder ++ 47 ∷ [] → folder ≡ folder_of path
cut_slash path folder is = sym (ap folder_of is ∙ with_slash folder)

pub kept_whole : (path : List ℕ) → ((front : List ℕ) → path ≡ front ++ 47 ∷ [] → ⊥) → path ≡ folder_of path
kept_whole path not = sym (no_slash path not)

and_none : (a : Bool) → (a && false) ≡ false
and_none true = refl
and_none false = refl

pub none_more : (xs ys : List (List ℕ)) → any_dash xs ≡ false → any_dash ys ≡ false → any_dash (xs ++ ys) ≡ false
none_more [] ys a b = b
none_more (x ∷ xs) ys a b =
    let parts = or_neither (is_dash x) (any_dash xs) a in
    neither_or (is_dash x) (any_dash (xs ++ ys)) parts.0 (none_more xs ys parts.1 b)

pub member_plain : {X : Type 0} (f : X → List ℕ) (xs : List X) (i : ℕ) (x : X) → x ≡ get_or xs i x → i < length xs → any_dash (map f xs) ≡ false → is_dash (f x) ≡ false
member_plain f [] i x is lt none = absurd (omega (arith, lt))
member_plain f (y ∷ more) zero x is lt none = ap (λ p. is_dash (f p)) is ∙ (or_neither (is_dash (f y)) (any_dash (map f more)) none).0
member_plain f (y ∷ more) (suc i) x is lt none = member_plain f more i x is (omega (arith, lt)) (or_neither (is_dash (f y)) (any_dash (map f more)) none).1

slash_plain : (folder name : List ℕ) → is_dash (path_in folder name) ≡ false
slash_plain [] name = refl
slash_plain (b ∷ []) name = and_none (nat_eq b 45)
slash_plain (b ∷ c ∷ more) name = and_none (nat_eq b 45)

paths_plain : (folder : List ℕ) (cs : List Choice) → any_dash (map (λ (c : Choice). path_in folder c.name) cs) ≡ false
paths_plain folder [] = refl
paths_plain folder (c ∷ cs) = neither_or (is_dash (path_in folder c.name)) (any_dash (map (λ (c : Choice). path_in folder c.name) cs)) (slash_plain folder c.name) (paths_plain folder cs)

pub folder_plain : (folder : List ℕ) (cs : List Choice) (own : List (List ℕ)) → own ≡ map (λ (c : Choice). path_in folder c.name) cs → any_dash own ≡ false
folder_plain folder cs own is = ap any_dash is ∙ paths_plain folder cs
