-- Warnings, line by line.
use Rattle.std.proofs.Common.{◌≡◌, ℕ, suc, ◌+◌, List, [], ◌∷◌, ◌++◌, ◌||◌, length, ap, ◌∙◌, sym, refl, arith, append_assoc, Bool, true, false, cond, nat_lt, not, filter}
use Rattle.std.specs.Prelude.{flat_map}
use Rattle.std.specs.List.{list_any, position_or_len}
use Rattle.std.proofs.lemmas.Bool.Decides.{nat_tests}
use Rattle.std.proofs.lemmas.Grind.{flat_map-append}
use Rattle.hwdb_spec.specs.Lines.{Line}
use Rattle.hwdb_spec_commands.specs.Kinds.{is_told}
use Rattle.hwdb_spec_commands.specs.Warnings.{all_warnings, gets, line_kinds, warns}
use Rattle.hwdb_spec_commands.specs.declared.WarningKind.{WarningKind}

-- one warning more, and those after it
pub text_step : (f : WarningKind → List ℕ) (before after : List ℕ) (one more : List WarningKind) → after ≡ before ++ flat_map f one
    → after ++ flat_map f more ≡ before ++ flat_map f (one ++ more)
text_step f before after one more e =
    ap (λ l. l ++ flat_map f more) e ∙ append_assoc before (flat_map f one) (flat_map f more) ∙ ap (λ l. before ++ l) (sym (flat_map-append f one more))

pub found_step : (before after one more : List WarningKind) → after ≡ before ++ one → after ++ more ≡ before ++ (one ++ more)
found_step before after one more e = ap (λ l. l ++ more) e ∙ append_assoc before one more

lt_suc : (n m : ℕ) → nat_lt (1 + n) (suc m) ≡ nat_lt n m
lt_suc n m = grind (arith, nat_tests)

lt_some : (m : ℕ) → nat_lt 0 (suc m) ≡ true
lt_some m = grind (arith, nat_tests)

-- whether a byte is found
pub some_found : (p : ℕ → Bool) (xs : List ℕ) → nat_lt (position_or_len p xs) (length xs) ≡ list_any p xs
some_found p [] = refl
some_found p (x ∷ xs) =
    elim (p x) as (λ b. nat_lt (cond (not b) (1 + position_or_len p xs) 0) (suc (length xs)) ≡ (b || list_any p xs)) [
      | true ↦ lt_some (length xs)
      | false ↦ lt_suc (position_or_len p xs) (length xs) ∙ some_found p xs
    ]

-- no warning of a line that gets none of some kinds
silent : (told b : Bool) → b ≡ false → cond told b false ≡ false
silent true b e = e
silent false b e = refl

-- none of these kinds is a warning of the line
abbrev pub AreSilent : (file : List ℕ) (line clean : Line) → List WarningKind → Type 0
AreSilent file line clean [] = Unit {0}
AreSilent file line clean (k ∷ ks) = (warns file k line clean ≡ false) × AreSilent file line clean ks

none_of : (allowed : List (List ℕ)) (file : List ℕ) (line clean : Line) (ks : List WarningKind) → AreSilent file line clean ks → filter (gets allowed file line clean) ks ≡ []
none_of allowed file line clean [] h = refl
none_of allowed file line clean (k ∷ ks) h =
    ap (λ (b : Bool). cond b (k ∷ filter (gets allowed file line clean) ks) (filter (gets allowed file line clean) ks)) (silent (is_told allowed k) (warns file k line clean) h.0)
    ∙ none_of allowed file line clean ks h.1

pub none_warned : (allowed : List (List ℕ)) (file : List ℕ) (line clean : Line) → AreSilent file line clean (line_kinds file clean) → all_warnings allowed file line clean ≡ []
none_warned allowed file line clean h = none_of allowed file line clean (line_kinds file clean) h
