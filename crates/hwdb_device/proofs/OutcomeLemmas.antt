-- The properties that a device has in the end.
use Rattle.std.proofs.Common.{◌≡◌, ◌∙◌, ◌==◌, ap, refl, ℕ, false, true≢false, List, [], ◌∷◌, ◌++◌, append_assoc, codes, length, map, Vec, Global}
use Rattle.std.specs.Prelude.{flat_map}
use Rattle.hwdb_spec.specs.Assignment.{in_order, text_cmp}
use Rattle.hwdb_spec_commands.specs.DeviceTexts.{Gift, given_to, key_of_gift, result_lines, results, results_text}
use Rattle.hwdb_device.specs.Views.{outcomes_in}
use Rattle.hwdb_device.specs.declared.outcomes.Outcome.{Outcome}

-- a key, and what it is given
abbrev given : List Gift → List ℕ → List ℕ × List Gift
given gifts key = (key, given_to key gifts)

keyed : (gifts : List Gift) (keys : List (Vec ℕ Global))
    → map (λ (k : Vec ℕ Global). given gifts k.items) keys ≡ map (given gifts) (map (λ (k : Vec ℕ Global). k.items) keys)
keyed gifts [] = refl
keyed gifts (k ∷ keys) = ap (λ l. given gifts k.items ∷ l) (keyed gifts keys)

-- before the first key is taken
pub before_all : (gifts : List Gift) (taken : List Outcome) (keys : List (Vec ℕ Global)) → taken ≡ []
    → map (λ (k : Vec ℕ Global). k.items) keys ≡ in_order text_cmp (map key_of_gift gifts)
    → outcomes_in taken ++ map (λ (k : Vec ℕ Global). given gifts k.items) keys ≡ results gifts
before_all gifts taken keys none order =
    ap (λ t. outcomes_in t ++ map (λ (k : Vec ℕ Global). given gifts k.items) keys) none
    ∙ keyed gifts keys ∙ ap (map (given gifts)) order

-- the heading is before what there is
pub headed : (text mid after : List ℕ) (outcomes : List Outcome) → (length outcomes == 0) ≡ false → mid ≡ text ++ codes "properties:\n"
    → after ≡ mid ++ flat_map result_lines (outcomes_in outcomes) → after ≡ text ++ results_text (outcomes_in outcomes)
headed text mid after [] some heading lines = absurd (true≢false some)
headed text mid after (o ∷ more) some heading lines =
    lines ∙ ap (λ l. l ++ flat_map result_lines (outcomes_in (o ∷ more))) heading
    ∙ append_assoc text (codes "properties:\n") (flat_map result_lines (outcomes_in (o ∷ more)))
