-- The values that count are the effective list.
use Rattle.std.proofs.Common.{◌≡◌, ◌≢◌, ℕ, List, [], ◌∷◌, map, take, refl, ap, ◌∙◌}
use Rattle.std.specs.Prelude.{flat_map}
use Rattle.std.specs.List.{AllByRecursion}
use Rattle.std.proofs.lemmas.List.Elements.{recursion_from_All}
use Rattle.hwdb_spec.specs.Answers.{effective_of}
use Rattle.hwdb_spec.specs.Assignment.{Assignment}
use Rattle.hwdb_spec.specs.Explanations.{explained}
use Rattle.hwdb_query.specs.Laws.{AllAreExplained, ExplainedAreEffective, first_value}
use Rattle.hwdb_spec_commands.specs.Wanted.{counting, given_of}
use Rattle.hwdb_test.specs.Views.{given_at, pair_at, pair_of}
use Rattle.hwdb_test.specs.declared.given_values.GivenValue.{GivenValue as Found}

-- of each key the first value
pairs : (es : List (List ℕ × List Assignment)) → AllByRecursion (λ p. p.1 ≢ []) es
    → map pair_of (flat_map (λ p. map (given_of p.0) (take 1 p.1)) es) ≡ map (λ p. (p.0, first_value p.1)) es
pairs [] h = refl
pairs ((key, []) ∷ es) h = absurd (h.0 refl)
pairs ((key, f ∷ more) ∷ es) h = ap (λ (l : List (List ℕ × List ℕ)). (key, f.value) ∷ l) (pairs es h.1)

pairs_of : (found : List Found) → map pair_at found ≡ map pair_of (map given_at found)
pairs_of [] = refl
pairs_of (g ∷ more) = ap (λ (l : List (List ℕ × List ℕ)). pair_at g ∷ l) (pairs_of more)

pub counting_are_effective : ExplainedAreEffective → AllAreExplained → (answers : List Assignment) → map pair_of (counting answers) ≡ effective_of answers
counting_are_effective are all answers = pairs (explained answers) (recursion_from_All (λ p. p.1 ≢ []) (explained answers) (all answers)) ∙ are answers

pub found_are_effective : ExplainedAreEffective → AllAreExplained → (answers : List Assignment) (found : List Found) → map given_at found ≡ counting answers
    → map pair_at found ≡ effective_of answers
found_are_effective are all answers found is = pairs_of found ∙ ap (map pair_of) is ∙ counting_are_effective are all answers
