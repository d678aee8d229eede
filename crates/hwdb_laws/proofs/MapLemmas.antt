-- Maps that are made of lists, as lists that compute: what their entries are, and the changes between two of them.
use Rattle.std.proofs.Common.{◌≡◌, ◌∙◌, ap, arith, refl, sym}
use Rattle.std.specs.FinMap as finite
use Rattle.std.specs.FinMap.Entries.{find, put}
use Rattle.std.specs.Prelude.{◌++◌, ◌∷◌, List, [], flat_map, length, map, ℕ}
use Rattle.hwdb_spec.specs.Assignment.{Assignment}
use Rattle.hwdb_spec_commands.specs.Differences.{Change, change_at, differences, places}
use Rattle.hwdb_spec.specs.Lemmas.Places.{place_total}
use Rattle.hwdb_spec.specs.Tree.{place_cmp}

abbrev pub Entry : Type 0
Entry = (List ℕ × List ℕ) × Assignment

-- the entries of a map that is made of a list: each is put in its place
abbrev pub built : List Entry → List Entry
built [] = []
built (e ∷ es) = put place_cmp e.0 e.1 (built es)

no_length : (es : List Entry) → length es ≡ 0 → es ≡ []
no_length [] e = refl
no_length (x ∷ es) e = absurd (omega arith)

no_entries : finite.entries (finite.empty {X = Assignment} {R = place_cmp}) ≡ []
no_entries = no_length _ (sym (finite.len-entries finite.empty) ∙ finite.len-empty place_cmp Assignment)

pub entries_built : (es : List Entry) → finite.entries (finite.from_entries {R = place_cmp} es) ≡ built es
entries_built [] = no_entries
entries_built (e ∷ es) = finite.entries-insert place_total (finite.from_entries es) e.0 e.1 ∙ ap (put place_cmp e.0 e.1) (entries_built es)

-- the places of two maps
abbrev pub places_listed : (xs ys : List Entry) → List (List ℕ × List ℕ)
places_listed xs ys = map (λ e. e.0) (built (xs ++ ys))

pub places_built : (xs ys : List Entry) → places (finite.from_entries xs) (finite.from_entries ys) ≡ places_listed (built xs) (built ys)
places_built xs ys =
    ap (λ (es : List Entry). map (λ e. e.0) es)
    (entries_built (finite.entries (finite.from_entries {R = place_cmp} xs) ++ finite.entries (finite.from_entries {R = place_cmp} ys))
    ∙ (λ i. built (entries_built xs i ++ entries_built ys i)))

-- the changes between two maps
abbrev pub changes_listed : (xs ys : List Entry) → List Change
changes_listed xs ys = flat_map (λ p. change_at (find place_cmp p xs) (find place_cmp p ys)) (places_listed xs ys)

pub differences_built : (xs ys : List Entry) → differences (finite.from_entries xs) (finite.from_entries ys) ≡ changes_listed (built xs) (built ys)
unfolding differences
differences_built xs ys i =
    flat_map (λ p. change_at
    ((finite.get-entries (finite.from_entries {R = place_cmp} xs) p ∙ ap (find place_cmp p) (entries_built xs)) i)
    ((finite.get-entries (finite.from_entries {R = place_cmp} ys) p ∙ ap (find place_cmp p) (entries_built ys)) i))
    (places_built xs ys i)
