-- The least of some members, kept one after another.
use Rattle.std.specs.Prelude.{List, [], take, ℕ, ◌∷◌}
use Rattle.std.specs.declared.cmp.Ordering.{Ordering}
use Rattle.hwdb_spec.specs.Assignment.{put}

-- one after another put in their places, and each time no more than `most` kept
unfoldable pub keep_all : {A : Type 0} → (A → A → Ordering) → ℕ → List A → List A → List A
keep_all cmp most [] kept = kept
keep_all cmp most (x ∷ xs) kept = keep_all cmp most xs (take most (put cmp x kept))
