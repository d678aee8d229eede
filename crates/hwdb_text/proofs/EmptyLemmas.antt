-- An empty file assigns nothing.
use Rattle.std.proofs.Common.{◌≡◌, ℕ, List, [], ◌∷◌, map, refl, ap, ◌∙◌}
use Rattle.hwdb_spec.specs.Lines.{pieces, numbered}
use Rattle.hwdb_spec.specs.Records.{Origin, assignments}
use Rattle.hwdb_spec.specs.Assignment.{Assignment}

nothing_assigned : (o : Origin) → assignments o [] ≡ []
unfolding pieces numbered
nothing_assigned o = refl

none_from : {X Y : Type 0} (f : X → Y) (xs : List X) → map f xs ≡ [] → xs ≡ []
none_from f [] e = refl
none_from f (x ∷ xs) e = cc

pub nothing_given : {X : Type 0} (o : Origin) (f : X → Assignment) (xs : List X) (bytes : List ℕ) → map f xs ≡ assignments o bytes → bytes ≡ [] → xs ≡ []
nothing_given o f xs bytes e n = none_from f xs (e ∙ ap (assignments o) n ∙ nothing_assigned o)
