-- The nearest of several lists of names.
use Rattle.std.proofs.Common.{◌≡◌, ℕ, List, [], ◌∷◌, ◌++◌, refl}
use Rattle.hwdb_spec_commands.specs.DeviceTree.{nearer, nearest_of}

-- one list after another
pub nearest_after : (wanted before : List ℕ) (names more : List (List ℕ)) → nearest_of wanted before (names ++ more) ≡ nearest_of wanted (nearest_of wanted before names) more
unfolding nearest_of
nearest_after wanted before [] more = refl
nearest_after wanted before (name ∷ names) more = nearest_after wanted (nearer wanted before name) names more
