-- What it means that a path stays below a root: no name in it goes back, and none is empty. Names are those of
-- path_resolution(7), where `.` is the folder itself and `..` the one above.
use Rattle.std.specs.Prelude.{◌≡◌, ◌≢◌, ℕ, false, List, [], ◌∷◌, ◌++◌, All, codes, flat_map}
use Rattle.hwdb_spec.specs.Lines.{byte, has}

-- a name that leads from a folder into it: it isn't empty, has no slash (byte 47), and is neither `.` nor `..`
pub record IsName (name : List ℕ) : Type 0 where
  pub some : name ≢ []
  pub plain : has 47 name ≡ false
  pub other : name ≢ codes "."
  pub inward : name ≢ codes ".."

-- the path of some names below a root
abbrev pub below : (root : List ℕ) → (names : List (List ℕ)) → List ℕ
below root names = root ++ flat_map (λ (name : List ℕ). byte "/" ∷ name) names

-- the path is that of some names below a root, each of which leads inward
abbrev pub IsBelow : (root path : List ℕ) → Type 0
IsBelow root path = (names : List (List ℕ)) × All IsName names × (path ≡ below root names)
