-- What inner functions speak of.
use Rattle.std.specs.Prelude.{ℕ, List, [], ◌∷◌, if◌then◌else◌, ◌==◌, slice_index, take}
use Rattle.hwdb_spec.specs.Lines.{byte}

-- the folder that ends before a place of a path, if a slash is there
abbrev pub folder_before : (path : List ℕ) → (end : ℕ) → List (List ℕ)
folder_before path end = if slice_index path end == byte "/" then take end path ∷ [] else []
