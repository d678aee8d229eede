-- A path that is read bit by bit.
use Rattle.std.specs.Prelude.{List, ℕ, [], ◌∷◌, ◌+◌, ◌≤◌, ◌≡◌, take, length}
use Rattle.hwdb_databases.specs.declared.abreast.Abreast.{Abreast}
use Rattle.hwdb_databases.specs.declared.spelling.Spelling.{Spelling}
use Rattle.hwdb_databases.specs.declared.trail.Segment.{Segment}
use Rattle.hwdb_databases.specs.Internal.Trails.{AreAlike, bytes_of, path_in}

-- these say how many bytes are before each of the first segments
abbrev pub AreFroms : ℕ → List ℕ → List Segment → Type 0
AreFroms n [] way = Unit {0}
AreFroms n (f ∷ froms) [] = ⊥
AreFroms n (f ∷ froms) (s ∷ way) = (f ≡ n) × AreFroms (n + length (bytes_of s)) froms way

-- these are the bytes of the first segments of a way
pub record IsSpelling (way : List Segment) (s : Spelling) : Type 0 where
  pub within : length s.froms.items ≤ length way
  pub bytes : s.bytes.items ≡ path_in (take (length s.froms.items) way)
  pub froms : AreFroms 0 s.froms.items way

-- what is known of two ways is so
pub record IsAbreast (old new : List Segment) (a : Abreast) : Type 0 where
  pub alike : AreAlike a.common old new
  pub old_read : IsSpelling old a.old_read
  pub new_read : IsSpelling new a.new_read
