-- The way from a database's root to a node.
use Rattle.std.specs.Prelude.{List, ℕ, true, Option, None, Some, [], ◌∷◌, ◌++◌, ◌+◌, ◌≤◌, ◌≡◌, zero, suc, take, length}
use Rattle.hwdb_reader.specs.Unread.{file_of, text_of}
use Rattle.hwdb_databases.specs.declared.trail.Segment.{Segment}
use Rattle.hwdb_databases.specs.declared.trail.Trail.{Trail}

-- the byte by which a node is reached, if it isn't the root
abbrev pub byte_in : Option ℕ → List ℕ
byte_in None = []
byte_in (Some b) = b ∷ []

abbrev pub bytes_of : Segment → List ℕ
bytes_of s = byte_in s.byte ++ text_of s.prefix

abbrev pub path_in : List Segment → List ℕ
path_in [] = []
path_in (s ∷ more) = bytes_of s ++ path_in more

abbrev pub path_of : Trail → List ℕ
path_of t = path_in t.segments.items

-- there is one more segment, of these bytes
pub record IsLonger (before now : List Segment) (byte : Option ℕ) (prefix : List ℕ) : Type 0 where
  pub last : Segment
  pub grown : now ≡ before ++ last ∷ []
  pub bytes : bytes_of last ≡ byte_in byte ++ prefix

-- each segment says how many bytes are before it
abbrev pub AreMeasured : ℕ → List Segment → Type 0
AreMeasured n [] = Unit {0}
AreMeasured n (s ∷ more) = (s.from ≡ n) × AreMeasured (n + length (bytes_of s)) more

-- the path's bytes are held
pub record IsCopied (t : Trail) : Type 0 where
  pub copies : t.copies ≡ true
  pub path : t.path.items ≡ path_of t
  pub measured : AreMeasured 0 t.segments.items

-- the first segments, so many as were kept, are the first of these
abbrev pub AreKeptOf : List Segment → Trail → Type 0
AreKeptOf before t = (n : ℕ) → n ≤ t.kept → take n t.segments.items ≡ take n before

-- so many segments as were kept are there
abbrev pub AreThere : Trail → Type 0
AreThere t = t.kept ≤ length t.segments.items

-- one comes from the other by steps that say what they keep
pub record Follows (old new : Trail) : Type 0 where
  pub there : AreThere old → AreThere new
  pub kept : AreThere old → (before : List Segment) → AreKeptOf before old → AreKeptOf before new
  pub copied : IsCopied old → IsCopied new

-- a segment's prefix is one of the database with these bytes
abbrev pub IsSegmentIn : List ℕ → Segment → Type 0
IsSegmentIn file s = file_of s.prefix ≡ file

-- the first segments of both, so many, have the same bytes
abbrev pub AreAlike : ℕ → List Segment → List Segment → Type 0
AreAlike zero xs ys = Unit {0}
AreAlike (suc n) [] ys = ⊥
AreAlike (suc n) (x ∷ xs) [] = ⊥
AreAlike (suc n) (x ∷ xs) (y ∷ ys) = (bytes_of x ≡ bytes_of y) × AreAlike n xs ys
