-- What a database assigns to the patterns that begin with a byte. Our choice: patterns with one prefix are looked through without the others.
use Rattle.std.specs.Prelude.{Bool, false, List, [], ◌∷◌, ℕ, filter, nat_eq}
use Rattle.hwdb_spec.specs.Assignment.{Assignment}
use Rattle.hwdb_spec.specs.Tree.{Tree, members_under}

-- whether a text begins with a byte
abbrev pub begins_with : (first : ℕ) → List ℕ → Bool
begins_with first [] = false
begins_with first (b ∷ more) = nat_eq first b

-- whether an assignment's pattern does
abbrev pub is_from : (first : ℕ) → Assignment → Bool
is_from first a = begins_with first a.position.pattern

-- what a tree assigns to such patterns
abbrev pub members_from : (first : ℕ) → Tree → List Assignment
members_from first t = filter (is_from first) (members_under [] t)
