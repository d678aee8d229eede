-- The patterns of files.
use Rattle.std.proofs.Common.{◌≡◌, ◌∙◌, ◌∷◌, [], ap, map, refl, sym, List}
use Rattle.std.specs.FinMap as finite
use Rattle.hwdb_spec.specs.Assignment.{Assignment}
use Rattle.hwdb_spec_commands.specs.NearAsked.{database_patterns, gathered, pattern_of}
use Rattle.hwdb_spec_commands.specs.NearPrefixes.{assignments_of}
use Rattle.hwdb_spec.specs.Tree.{Map, Tree, entry_of, map_of, members_under}

-- an entry's assignment is what the entry was made of
entered : (all : List Assignment) → map (λ e. e.1) (map entry_of all) ≡ all
entered [] = refl
entered (a ∷ more) = ap (λ (l : List Assignment). a ∷ l) (entered more)

-- the patterns of a tree are those of its map
pub patterns_of_map : (t : Tree) (m : Map) → finite.entries (map_of t) ≡ map entry_of (members_under [] t) → map_of t ≡ m
    → database_patterns t ≡ gathered (map pattern_of (assignments_of m))
patterns_of_map t m members is =
    ap (λ (l : List Assignment). gathered (map pattern_of l)) (sym (entered (members_under [] t)) ∙ ap (map (λ e. e.1)) (sym members) ∙ ap assignments_of is)
