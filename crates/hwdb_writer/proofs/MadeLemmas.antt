-- The tree of the entries has their map.
use Rattle.std.proofs.Common.{◌≡◌, List, [], ◌∷◌, map, refl, sym, subst, ◌∙◌, ap}
use Rattle.std.specs.Prelude.{flat_map}
use Rattle.std.specs.FinMap as finite
use Rattle.hwdb_spec.specs.Assignment.{Assignment}
use Rattle.hwdb_spec.specs.Tree.{Tree, Map, values_under, assigned_at, key_of, entry_of, map_of, surviving}
use Rattle.hwdb_writer.specs.Internal.Entries.{placed, assignment_of}
use Rattle.hwdb_writer.specs.Internal.PostOrder.{tree_of}
use Rattle.hwdb_writer.specs.Internal.Storable.{IsSound}
use Rattle.hwdb_writer.specs.Internal.Stored.{IsMade}
use Rattle.hwdb_writer.specs.declared.entries.Setting.{Setting}
use Rattle.hwdb_writer.specs.declared.nodes.BuiltNode.{BuiltNode as NodeRecord}

members : (es : List Setting) → flat_map (λ p. assigned_at p.0 p.1 (key_of p.1.key)) (map placed es) ≡ map assignment_of es
members [] = refl
members (e ∷ es) = ap (λ l. assignment_of e ∷ l) (members es)

pub map_made : (t : Tree) (es all : List Setting) (m : Map) → values_under [] t ≡ map placed es → finite.from_entries (map entry_of (map assignment_of es)) ≡ surviving (map assignment_of all)
    → surviving (map assignment_of all) ≡ m → map_of t ≡ m
unfolding map_of
map_made t es all m v s e =
    ap (λ (l : List Assignment). finite.from_entries (map entry_of l)) (ap (flat_map (λ p. assigned_at p.0 p.1 (key_of p.1.key))) v ∙ members es) ∙ s ∙ e

pub made : (es es' own read all : List Setting) (ns ns' : List NodeRecord) (m : Map) → es ≡ es' → ns ≡ ns' → own ≡ es → read ≡ all → IsSound (tree_of es ns) → values_under [] (tree_of es ns) ≡ map placed es
    → finite.from_entries (map entry_of (map assignment_of own)) ≡ surviving (map assignment_of read) → surviving (map assignment_of all) ≡ m → IsMade m (tree_of es' ns')
made es es' own read all ns ns' m e n o r sound values same view =
    let p : tree_of es ns ≡ tree_of es' ns' = λ i. tree_of (e i) (n i) in
    record {
      sound = subst IsSound p sound;
      same = ap map_of (sym p) ∙ map_made (tree_of es ns) es all m values
          (ap (λ l. finite.from_entries (map entry_of (map assignment_of l))) (sym o) ∙ same ∙ ap (λ l. surviving (map assignment_of l)) r) view;
    }
