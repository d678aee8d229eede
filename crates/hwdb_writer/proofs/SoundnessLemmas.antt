-- What a sound tree is.
use Rattle.std.proofs.Common.{◌≡◌, ◌<◌, ℕ, ◌+◌, List, [], ◌∷◌, arith}
use Rattle.std.specs.List.{AllByRecursion}
use Rattle.hwdb_spec.specs.Tree.{Value, Tree, Children, count, Map, map_of, IsTree, BytesAscend}
use Rattle.hwdb_spec.specs.Tree.Tree.{Node}
use Rattle.hwdb_spec.specs.Tree.Children.{NoMore, Child}
use Rattle.hwdb_spec.specs.Written.{IsTight, AreTight, AllKeys, IsTightTree}
use Rattle.hwdb_writer.specs.Internal.Narrow.{IsNarrow, AreNarrow}
use Rattle.hwdb_writer.specs.Internal.Storable.{IsSound, IsStorable, AreStorable, IsStorableValue}

all_keys : (vs : List Value) → AllByRecursion IsStorableValue vs → AllKeys vs
all_keys [] a = tt
all_keys (v ∷ vs) a = (a.0.assigns, all_keys vs a.1)

mutual
  unfolding IsStorable IsTight

  tight : (used : ℕ) (t : Tree) → IsStorable used t → IsTight t
  tight used (Node prefix values children) s = (all_keys values s.2, tight_kids _ children s.3)

  tight_kids : (used : ℕ) (ks : Children) → AreStorable used ks → AreTight ks
  tight_kids used NoMore s = tt
  tight_kids used (Child b t more) s = (s.1, tight used t s.2, tight_kids used more s.3)

pub few : (used before : ℕ) (ks : Children) → before < 256 → AreStorable used ks → BytesAscend before ks → count ks + before < 256
unfolding IsStorable IsTree count
few used before NoMore lt s a = omega (arith, lt)
few used before (Child b t more) lt s a = let h = few used b more s.0 s.3 a.2 in omega (arith, h, a.0)

mutual
  unfolding IsStorable IsTree IsNarrow

  narrow : (used : ℕ) (t : Tree) → IsStorable used t → IsTree t → IsNarrow t
  narrow used (Node prefix values children) s a =
      let h = few _ 0 children (omega arith) s.3 a.1 in
      (omega (arith, h), narrow_kids _ 0 children s.3 a.1)

  narrow_kids : (used before : ℕ) (ks : Children) → AreStorable used ks → BytesAscend before ks → AreNarrow ks
  narrow_kids used before NoMore s a = tt
  narrow_kids used before (Child b t more) s a = (narrow used t s.2 a.1, narrow_kids used b more s.3 a.2)

pub sound_narrow : (t : Tree) → IsSound t → IsNarrow t
sound_narrow t s = narrow 0 t s.storable s.ordered

pub sound_tight : (m : Map) (t : Tree) → IsSound t → map_of t ≡ m → IsTightTree m t
sound_tight m t s e = record { ordered = s.ordered; root = s.root; tight = tight 0 t s.storable; same = e }
