-- What the proofs of this crate speak of.
use Rattle.std.specs.Prelude.{List, Option, MatchOption, ℕ, zero, suc, [], ◌∷◌, ◌+◌, ◌≤◌, ◌<◌, ◌≡◌}
use Rattle.hwdb_spec.specs.declared.Layout.{Layout}
use Rattle.hwdb_spec.specs.Tree.{Value, Children, IsAbove, count}
use Rattle.hwdb_spec.specs.Format.{value_at, text_at, child_entry, ChildrenText, ValuesText}
use Rattle.hwdb_reader.specs.declared.passes.outline.Outline.{Outline}
use Rattle.hwdb_reader.specs.Passes.Views.{Stand}

-- the values that so many entries give
unfoldable pub values_at : Layout → List ℕ → (entry n : ℕ) → List Value
values_at l file entry zero = []
values_at l file entry (suc n) = value_at file entry ∷ values_at l file (entry + l.value_size) n

-- an offset in the string section
pub record IsInside (o : Outline) (i : ℕ) : Type 0 where
  pub above : o.frame.sizes.strings ≤ i
  pub below : i < o.size

-- The n value entries from `entry` on are sound, and their keys ascend. Their keys are above each that is below the one at
-- `next`.
abbrev pub ValuesStand : Layout → List ℕ → (entry : ℕ) (next : Option ℕ) (n : ℕ) → Type 0
ValuesStand l file entry next n =
    (before : Option (List ℕ)) → MatchOption next (Unit {0}) (λ key. IsAbove before (text_at file key)) → ValuesText l file entry before (values_at l file entry n)

-- Some nodes are there, and after them the texts of the children of the record at `off`, of so many levels, from number i
-- on. Their bytes are above each that is below `limit`.
pub record ChildrenStand (l : Layout) (file : List ℕ) (nodes : List (ℕ × ℕ)) (height limit off i n : ℕ) : Type 0 where
  pub ks : Children
  pub from : ℕ
  pub many : count ks ≡ n
  pub text : (byte : ℕ) → byte < limit → ChildrenText l file height from (child_entry l off i) byte off ks
  pub stand : Stand l file nodes from
