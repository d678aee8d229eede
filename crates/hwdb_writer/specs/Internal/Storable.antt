-- What holds of a tree in memory: it is tight, and can be stored (our choice of limits).
use Rattle.std.specs.Prelude.{ℕ, List, [], ◌<◌, ◌∷◌, IsSome, ◌^◌, length, ◌+◌, ◌≤◌, ◌≡◌}
use Rattle.std.specs.List.{AllByRecursion}
use Rattle.hwdb_spec.specs.Lines.{max_pattern}
use Rattle.hwdb_spec.specs.Tree.{Value, key_of, Children, Tree, IsTree, prefix_of}
use Rattle.hwdb_spec.specs.Tree.Children.{Child, NoMore}
use Rattle.hwdb_spec.specs.Written.{IsForked}
use Rattle.hwdb_spec.specs.Tree.Tree.{Node}

-- no byte is 0
abbrev pub HasNoZero : List ℕ → Type 0
HasNoZero [] = Unit {0}
HasNoZero (c ∷ cs) = (0 < c) × HasNoZero cs

-- each number is a byte, and none is 0
abbrev pub IsText : List ℕ → Type 0
IsText [] = Unit {0}
IsText (c ∷ cs) = (0 < c) × (c < 256) × IsText cs

-- a value whose texts hold no byte 0 and whose numbers fit their fields
pub record IsStorableValue (v : Value) : Type 0 where
  pub assigns : IsSome (key_of v.key)
  pub key : HasNoZero v.key
  pub value : HasNoZero v.value
  pub path : HasNoZero v.path
  pub some_priority : 0 < v.priority
  pub priority_fits : v.priority < 2 ^ 16
  pub line_fits : v.line < 2 ^ 32

unfoldable mutual
  -- the tree below a path of so many bytes: each pattern is short enough, each node but the first has a
  -- value or two children
  pub IsStorable : ℕ → Tree → Type 0
  IsStorable used (Node prefix values children) =
      IsText prefix × (used + length prefix ≤ max_pattern) × AllByRecursion IsStorableValue values × AreStorable (used + length prefix + 1) children

  pub AreStorable : ℕ → Children → Type 0
  AreStorable used NoMore = Unit {0}
  AreStorable used (Child byte tree more) = (byte < 256) × IsForked tree × IsStorable used tree × AreStorable used more

pub record IsSound (t : Tree) : Type 0 where
  pub ordered : IsTree t
  pub root : prefix_of t ≡ []
  pub storable : IsStorable 0 t

-- a node of a sound tree, below a path of so many bytes
pub record IsNode (used : ℕ) (t : Tree) : Type 0 where
  pub ordered : IsTree t
  pub forked : IsForked t
  pub storable : IsStorable used t

-- a value that can be stored at the rest of a path, after so many bytes
pub record CanStand (used : ℕ) (rest : List ℕ) (v : Value) : Type 0 where
  pub text : IsText rest
  pub short : used + length rest ≤ max_pattern
  pub value : IsStorableValue v
