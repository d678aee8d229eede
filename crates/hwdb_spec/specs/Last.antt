-- The last assignments, in words: which assignments a device is told (hwdb(7): of the assignments with one pattern and
-- key the last one counts). `last_assignments` of Answers is the same list as a computation.
use Rattle.std.specs.Prelude.{List, ◌∷◌, ◌++◌, ℕ, Option, Some, None, ◌≡◌, ◌⊎◌, ◌<◌, ◌≤◌, ◌↔◌, All, Contains}
use Rattle.std.specs.declared.cmp.Ordering.TheVariants.{Less}
use Rattle.hwdb_spec.specs.Assignment.{Assignment, Position, position_cmp, assignment_cmp}
use Rattle.std.specs.List.Sorted.{IsStrictlySortedBy}
use Rattle.hwdb_spec.specs.Patterns.{Matches, tokens}

-- two assignments have the same pattern and the same key
abbrev pub HaveOnePlace : Assignment → Assignment → Type 0
HaveOnePlace a b = (a.position.pattern ≡ b.position.pattern) × (a.position.key ≡ b.position.key)

-- it is one of some assignments, and none that is after it in their list has its pattern and its key (hwdb(7))
pub record IsLast (all : List Assignment) (a : Assignment) : Type 0 where
  pub before : List Assignment
  pub behind : List Assignment
  pub stands : all ≡ before ++ a ∷ behind
  pub last : All (λ b. ¬ HaveOnePlace a b) behind

-- its position is greater than the one given, if one is given
abbrev pub IsBehind : Option Position → Assignment → Type 0
IsBehind None a = Unit {0}
IsBehind (Some after) a = position_cmp after a.position ≡ Less

-- the last assignment of its pattern and key, whose pattern matches the device, after the position
pub record IsAnswer (device : List ℕ) (after : Option Position) (all : List Assignment) (a : Assignment) : Type 0 where
  pub last : IsLast all a
  pub matches : Matches (tokens a.position.pattern) device
  pub behind : IsBehind after a

-- a list of exactly these, strictly ascending by priority, line, pattern and key
pub record AreLast (device : List ℕ) (after : Option Position) (all list : List Assignment) : Type 0 where
  pub ascends : IsStrictlySortedBy assignment_cmp list
  pub members : (a : Assignment) → Contains list a ↔ IsAnswer device after all a

-- it comes no later than another: its file has a smaller priority, or the same one and its line isn't after the other's
abbrev pub IsNoLater : Assignment → Assignment → Type 0
IsNoLater b a =
    (b.position.priority < a.position.priority)
    ⊎ ((b.position.priority ≡ a.position.priority) × (b.position.line ≤ a.position.line))

-- it is one of some assignments, and none of them with its pattern and its key comes later by priority and line
pub record IsLatest (all : List Assignment) (a : Assignment) : Type 0 where
  pub one : Contains all a
  pub latest : All (λ b. HaveOnePlace a b → IsNoLater b a) all
