-- Whether two databases assign the same, one assignment after another.
use Rattle.std.specs.Prelude.{◌==◌, ◌∷◌, ◌≡◌, ◌≢◌, [], Bool, List, false, if◌then◌else◌, true}
use Rattle.hwdb_spec.specs.Assignment.{Assignment}
use Rattle.hwdb_spec_commands.specs.Differences.{differences}
use Rattle.hwdb_spec.specs.Folders.{same}
use Rattle.hwdb_spec_commands.specs.Status.{State, stale_by}
use Rattle.hwdb_spec_commands.specs.Status.State.{Alike, Broken, Fresh, Missing, Stale}
use Rattle.hwdb_spec.specs.Tree.{Map}

-- two assignments are the same
abbrev pub is_one : Assignment → Assignment → Bool
is_one x y =
    if x.position.priority == y.position.priority
    then (if x.position.line == y.position.line
    then (if same x.position.pattern y.position.pattern
    then (if same x.position.key y.position.key then (if same x.value y.value then same x.path y.path else false) else false)
    else false)
    else false)
    else false

-- the first of some assignments is this one
abbrev pub is_head : Assignment → List Assignment → Bool
is_head x [] = false
is_head x (y ∷ ys) = is_one x y

-- two lists of assignments are the same
unfoldable pub are_one : List Assignment → List Assignment → Bool
are_one [] [] = true
are_one [] (y ∷ ys) = false
are_one (x ∷ xs) [] = false
are_one (x ∷ xs) (y ∷ ys) = if is_one x y then are_one xs ys else false

-- no change was counted
abbrev pub is_unchanged : State → Bool
is_unchanged (Stale changes first) = changes == 0
is_unchanged state = false

-- a state says how a map is beside another one
abbrev pub IsHow : (old new : Map) → State → Type 0
IsHow old new Missing = ⊥
IsHow old new Broken = ⊥
IsHow old new Fresh = ⊥
IsHow old new Alike = old ≡ new
IsHow old new (Stale changes first) = (old ≢ new) × (Stale changes first ≡ stale_by (differences old new))
