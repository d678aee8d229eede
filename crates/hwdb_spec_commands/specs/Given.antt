-- Files that the words of `ask` and `check` name: the path `-` has what standard input has left, every other path what is
-- there. That is from POSIX, Utility Syntax Guidelines, 13. And devices: a lone `-` is for those that standard input names. Our
-- choice.
use Rattle.std.specs.List.{list_any}
use Rattle.std.specs.Prelude.{◌∷◌, ◌≡◌, Bool, IfSome, List, Option, Some, [], codes, false, true, ℕ}
use Rattle.std.specs.Str.{bytes_eq}
use Rattle.hwdb_spec.specs.Store.{Contents}
use Rattle.hwdb_spec.specs.System.{bytes_at}

-- the path stands for standard input
abbrev pub is_dash : (path : List ℕ) → Bool
is_dash path = bytes_eq path (codes "-")

-- a path has these bytes: `-` those that standard input tells, if it tells them
abbrev pub IsContent : (dash : Bool) (path : List ℕ) (input : Option (List ℕ)) → Contents → (bytes : List ℕ) → Type 0
IsContent true path input contents bytes = IfSome input (λ told. bytes ≡ told)
IsContent false path input contents bytes = bytes_at contents path ≡ Some bytes

-- the path that words give has these bytes
abbrev pub IsGiven : (path : List ℕ) (input : Option (List ℕ)) → Contents → (bytes : List ℕ) → Type 0
IsGiven path = IsContent (is_dash path) path

-- the devices are those that standard input names
abbrev pub is_input : (devices : List (List ℕ)) → Bool
is_input [] = false
is_input (device ∷ []) = bytes_eq device (codes "-")
is_input (device ∷ next ∷ more) = false

-- one of the paths stands for standard input
abbrev pub any_dash : (given : List (List ℕ)) → Bool
any_dash given = list_any is_dash given
