-- Why a file that the words name can't be read: `-` is standard input. What is said of it, or of another path, is so. Our choice.
use Rattle.std.specs.Prelude.{◌++◌, ◌<◌, ◌∷◌, ◌≡◌, ◌≤◌, ◌⊎◌, All, Bool, IfSome, List, Option, false, is_some, length, true, ℕ}
use Rattle.hwdb_spec_commands.specs.Given.{is_dash}
use Rattle.hwdb_spec.specs.Store.{Contents}
use Rattle.hwdb_spec.specs.System.{bytes_at}
use Rattle.hwdb_spec_commands.specs.Reading.{IsText}
use Rattle.hwdb_spec_commands.specs.declared.refusals.Refusal.{Refusal}
use Rattle.hwdb_spec_commands.specs.declared.refusals.Refusal.TheVariants.{At}
use Rattle.hwdb_spec.specs.declared.errors.ToolError.TheVariants.{TooLong}

-- a given path is read: it is `-`, which is read before the files, or a file that can be read
abbrev pub IsReadGiven : Contents → (path : List ℕ) → Type 0
IsReadGiven contents path = (is_dash path ≡ true) ⊎ IsText contents path

-- the path is one that the words name, and not `-`; each one before it is read
pub record IsFirstGiven (given : List (List ℕ)) (contents : Contents) (path : List ℕ) : Type 0 where
  pub before : List (List ℕ)
  pub after : List (List ℕ)
  pub are : given ≡ before ++ path ∷ after
  pub read : All (IsReadGiven contents) before
  pub plain : is_dash path ≡ false

-- the path that an error tells is the first of the given ones that can't be read; what is too long is there
abbrev pub IsOfFiles : (given : List (List ℕ)) → Contents → Refusal → Type 0
IsOfFiles given contents (At TooLong at cause) = IsFirstGiven given contents at.items × (is_some (bytes_at contents at.items) ≡ true)
IsOfFiles given contents (At error at cause) = IsFirstGiven given contents at.items
IsOfFiles given contents refusal = Unit {0}
