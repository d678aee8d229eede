-- Chosen text files that can't be read, and that an update leaves out with `--skip-unreadable`. It says which these may be, what
-- is said of them, and which files are left. Our choice.
use Rattle.std.specs.Prelude.{◌++◌, ◌∷◌, ◌≡◌, All, Contains, Err, List, Ok, Result, [], map, true, ℕ}
use Rattle.hwdb_spec.specs.Folders.{Choice, path_of}
use Rattle.hwdb_spec_commands.specs.LeftOut.{AreLeftOut}
use Rattle.hwdb_spec.specs.Store.{Contents}
use Rattle.hwdb_spec_commands.specs.declared.refusals.Refusal.{Refusal}
use Rattle.hwdb_spec_commands.specs.declared.refusals.Refusal.TheVariants.{At}
use Rattle.hwdb_spec.specs.declared.errors.ToolError.TheVariants.{Read}
use Rattle.hwdb_spec_commands.specs.LeftOutTold.{left_out_line, AreTold}

-- ---- steps
-- some names, the files that have them among the chosen ones, none of which can be read, and what is said of these
pub record AreToldOf (Unreadable : (path : List ℕ) → Type 0) (root : List ℕ) (chosen : List Choice) (names : List (List ℕ)) (said : List ℕ) : Type 0 where
  pub left_out : List Choice
  pub named : map (λ (c : Choice). c.name) left_out ≡ names
  pub among : All (Contains chosen) left_out
  pub unreadable : All (λ (c : Choice). Unreadable (root ++ path_of c)) left_out
  pub told : AreTold root left_out said

-- the line of an error at reading a file was added
abbrev pub IsNoted : Refusal → (old new : List ℕ) → Type 0
IsNoted (At Read path cause) old new = (words : List ℕ) × (new ≡ old ++ left_out_line path.items cause words)
IsNoted _ old new = ⊥

-- and if a file of this name can't be read, the name too; else nothing
abbrev pub IsNotedOf : {T : Type 0} → Result T Refusal → (name : List ℕ) (names names2 : List (List ℕ)) (said said2 : List ℕ) → Type 0
IsNotedOf (Ok bytes) name names names2 said said2 = (names2 ≡ names) × (said2 ≡ said)
IsNotedOf (Err refusal) name names names2 said said2 = IsNoted refusal said said2 × (names2 ≡ names ++ name ∷ [])

-- files that may be left out have these names, and this is said of them
pub record AreFound (MayFail : (path : List ℕ) → Type 0) (root : List ℕ) (contents : Contents) (names : List (List ℕ)) (said : List ℕ) : Type 0 where
  pub left_out : List Choice
  pub are : AreLeftOut true MayFail root contents left_out
  pub named : map (λ (c : Choice). c.name) left_out ≡ names
  pub told : AreTold root left_out said
