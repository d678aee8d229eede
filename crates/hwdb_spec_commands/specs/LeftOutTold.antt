-- What is said of chosen text files that can't be read and are left out, and which files are left. Our choice.
use Rattle.std.specs.Prelude.{◌++◌, ◌∷◌, ◌≡◌, Bool, List, Option, [], codes, ℕ}
use Rattle.hwdb_spec.specs.declared.causes.Cause.{Cause}
use Rattle.hwdb_spec.specs.Folders.{Choice, path_of}
use Rattle.hwdb_spec_commands.specs.LeftOut.{AreLeftOut, without}
use Rattle.hwdb_spec.specs.Store.{Contents}
use Rattle.hwdb_spec.specs.Selected.{AreSelected}
use Rattle.hwdb_spec_commands.specs.Reading.{AreUnreadIn}
use Rattle.hwdb_spec_commands.specs.Refusals.{path_text, refusal_line}
use Rattle.hwdb_spec_commands.specs.declared.refusals.Refusal.{Refusal}
use Rattle.hwdb_spec.specs.declared.errors.ToolError.TheVariants.{Read}

-- the line of a file that is left out: that of the error that it would be, and an ending
abbrev pub left_out_line : (path : List ℕ) → Option Cause → (words : List ℕ) → List ℕ
left_out_line path cause words = refusal_line (path_text Read path cause words ++ codes "; left out")

-- the text has a line for each of them, in their order
abbrev pub AreTold : (root : List ℕ) → List Choice → (text : List ℕ) → Type 0
AreTold root [] text = text ≡ []
AreTold root (c ∷ more) text = (cause : Option Cause) × (words rest : List ℕ) × (text ≡ left_out_line (root ++ path_of c) cause words ++ rest) × AreTold root more rest

-- the chosen of the files that are left, what each holds, and what is said of the others; `usr` are the names in /usr/lib
pub record AreSelectedLess (skip : Bool) (MayFail : (path : List ℕ) → Type 0) (root : List ℕ) (contents : Contents) (usr : List (List ℕ)) (chosen : List Choice) (texts : List (List ℕ)) (said : List ℕ) : Type 0 where
  pub left_out : List Choice
  pub are : AreLeftOut skip MayFail root contents left_out
  pub told : AreTold root left_out said
  pub selected : AreSelected root (without left_out root contents) usr chosen texts

-- reading the files that are left fails
abbrev pub AreUnreadLess : (skip : Bool) (MayFail : (path : List ℕ) → Type 0) (root : List ℕ) → Contents → Refusal → Type 0
AreUnreadLess skip MayFail root contents refusal =
    (left_out : List Choice) × AreLeftOut skip MayFail root contents left_out × AreUnreadIn skip root (without left_out root contents) refusal
