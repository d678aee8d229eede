-- What is shown of a text by a sink that colours it, and what that sink tells.
use Rattle.std.specs.Prelude.{◌≡◌, ◌⊎◌, ℕ, Bool, List, None, Option, false, if◌then◌else◌}
use Rattle.hwdb_spec_commands.specs.Colours.{painted}
use Rattle.hwdb_spec.specs.Visible.{visible}
use Rattle.hwdb_spec_commands.specs.declared.colours.TextKind.{TextKind}
use Rattle.hwdb_spec_commands.specs.declared.colours.TextKind.TheVariants.{Plain}

-- the text is shown in colour, or, if there was no memory, as it is
abbrev pub IsColoured : TextKind → (text shown : List ℕ) → Type 0
IsColoured kind text shown = (shown ≡ painted kind text) ⊎ (shown ≡ text)

-- the same of what a terminal is shown of the text, or of the text itself
abbrev pub IsShown : TextKind → (at_terminal : Bool) → (text shown : List ℕ) → Type 0
IsShown kind at_terminal text shown = IsColoured kind (if at_terminal then visible text else text) shown

-- what is told of the bytes that were taken: all that is told of those that were handed on, if they go as they are
abbrev pub told_through : TextKind → (at_terminal : Bool) → Option (List ℕ) → Option (List ℕ)
told_through Plain false told = told
told_through kind at_terminal told = None
