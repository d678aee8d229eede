-- What the texts of the code mean.
use Rattle.std.specs.Prelude.{List, ℕ, Option, None, Some, Vec, map}
use Rattle.std.specs.declared.alloc.Global.{Global}
use Rattle.hwdb_spec_commands.specs.FormTexts.{Text}

-- a text, if there is one
abbrev pub text_view : Option (Vec ℕ Global) → Text
text_view None = None
text_view (Some text) = Some text.items

-- a row of such texts
abbrev pub row_view : List (Option (Vec ℕ Global)) → List Text
row_view row = map text_view row
