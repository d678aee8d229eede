-- A fix in a log, by whether its line is UTF-8.
use Rattle.std.proofs.Common.{◌≡◌, ℕ, Bool, List, [], ap}
use Rattle.std.specs.Prelude.{Some, if◌then◌else◌}
use Rattle.std.specs.Str.{IsUtf8}
use Rattle.std.proofs.lemmas.Str.{is_utf8-from_IsUtf8}
use Rattle.hwdb_spec.specs.Lemmas.Orders.{not_utf8}
use Rattle.hwdb_spec_commands.specs.Logs.{fix_part, fixes_member}

pub text_fix : (path : List ℕ) (line after : ℕ) (text : List ℕ) → IsUtf8 text → fixes_member path line after (Some text) ≡ fix_part path line after text
text_fix path line after text utf8 = ap (λ (b : Bool). if b then fix_part path line after text else []) (is_utf8-from_IsUtf8 text utf8)

pub no_fix : (path : List ℕ) (line after : ℕ) (text : List ℕ) → (IsUtf8 text → ⊥) → fixes_member path line after (Some text) ≡ []
no_fix path line after text none = ap (λ (b : Bool). if b then fix_part path line after text else []) (not_utf8 text none)
