use Rattle.std.proofs.Common.{◌≡◌, ◌<◌, ℕ, drop, map, true}
use Rattle.std.specs.Prelude.{if◌then◌else◌}
use Rattle.hwdb_spec.specs.Forms.{can_match}
use Rattle.hwdb_forms.specs.Internal.{followed, form_of, has_byte, views}
use Rattle.hwdb_forms.proofs.expecting.bytes_among.Given as goal

abbrev pub invariant-loop-form : goal.invariant-loop-form
invariant-loop-form l =
    (b : ℕ) → b < 256 → (if has_byte l.bytes b then true else can_match (map form_of (drop l.form-index l.forms)) (followed (views l.tokens) b)) ≡ can_match (map form_of l.forms) (followed (views l.tokens) b)
