use Rattle.std.proofs.Common.{ap, sym, ◌∙◌}
use Rattle.hwdb_spec.specs.declared.ByteSet.{ByteSet}
use Rattle.hwdb_forms.specs.Internal.{bytes_of}
use Rattle.hwdb_forms.proofs.bytes.low_bytes.Goals as goal

pub returns-in-Only : goal.returns-in-Only
returns-in-Only c = c.bit_of.ensures ∙ ap (λ (set : ByteSet). bytes_of set 0 128) (sym c.in-Only.is)
