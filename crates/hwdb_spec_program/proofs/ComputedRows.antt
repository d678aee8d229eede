-- The rows, computed.
use Rattle.hex.specs.Hex.{encode_with}
use Rattle.hwdb_spec.specs.Lines.{pieces}
use Rattle.hwdb_spec.specs.Visible.{visible_after}
use Rattle.hwdb_spec_program.specs.Rows.{HidingRows, QuietRows, ThereRows, UnsaidRows}
use Rattle.std.proofs.Common.{refl}
use Rattle.std.specs.Char.{encode_utf8}
use Rattle.std.specs.Str.{chars, is_utf8}

pub hiding_rows : HidingRows
unfolding pieces visible_after is_utf8 chars encode_utf8 encode_with
hiding_rows = refl

pub unsaid_rows : UnsaidRows
unsaid_rows = λ contents. refl

pub quiet_rows : QuietRows
quiet_rows = refl

pub there_rows : ThereRows
there_rows = refl
