-- The rows, computed.
use Rattle.hex.specs.Hex.{encode_with}
use Rattle.hwdb_laws.specs.ErrorRows.{CompiledRows, FailureRows, LineRows, NumberRows, OffsetRows, OtherRows, OwnRows, OwnStopRows, PassedRows, PathRows, StopRows, VerdictRows, WordRows}
use Rattle.hwdb_spec_commands.specs.Refusals.{path_text, refusal_line}
use Rattle.hwdb_spec_commands.specs.Told.Stop.{Over, Says}
use Rattle.hwdb_spec.specs.declared.causes.Cause.TheVariants as why
use Rattle.hwdb_spec.specs.declared.errors.ToolError.TheVariants.{Read}
use Rattle.hwdb_spec.specs.Visible.{visible_after}
use Rattle.std.proofs.Common.{ap, refl, ◌∙◌}
use Rattle.std.specs.Char.{encode_utf8}
use Rattle.std.specs.Fmt.{digits}
use Rattle.std.specs.Prelude.{◌∷◌, Some, [], codes, pos}
use Rattle.std.specs.Str.{chars, is_utf8}

pub word_rows : WordRows
unfolding visible_after is_utf8 chars encode_utf8 digits encode_with
word_rows = refl

pub path_rows : PathRows
unfolding visible_after is_utf8 chars encode_utf8 digits encode_with
path_rows = refl

pub line_rows : LineRows
unfolding visible_after is_utf8 chars encode_utf8 digits encode_with
line_rows = refl

pub other_rows : OtherRows
unfolding visible_after is_utf8 chars encode_utf8 digits encode_with
other_rows = refl

pub number_rows : NumberRows
unfolding visible_after is_utf8 chars encode_utf8 digits encode_with
number_rows = refl

pub verdict_rows : VerdictRows
unfolding visible_after is_utf8 chars encode_utf8 digits encode_with
verdict_rows = refl

pub offset_rows : OffsetRows
unfolding visible_after is_utf8 chars encode_utf8 digits encode_with
offset_rows = refl

pub passed_rows : PassedRows
unfolding visible_after is_utf8 chars encode_utf8 digits encode_with
passed_rows = refl

pub compiled_rows : CompiledRows
unfolding visible_after is_utf8 chars encode_utf8 digits encode_with
compiled_rows = refl

pub stop_rows : StopRows
unfolding visible_after is_utf8 chars encode_utf8 digits encode_with
stop_rows = refl

pub failure_rows : FailureRows
unfolding visible_after is_utf8 chars encode_utf8 digits encode_with
failure_rows = refl

pub own_rows : OwnRows
unfolding visible_after is_utf8 chars encode_utf8 digits encode_with
own_rows text e = ap (λ t. refusal_line (path_text Read t (Some (why.System (pos 13))) (codes "Permission denied")) ∷ refusal_line t ∷ []) e ∙ refl

pub own_stop_rows : OwnStopRows
own_stop_rows text e = ap (λ t. Over Read t (Some why.Pipe) ∷ Says t ∷ []) e
