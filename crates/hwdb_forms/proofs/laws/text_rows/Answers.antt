use Rattle.hwdb_forms.proofs.ComputedTextRows.{among_rows_hold, byte_rows_hold, counted_rows_hold, filled_rows_hold, repeated_rows_hold, way_rows_hold}
use Rattle.hwdb_forms.proofs.laws.text_rows.Goals as goal

pub returns : goal.returns
returns c = record {
  counted = counted_rows_hold;
  repeated = repeated_rows_hold;
  ways = way_rows_hold;
  among = among_rows_hold;
  bytes = byte_rows_hold;
  filled = filled_rows_hold;
}
