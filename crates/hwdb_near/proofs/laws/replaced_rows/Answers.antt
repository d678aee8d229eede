use Rattle.hwdb_near.proofs.ComputedRows.{masked_rows, repeated_rows, replaced_file_rows, replaced_rows, replaced_text_rows}
use Rattle.hwdb_near.proofs.laws.replaced_rows.Goals as goal

pub returns : goal.returns
returns c = record {
  replaced = replaced_rows;
  files = replaced_file_rows;
  repeated = repeated_rows;
  masked = masked_rows;
  text = replaced_text_rows;
}
