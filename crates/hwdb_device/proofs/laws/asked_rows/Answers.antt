use Rattle.hwdb_device.proofs.ComputedRows.{error_rows, form_rows, link_rows, missing_rows}
use Rattle.hwdb_device.proofs.laws.asked_rows.Goals as goal

pub returns : goal.returns
returns c = record {
  links = link_rows;
  missing = missing_rows;
  errors = error_rows;
  forms = form_rows;
}
