use Rattle.hwdb_laws.proofs.ComputedErrorRows.{compiled_rows, failure_rows, line_rows, number_rows, offset_rows, other_rows, own_rows, own_stop_rows, passed_rows, path_rows, stop_rows, verdict_rows, word_rows}
use Rattle.hwdb_laws.proofs.rows.error_rows.Goals as goal

pub returns : goal.returns
returns c = record {
  words = word_rows;
  paths = path_rows;
  lines = line_rows;
  own = own_rows;
  others = other_rows;
  numbers = number_rows;
  verdicts = verdict_rows;
  offsets = offset_rows;
  passed = passed_rows;
  compiled = compiled_rows;
  stops = stop_rows;
  own_stops = own_stop_rows;
  failures = failure_rows;
}
