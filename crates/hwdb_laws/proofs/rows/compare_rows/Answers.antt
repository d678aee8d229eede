use Rattle.hwdb_laws.proofs.ComputedCompareRows.{amount_rows, change_rows, chosen_rows, device_text_rows, first_device_rows, given_rows, last_device_rows, named_rows, pass_rows, pattern_rows, record_rows, renamed_rows, same_rows, second_device_rows, stale_rows, status_rows, text_rows, unmet_rows, which_rows}
use Rattle.hwdb_laws.proofs.rows.compare_rows.Goals as goal

pub returns : goal.returns
returns c = record {
  changes = change_rows;
  first_device = first_device_rows;
  second_device = second_device_rows;
  last_device = last_device_rows;
  text = text_rows;
  by_record = record_rows;
  renamed = renamed_rows;
  devices = device_text_rows;
  status = status_rows;
  same = same_rows;
  unmet = unmet_rows;
  which = which_rows;
  chosen = chosen_rows;
  pass = pass_rows;
  given = given_rows;
  named = named_rows;
  stale = stale_rows;
  amount = amount_rows;
  patterns = pattern_rows;
}
