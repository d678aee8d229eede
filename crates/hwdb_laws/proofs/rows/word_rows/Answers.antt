use Rattle.hwdb_laws.proofs.ComputedWordRows.{ask_rows, bare_device_rows, bare_update_rows, before_rows, check_rows, device_rows, diff_rows, dump_rows, explain_rows, keys_rows, list_rows, near_rows, number_rows, query_rows, review_rows, right_rows, scan_rows, status_rows, test_rows, update_rows, verify_rows, wrong_rows}
use Rattle.hwdb_laws.proofs.rows.word_rows.Goals as goal

pub returns : goal.returns
returns c = record {
  update = update_rows;
  bare_update = bare_update_rows;
  query = query_rows;
  explain = explain_rows;
  ask = ask_rows;
  list = list_rows;
  near = near_rows;
  device = device_rows;
  bare_device = bare_device_rows;
  check = check_rows;
  test = test_rows;
  diff = diff_rows;
  review = review_rows;
  verify = verify_rows;
  dump = dump_rows;
  status = status_rows;
  keys = keys_rows;
  scan = scan_rows;
  numbers = number_rows;
  before = before_rows;
  wrong = wrong_rows;
  right = right_rows;
}
