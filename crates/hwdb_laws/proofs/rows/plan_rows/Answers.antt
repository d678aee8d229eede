use Rattle.hwdb_laws.proofs.ComputedPlanRows.{after_rows, baseline_rows, besides_rows, check_rows, device_rows, diff_rows, fresh_rows, input_rows, keys_rows, list_rows, misuse_rows, named_rows, near_rows, none_rows, query_rows, record_rows, scan_rows, status_rows, sysfs_rows, text_rows, no_update_rows, update_rows}
use Rattle.hwdb_laws.proofs.rows.plan_rows.Goals as goal

pub returns : goal.returns
returns c = record {
  query = query_rows;
  list = list_rows;
  near = near_rows;
  device = device_rows;
  check = check_rows;
  baseline = baseline_rows;
  named = named_rows;
  recorded = record_rows;
  diff = diff_rows;
  fresh = fresh_rows;
  keys = keys_rows;
  scan = scan_rows;
  none = none_rows;
  text = text_rows;
  misuse = misuse_rows;
  besides = besides_rows;
  after = after_rows;
  update = update_rows;
  no_update = no_update_rows;
  status = status_rows;
  input = input_rows;
  sysfs = sysfs_rows;
}
