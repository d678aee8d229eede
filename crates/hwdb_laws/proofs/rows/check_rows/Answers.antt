use Rattle.hwdb_laws.proofs.ComputedCheckRows.{elsewhere_rows, fault_rows, fix_rows, fixed_rows, format_rows, github_rows, hint_rows, json_rows, order_rows, repeated_rows, replaced_rows, report_rows, sarif_rows, tally_rows, told_rows, unpaired_rows, unread_rows, warned_rows}
use Rattle.hwdb_laws.proofs.rows.check_rows.Goals as goal

pub returns : goal.returns
returns c = record {
  told = told_rows;
  elsewhere = elsewhere_rows;
  unread = unread_rows;
  unpaired = unpaired_rows;
  hints = hint_rows;
  repeated = repeated_rows;
  replaced = replaced_rows;
  warned = warned_rows;
  reports = report_rows;
  as_json = json_rows;
  for_github = github_rows;
  as_sarif = sarif_rows;
  formats = format_rows;
  order = order_rows;
  fixes = fix_rows;
  fixed = fixed_rows;
  faults = fault_rows;
  tally = tally_rows;
}
