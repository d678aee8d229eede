use Rattle.hwdb_laws.proofs.ComputedTaskRows.{besides_rows, dash_rows, diff_rows, job_rows, named_rows, other_rows, over_rows, plain_rows, read_rows, replaced_rows, scan_rows, status_rows, taken_rows, told_rows}
use Rattle.hwdb_laws.proofs.ComputedCommandRows.{command_rows}
use Rattle.hwdb_laws.proofs.rows.task_rows.Goals as goal

pub returns : goal.returns
returns c = record {
  plain = plain_rows;
  dash = dash_rows;
  other = other_rows;
  diff = diff_rows;
  scan = scan_rows;
  named = named_rows;
  status = status_rows;
  jobs = job_rows;
  replaced = replaced_rows;
  read = read_rows;
  besides = besides_rows;
  told = told_rows;
  over = over_rows;
  taken = taken_rows;
  commands = command_rows;
}
