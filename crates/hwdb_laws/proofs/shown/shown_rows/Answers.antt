use Rattle.hwdb_laws.proofs.ShownLemmas.{line_rows, shown_error_rows, shown_rows}
use Rattle.hwdb_laws.proofs.shown.shown_rows.Goals as goal

pub returns-clause-lines : goal.returns-clause-lines
returns-clause-lines c = line_rows

pub returns-clause-plans : goal.returns-clause-plans
returns-clause-plans c = shown_rows

pub returns-clause-errors : goal.returns-clause-errors
returns-clause-errors c = shown_error_rows
