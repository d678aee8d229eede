use Rattle.hwdb_check.proofs.CommentLaws.{bare_told, comment_rows, faults_stay, left_told, lines_marked, records_apart}
use Rattle.hwdb_check.proofs.laws.comments_are_told.Goals as goal

pub returns-clause-lines : goal.returns-clause-lines
returns-clause-lines c = lines_marked

pub returns-clause-apart : goal.returns-clause-apart
returns-clause-apart c = records_apart

pub returns-clause-left : goal.returns-clause-left
returns-clause-left c = left_told

pub returns-clause-bare : goal.returns-clause-bare
returns-clause-bare c = bare_told

pub returns-clause-faults : goal.returns-clause-faults
returns-clause-faults c = faults_stay c.sections_are_the_lines.ensures c.faults_ascend.ensures

pub returns-clause-rows : goal.returns-clause-rows
returns-clause-rows c = comment_rows
