use Rattle.hwdb_laws.proofs.ProgramRunLemmas.{input_is_long, input_is_read, line_is_long}
use Rattle.hwdb_laws.proofs.program_runs.input_errors_are_so.Goals as goal

pub returns : goal.returns
returns c =
    let over = c.over_is_over.ensures in
    let no_more = c.over_is_no_more.ensures in record { read = input_is_read over no_more; long = input_is_long over no_more; line = line_is_long over no_more }
