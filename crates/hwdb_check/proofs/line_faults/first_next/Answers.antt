use Rattle.hwdb_check.proofs.FollowLemmas.{first_is_next}
use Rattle.hwdb_check.proofs.line_faults.first_next.Goals as goal

pub returns : goal.returns
returns c = first_is_next c.sections_are_the_lines.ensures c.faults_ascend.ensures c.args.bytes.now c.args.faults.now c.requires
