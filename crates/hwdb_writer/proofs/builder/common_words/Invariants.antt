use Rattle.std.proofs.Common.{◌-◌}
use Rattle.hwdb_writer.proofs.MeetingLemmas.{Past}
use Rattle.hwdb_writer.proofs.builder.common_words.Given as goal

abbrev pub invariant-loop-n : goal.invariant-loop-n
invariant-loop-n l = Past l.n l.a l.b

abbrev pub decreases-loop-n : goal.decreases-loop-n
decreases-loop-n l = l.both - l.n
