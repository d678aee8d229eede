use Rattle.hwdb_test.proofs.RecordedLaws.{recorded_holds, recorded_is_read}
use Rattle.hwdb_test.proofs.laws.recorded_holds.Goals as goal

pub returns : goal.returns
returns c = record {
  holds = recorded_holds c.counting_are_effective.ensures;
  read = recorded_is_read c.counting_are_effective.ensures;
}
