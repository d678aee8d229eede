use Rattle.hwdb_device.proofs.LastingLemmas.{lasting_matched}
use Rattle.hwdb_device.proofs.PatternLemmas.{matched}
use Rattle.hwdb_device.proofs.laws.pattern_is_matched.Goals as goal

pub returns : goal.returns
returns c = record { bytes = matched; lasting = lasting_matched }
