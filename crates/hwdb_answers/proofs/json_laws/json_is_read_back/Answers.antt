use Rattle.hwdb_answers.proofs.JsonLawLemmas.{device_read, text_read}
use Rattle.hwdb_answers.proofs.json_laws.json_is_read_back.Goals as goal

pub returns-clause-texts : goal.returns-clause-texts
returns-clause-texts c = text_read

pub returns-clause-devices : goal.returns-clause-devices
returns-clause-devices c = device_read
