use Rattle.std.proofs.Common.{refl}
use Rattle.hwdb_forms.proofs.AfterLemmas.{either_byte}
use Rattle.hwdb_forms.proofs.bytes.joined.Goals as goal

pub returns : goal.returns
returns c = λ byte. either_byte c.args.some c.args.others _ byte refl refl
