use Rattle.hwdb_forms.proofs.AfterLemmas.{one_bit}
use Rattle.hwdb_forms.proofs.bytes.bit.Goals as goal

pub returns : goal.returns
returns c = one_bit c.args.at c.requires
