use Rattle.std.proofs.Common.{sym, ◌∙◌}
use Rattle.hwdb_properties.proofs.CommonLemmas.{vendor_is_common}
use Rattle.hwdb_properties.proofs.common.is_vendor.Goals as goal

pub returns-clause-sound : goal.returns-clause-sound
returns-clause-sound c = λ is. vendor_is_common c.args.name.now (sym c.same.ensures ∙ is)
