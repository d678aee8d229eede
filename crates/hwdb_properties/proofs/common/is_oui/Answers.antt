use Rattle.std.proofs.Common.{sym, ◌∙◌}
use Rattle.hwdb_properties.proofs.CommonLemmas.{oui_is_common}
use Rattle.hwdb_properties.proofs.common.is_oui.Goals as goal

pub returns-clause-sound : goal.returns-clause-sound
returns-clause-sound c = λ is. oui_is_common c.args.name.now (sym c.same.ensures ∙ is)
