use Rattle.std.proofs.Common.{true}
use Rattle.hwdb_show.proofs.VisibleLemmas.{kept_after, name_above}
use Rattle.hwdb_show.proofs.visible.names_forge_no_line.Goals as goal

pub returns-clause-kept : goal.returns-clause-kept
returns-clause-kept c = λ name bytes. kept_after true name 0 bytes

pub returns-clause-above : goal.returns-clause-above
returns-clause-above c = name_above
