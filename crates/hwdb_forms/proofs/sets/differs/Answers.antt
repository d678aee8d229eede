use Rattle.std.proofs.Common.{sym, ◌∙◌}
use Rattle.hwdb_forms.proofs.MeetLemmas.{not_true}
use Rattle.hwdb_forms.proofs.sets.differs.Goals as goal

pub returns : goal.returns
returns c = λ t. sym c.meets_byte.ensures ∙ not_true c.meets_byte.result t
