use Rattle.hwdb_plan.proofs.LawLemmas.{alike, made_or_not}
use Rattle.hwdb_plan.proofs.laws.plans_end_alike.Goals as goal

pub returns : goal.returns
returns c = alike c.law_one_tree.ensures c.law_one_written_form.ensures c.positions_are_read_back.ensures.one (made_or_not c.law_one_written_form.ensures)
