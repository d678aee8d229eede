use Rattle.hwdb_plan.proofs.LawLemmas.{done_is_one}
use Rattle.hwdb_plan.proofs.laws.done_is_one.Goals as goal

pub returns : goal.returns
returns c = done_is_one c.law_one_tree.ensures c.law_one_written_form.ensures c.positions_are_read_back.ensures.one
