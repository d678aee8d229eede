use Rattle.hwdb_plan.proofs.LawLemmas.{answers_leave_all}
use Rattle.hwdb_plan.proofs.laws.answers_leave_all.Goals as goal

pub returns : goal.returns
returns g c = answers_leave_all c.law_one_tree.ensures c.law_one_written_form.ensures c.positions_are_read_back.ensures.one (g.D.Store.may_leave c.args.store.now)
