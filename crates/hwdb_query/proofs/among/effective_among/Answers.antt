use Rattle.std.proofs.Common.{map}
use Rattle.std.proofs.lemmas.Result.{IfOk-weaker}
use Rattle.hwdb_spec.specs.Assignment.{assignment_cmp, in_order}
use Rattle.hwdb_query.specs.Views.{assignment_of_answer}
use Rattle.hwdb_query.proofs.ByKeyLemmas.{shows_none}
use Rattle.hwdb_query.proofs.CollectionLemmas.{last_at_end}
use Rattle.hwdb_query.proofs.among.effective_among.Goals as goal

pub returns : goal.returns
returns c =
    let found = map assignment_of_answer c.args.found.now in
    let shows = last_at_end c.new-last.result found c.take_all.new.last (shows_none c.new-last.result.hits c.new-last.ensures) c.in_ok-take_all.ensures in
    IfOk-weaker c.pairs.result _ _ (λ list shown. shown (in_order assignment_cmp found) shows) c.pairs.ensures
