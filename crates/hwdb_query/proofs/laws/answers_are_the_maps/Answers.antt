use Rattle.hwdb_query.proofs.MemberLemmas.{are_answers}
use Rattle.hwdb_query.proofs.laws.answers_are_the_maps.Goals as goal

pub returns : goal.returns
returns c = λ device. are_answers c.matches_is_tested.ensures device c.args.db.now c.root-root.ensures.tree
