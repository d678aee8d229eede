use Rattle.hwdb_query.proofs.GroupLemmas.{entry_step}
use Rattle.hwdb_query.proofs.by_key.AnswersByKey.explained.Goals as goal

pub loop-key-preserved : goal.loop-key-preserved
loop-key-preserved c =
    entry_step c.loop-key.list.items c.push.new.self.items c.loop-key.key-iterator c.next.new.self c.in-Some.key c.in-Some.answers c.reverse.new.self _
    c.in-Some.ensures.steps c.reverse.ensures.items c.in_ok-push.ensures.items c.loop-key.invariant
