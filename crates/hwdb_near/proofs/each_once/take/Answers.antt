use Rattle.hwdb_near.proofs.OnceLemmas.{once_again, once_new}
use Rattle.hwdb_near.proofs.each_once.take.Goals as goal

pub returns-then-is_new : goal.returns-then-is_new
returns-then-is_new c =
    once_new c.args.seen.now c.insert.new.self c.args.kept.now.items c.push.new.self.items c.args.at c.in_ok-is_new.is_new c.in_ok-is_new.ensures.added c.if-is_new.true c.in_ok-is_new.ensures.updates.0
    c.in_ok-push.ensures.items

pub returns : goal.returns
returns c =
    once_again c.args.seen.now c.insert.new.self c.args.kept.now.items c.args.at c.in_ok-is_new.is_new c.in_ok-is_new.ensures.added c.if-is_new.false c.in_ok-is_new.ensures.updates.0
