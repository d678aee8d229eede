use Rattle.std.proofs.Common.{map}
use Rattle.hwdb_spec.specs.Assignment.{in_order, text_cmp}
use Rattle.hwdb_ruleasks.specs.Views.{own_text}
use Rattle.hwdb_ruleasks.proofs.NameLemmas.{order_begun, order_done, order_next}
use Rattle.hwdb_ruleasks.proofs.names.ordered.Goals as goal

pub loop-text-init : goal.loop-text-init
loop-text-init c =
    order_begun (in_order text_cmp (map own_text c.args.texts.now)) c.into_iter-text-iterator.result c.in_ok-set.set.keys c.new-list.result.items c.new-list.ensures.items c.into_iter-text-iterator.ensures.into_iter_gives.0 c.in_ok-set.ensures

pub loop-text-preserved : goal.loop-text-preserved
loop-text-preserved c =
    order_next (in_order text_cmp (map own_text c.args.texts.now)) c.loop-text.text-iterator c.next.new.self c.loop-text.list.items c.push.new.self.items c.in-Some.text c.in-Some.ensures.steps c.in_ok-push.ensures.items c.loop-text.invariant

pub returns : goal.returns
returns c = order_done (in_order text_cmp (map own_text c.args.texts.now)) c.loop-text.text-iterator c.loop-text.list.items c.in-None.ensures.steps.0 c.loop-text.invariant
