use Rattle.std.proofs.Common.{◌∙◌, ◌++◌, ap, map}
use Rattle.hwdb_query.specs.Views.{pairs_bytes}
use Rattle.hwdb_query.proofs.ByKeyLemmas.{pair_of, pair_step, pairs_over, pairs_are}
use Rattle.hwdb_query.proofs.last_hits.LastHits.pairs.Goals as goal

pub loop-key-init : goal.loop-key-init
loop-key-init c =
    ap (λ items. pairs_bytes items ++ map pair_of c.into_iter-key-iterator.result) c.new-pairs.ensures.items ∙ ap (map pair_of) c.into_iter-key-iterator.ensures.into_iter_gives.0

pub loop-key-preserved : goal.loop-key-preserved
loop-key-preserved c =
    pair_step c.loop-key.pairs.items c.push.new.self.items c.loop-key.key-iterator c.next.new.self (c.in-Some.key, c.in-Some.last) _ c.in-Some.ensures.steps c.in_ok-push.ensures.items c.loop-key.invariant

pub returns : goal.returns
returns c = λ hits shows.
    pairs_over c.loop-key.pairs.items c.loop-key.key-iterator _ c.in-None.ensures.steps.0 c.loop-key.invariant
    ∙ pairs_are c.args.self.hits hits c.into_iter-key-iterator.ensures.into_iter_gives.5 shows
