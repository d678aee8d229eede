use Rattle.std.proofs.Common.{◌∙◌, ap, map, sym, reverse, take}
use Rattle.std.proofs.lemmas.List.{map_more}
use Rattle.hwdb_near.specs.Views.{pattern_at}
use Rattle.hwdb_near.specs.Internal.Ratings.{hitting, misses, rated_of}
use Rattle.hwdb_near.proofs.NearestLemmas.{hitting_more, misses_more}
use Rattle.hwdb_near.proofs.nearest.all_found.Goals as goal

pub loop-at-init : goal.loop-at-init
loop-at-init c = record { matching = ap (map pattern_at) c.new.ensures.items; nearest = ap (map rated_of) c.new-2.ensures.items }

pub put-requires-clause-reversed : goal.put-requires-clause-reversed
put-requires-clause-reversed c = c.deref-2.ensures.value ∙ c.reverse.ensures.items ∙ ap reverse (c.in_ok-reversed.ensures ∙ sym (c.deref.ensures.value ∙ c.in_ok-folded.ensures))

pub loop-at-preserved : goal.loop-at-preserved
loop-at-preserved c =
    let device = c.args.device.now in
    let patterns = c.args.patterns.now in
    let i = c.loop-at.at-index in
    let more = map_more pattern_at patterns i _ c.loop-at-test.true in
    record {
      matching = hitting_more device (map pattern_at (take i patterns)) _ _ _ c.loop-at.invariant.matching c.in_ok-put.ensures.matching ∙ ap (hitting device) (sym more);
      nearest = misses_more device (map pattern_at (take i patterns)) _ _ _ c.loop-at.invariant.nearest c.in_ok-put.ensures.nearest ∙ ap (misses device) (sym more);
    }
