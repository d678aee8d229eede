use Rattle.hwdb_check.proofs.SoughtLemmas.{no_places, places_step}
use Rattle.hwdb_check.proofs.companions.places_of.Goals as goal

pub loop-given-init : goal.loop-given-init
loop-given-init c = no_places c.new-places.result c.new-places.ensures.empty

pub loop-given-preserved : goal.loop-given-preserved
loop-given-preserved c =
    places_step c.args.all.now c.loop-given.given-index _ c.loop-given.places _ c.loop-given-test.true c.in_ok-insert.ensures.updates.0 c.loop-given.invariant
