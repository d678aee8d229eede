use Rattle.hwdb_system.specs.Raw.{failed}
use Rattle.hwdb_system.proofs.RawLemmas.{other_as}
use Rattle.hwdb_system.proofs.reads.bytes_of.Goals as goal

pub returns-in-Some-clause-exact : goal.returns-in-Some-clause-exact
returns-in-Some-clause-exact g c = λ t.
    other_as _ (failed c.in-Some.cause) c.args.path.now c.untold.result (c.in-Some.ensures (g.F.RawFiles.contents c.args.files.now c.args.place.now)) c.untold.ensures.exact
