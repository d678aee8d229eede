use Rattle.hwdb_system.specs.Raw.{bytes_of, kinds_at}
use Rattle.hwdb_system.proofs.RawLemmas.{untold_as}
use Rattle.hwdb_system.proofs.reads.database_at.Goals as goal

pub returns-in-Err-clause-exact : goal.returns-in-Err-clause-exact
returns-in-Err-clause-exact g c = λ t.
    untold_as (kinds_at (g.F.RawFiles.entry c.args.files.now c.args.path.now) (g.F.RawFiles.kind c.args.files.now) c.args.place.now) (λ k. bytes_of k (g.F.RawFiles.contents c.args.files.now c.args.place.now)) c.in-Err.cause c.args.path.now c.untold.result (c.in-Err.ensures t) c.untold.ensures.exact
