use Rattle.hwdb_system.proofs.RawLemmas.{missing_as}
use Rattle.hwdb_system.proofs.reads.kind_at.Goals as goal

pub returns-in-Err : goal.returns-in-Err
returns-in-Err g c = λ t.
    missing_as (g.F.RawFiles.entry c.args.files.now c.args.path.now) (g.F.RawFiles.kind c.args.files.now c.args.place.now) c.in-Err.cause c.missing_cause.result (c.in-Err.ensures t) (c.missing_cause.ensures t)
