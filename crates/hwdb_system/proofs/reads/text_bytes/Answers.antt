use Rattle.hwdb_system.specs.Raw.{kinds_at, text_at}
use Rattle.hwdb_system.proofs.RawLemmas.{untold_as}
use Rattle.hwdb_system.proofs.reads.text_bytes.Goals as goal

pub returns-in-Err-clause-exact : goal.returns-in-Err-clause-exact
returns-in-Err-clause-exact g c = λ t.
    untold_as (g.F.RawFiles.place c.args.files.now c.args.path.now) (text_at (g.F.RawFiles.null_at c.args.files.now) (kinds_at (g.F.RawFiles.entry c.args.files.now c.args.path.now) (g.F.RawFiles.kind c.args.files.now)) (g.F.RawFiles.contents c.args.files.now)) c.in-Err.cause c.args.path.now c.untold.result (c.in-Err.ensures t) c.untold.ensures.exact
