use Rattle.std.proofs.Common.{◌∙◌, sym}
use Rattle.hwdb_system.specs.Raw.{kinds_at, text_of_kind}
use Rattle.hwdb_system.proofs.RawLemmas.{elsewhere_as, untold_as}
use Rattle.hwdb_system.proofs.reads.text_at.Goals as goal

pub returns-in-Err-clause-exact : goal.returns-in-Err-clause-exact
returns-in-Err-clause-exact g c = λ t.
    elsewhere_as (g.F.RawFiles.null_at c.args.files.now c.args.place.now) _ _ c.args.path.now c.untold.result (sym (c.is_null.ensures t) ∙ c.if-is_null.false)
    (untold_as (kinds_at (g.F.RawFiles.entry c.args.files.now c.args.path.now) (g.F.RawFiles.kind c.args.files.now) c.args.place.now) (λ k. text_of_kind k (g.F.RawFiles.contents c.args.files.now c.args.place.now)) c.in-Err.cause c.args.path.now c.untold.result (c.in-Err.ensures t) c.untold.ensures.exact)
