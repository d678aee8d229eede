use Rattle.std.proofs.Common.{◌∙◌, ◌++◌, ap}
use Rattle.hwdb_databases.specs.Internal.Trails.{bytes_of}
use Rattle.hwdb_databases.proofs.TrailLemmas.{path_more}
use Rattle.hwdb_databases.proofs.trail.push_path.Goals as goal

pub loop-segment-preserved : goal.loop-segment-preserved
loop-segment-preserved c =
    let s = c.segment-item.result in
    c.in_ok-push_segment.ensures ∙ ap (λ t. t ++ bytes_of s) c.loop-segment.invariant
    ∙ path_more c.args.text.now.items c.args.segments.now c.loop-segment.segment-index s c.loop-segment-test.true c.segment-item.is
