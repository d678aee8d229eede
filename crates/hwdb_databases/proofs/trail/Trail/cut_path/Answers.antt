use Rattle.std.proofs.Common.{◌≡◌, ◌∙◌, ◌<◌, ◌≤◌, ap, sym, arith, length, take}
use Rattle.std.proofs.Math.Seq.{take_all}
use Rattle.hwdb_databases.specs.Internal.Trails.{path_in}
use Rattle.hwdb_databases.specs.declared.trail.Segment.{Segment}
use Rattle.hwdb_databases.proofs.TrailLemmas.{cut_path, measured_at}
use Rattle.hwdb_databases.proofs.trail.Trail.cut_path.Goals as goal

pub returns-clause-path : goal.returns-clause-path
returns-clause-path c h =
    let all = c.args.self.now.segments.items in
    let read = c.len.ensures in
    let ok = c.args.self.now.segments.ok in
    let less = c.if-count-len.false in
    let few : c.args.count < length all = omega (arith, read, ok, less) in
    let at = ap (λ (s : Segment). s.from) c.index.ensures ∙ measured_at 0 c.args.count all c.index.result.now few h.measured in
    let from : c.index.result.now.from ≡ length (path_in (take c.args.count all)) = omega (arith, at) in
    c.truncate.ensures.items ∙ ap (λ n. take n c.args.self.now.path.items) from ∙ ap (take (length (path_in (take c.args.count all)))) h.path ∙ cut_path c.args.count all

pub returns-then-count-len-clause-path : goal.returns-then-count-len-clause-path
returns-then-count-len-clause-path c h =
    let all = c.args.self.now.segments.items in
    let read = c.len.ensures in
    let ok = c.args.self.now.segments.ok in
    let more = c.if-count-len.true in
    let many : length all ≤ c.args.count = omega (arith, read, ok, more) in
    h.path ∙ ap path_in (sym (take_all c.args.count all many))
