use Rattle.std.proofs.Common.{◌∙◌, ◌<◌, add-one, ap, arith, length, subst, sym}
use Rattle.hwdb_databases.specs.Internal.Trails.{AreAlike, bytes_of}
use Rattle.hwdb_databases.proofs.TrailLemmas.{one_alike}
use Rattle.hwdb_databases.proofs.trail.alike.Goals as goal

pub segments-preserved : goal.segments-preserved
segments-preserved c =
    let n = c.segments.n in
    let olds = c.args.old.now in
    let news = c.args.new.now in
    let x = c.index-old-n.result in
    let y = c.index-new-n.result in
    let least = c.min-most.ensures in
    let more = c.segments-test.true in
    let within_old : n < length olds = omega (arith, least, more) in
    let within_new : n < length news = omega (arith, least, more) in
    let one = ap bytes_of (sym c.index-old-n.is) ∙ c.are_same.ensures c.if-not-are_same.false ∙ ap bytes_of c.index-new-n.is in
    subst (λ m. AreAlike m olds news) (sym (add-one n)) (one_alike n olds news x y within_old within_new c.segments.invariant one)
