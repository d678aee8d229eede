use Rattle.std.proofs.Common.{refl, arith}
use Rattle.std.proofs.lemmas.Result.{err_from_is_err_and}
use Rattle.hwdb_reader.specs.Internal.Placed.{visit}
use Rattle.hwdb_reader.proofs.NodeLemmas.{node_open, fault_stands, place_stands, no_levels}
use Rattle.hwdb_reader.proofs.walk.check_record.Goals as goal

pub returns-in_default-clause-fault : goal.returns-in_default-clause-fault
returns-in_default-clause-fault c = place_stands c.args.l.sizes c.args.b.now (visit c.args.levels c.args.from c.args.off c.args.limit) c.requires.visited (λ f. c.in_default.ensures f)

pub returns-then-levels-eq0-clause-err : goal.returns-then-levels-eq0-clause-err
returns-then-levels-eq0-clause-err c n = no_levels c.args.l.sizes c.args.b.now c.args.levels c.args.from c.args.off _ c.if-levels-eq0.true n.1

pub returns-then-levels-eq0-clause-fault : goal.returns-then-levels-eq0-clause-fault
returns-then-levels-eq0-clause-fault c =
    let e = c.in-Some.ensures in
    fault_stands c.args.l.sizes c.args.b.now (visit c.args.levels c.args.from c.args.off c.args.limit) _ c.requires.visited e.0 (refl, c.if-levels-eq0.true)

pub returns-in_err-check_fields-clause-err : goal.returns-in_err-check_fields-clause-err
returns-in_err-check_fields-clause-err c =
    let p = err_from_is_err_and c.from_residual.result c.from_residual.ensures.1 in
    rw p.1 (λ n. let q = node_open c.args.l.sizes c.args.b.now c.args.levels c.args.from c.args.off (omega arith) n.1 in c.in_err-check_fields.ensures.err (q.prefix, q.values))

pub returns-in_err-check_fields-clause-fault : goal.returns-in_err-check_fields-clause-fault
returns-in_err-check_fields-clause-fault c =
    let e = c.in-Some.ensures in
    let p = err_from_is_err_and c.from_residual.result c.from_residual.ensures.1 in
    rw (p.1, p.2) (fault_stands c.args.l.sizes c.args.b.now (visit c.args.levels c.args.from c.args.off c.args.limit) _ c.requires.visited e.0 (c.in_err-check_fields.ensures.fault c.args.levels c.args.from c.args.limit))
