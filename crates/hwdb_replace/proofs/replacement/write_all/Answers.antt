use Rattle.std.proofs.Common.{rules, arith, ◌∙◌}
use Rattle.std.proofs.lemmas.Grind.{common_steps}
use Rattle.std.proofs.lemmas.List.{take_rest}
use Rattle.hwdb_replace.proofs.ComposedLemmas.{fills_by, fills_on}
use Rattle.hwdb_replace.proofs.MomentLemmas.{written_more}
use Rattle.hwdb_replace.proofs.replacement.write_all.Goals as goal

pub returns-in_err-written-clause-fills : goal.returns-in_err-written-clause-fills
returns-in_err-written-clause-fills g c =
    let e = c.write.ensures in
    fills_on c.loop-written.invariant.fills (fills_by _ _ e.part e.own e.others e.crash e.time)

pub loop-written-preserved : goal.loop-written-preserved
loop-written-preserved g c =
    let i = c.loop-written.invariant in
    let e = c.in_ok-written.ensures in
    let old = g.S.Store.seen c.args.store.now in
    let mid = g.S.Store.seen c.loop-written.store in
    let new = g.S.Store.seen c.write.new.self in
    record {
      within = grind (arith, common_steps);
      fills = fills_on i.fills (fills_by _ _ e.part e.own e.others e.crash e.time);
      written = λ t. written_more _ _ _ _ _ _ old mid new i.fills.part (search (rules, take_rest)) (i.written t) (e.written t);
      same = e.cause ∙ i.same;
    }
