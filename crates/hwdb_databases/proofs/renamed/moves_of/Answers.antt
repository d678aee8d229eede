use Rattle.std.proofs.Common.{◌≡◌, arith, length}
use Rattle.hwdb_databases.proofs.RenamedLemmas.{known_more, nothing_noted}
use Rattle.hwdb_databases.proofs.renamed.moves_of.Goals as goal

pub loop-left-init : goal.loop-left-init
loop-left-init c = record {
  in_all = omega arith;
  known = nothing_noted c.new-moves.result c.args.groups.now (length c.args.groups.now) c.new-moves.ensures.empty (omega arith);
}

pub loop-left-preserved : goal.loop-left-preserved
loop-left-preserved c = record {
  in_all = omega (arith, c.loop-left.invariant.in_all);
  known = known_more c.loop-left.moves c.note_came.new.moves c.note_went.new.moves c.args.groups.now c.loop-left.left c.index-groups-left.result c.loop-left-test.true c.loop-left.invariant.in_all
      c.index-groups-left.is c.loop-left.invariant.known c.in_ok-note_came.ensures c.in_ok-note_went.ensures;
}
