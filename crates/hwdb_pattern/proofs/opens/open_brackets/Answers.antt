use Rattle.std.proofs.Common.{◌-◌, length, replicate, true, refl, arith}
use Rattle.std.proofs.lemmas.List.{take_rest}
use Rattle.hwdb_pattern.proofs.OpenLemmas.{known_left, never_at_end, open_start}
use Rattle.hwdb_pattern.proofs.opens.open_brackets.Goals as goal

pub loop-at-init : goal.loop-at-init
loop-at-init c = record {
  within = omega arith;
  size = refl;
  «open» = open_start c.args.pattern.now 4096;
  ahead = never_at_end c.args.pattern.now (length c.args.pattern.now) (replicate 12 true) (omega arith);
}

pub begins_none-requires-clause-ahead : goal.begins_none-requires-clause-ahead
begins_none-requires-clause-ahead c =
    known_left c.args.pattern.now _ c.loop-at.ahead c.loop-at.at (take_rest c.args.pattern.now (c.loop-at.at - 1)) (omega arith) c.loop-at.invariant.ahead

pub never_close-requires-clause-ahead : goal.never_close-requires-clause-ahead
never_close-requires-clause-ahead c =
    known_left c.args.pattern.now _ c.loop-at.ahead c.loop-at.at (take_rest c.args.pattern.now (c.loop-at.at - 1)) (omega arith) c.loop-at.invariant.ahead
