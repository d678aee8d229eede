use Rattle.std.proofs.Common.{◌≡◌, map, ◌++◌, ◌+◌}
use Rattle.hwdb_rulefiles.specs.RuleOrder.{by_rank}
use Rattle.hwdb_rulefiles.specs.TokenViews.{token_of}
use Rattle.hwdb_rulefiles.proofs.order.in_order.Given as goal

abbrev pub invariant-loop-most : goal.invariant-loop-most
invariant-loop-most l = record {
  sofar : map token_of l.sorted.items ++ by_rank l.most l.wanted (map token_of l.rest.items) ≡ by_rank 45 0 (map token_of l.initial.rest.items);
  count : l.wanted + l.most ≡ 45;
}

abbrev pub decreases-loop-most : goal.decreases-loop-most
decreases-loop-most l = l.most
