use Rattle.std.proofs.Common.{◌≡◌, map, ◌++◌, filter}
use Rattle.hwdb_rulefiles.specs.RuleOrder.{has_rank, lacks_rank}
use Rattle.hwdb_rulefiles.specs.TokenViews.{token_of}
use Rattle.hwdb_rulefiles.proofs.order.split.Given as goal

abbrev pub invariant-loop-token : goal.invariant-loop-token
invariant-loop-token l = record {
  same : map token_of l.sorted.items ≡ map token_of l.initial.sorted.items ++ filter (has_rank l.wanted) (map token_of l.yielded);
  others : map token_of l.others.items ≡ filter (lacks_rank l.wanted) (map token_of l.yielded);
}
