use Rattle.std.proofs.Common.{◌≡◌, ◌++◌, false, map, take}
use Rattle.hwdb_test.proofs.trials.count_malformed.Given as goal

abbrev pub invariant-loop-fault : goal.invariant-loop-fault
invariant-loop-fault l = l.held.items ≡ l.fn.held.items ++ map (λ f. false) (take l.fault-index l.wrong)
