use Rattle.std.proofs.Common.{◌≡◌, ◌≤◌, ◌<◌, ◌+◌, ◌-◌, ℕ, length, get_or}
use Rattle.std.specs.declared.cmp.Ordering.TheVariants.{Less}
use Rattle.hwdb_text.specs.declared.outcome.Given.{Given}
use Rattle.hwdb_check.specs.Internal.{by_place}
use Rattle.hwdb_check.proofs.replacements.ascend.Given as goal

abbrev pub invariant-loop-at : goal.invariant-loop-at
invariant-loop-at l = record {
  some : 1 ≤ l.at;
  pairs : (k : ℕ) (d : Given) → k + 1 < l.at → k + 1 < length l.all → by_place (get_or l.all k d) (get_or l.all (k + 1) d) ≡ Less;
}

abbrev pub decreases-loop-at : goal.decreases-loop-at
decreases-loop-at l = length l.all - l.at
