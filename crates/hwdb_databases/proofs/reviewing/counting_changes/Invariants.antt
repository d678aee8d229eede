use Rattle.std.proofs.Common.{◌≡◌, ◌++◌, map}
use Rattle.std.specs.Prelude.{filter}
use Rattle.hwdb_spec_commands.specs.Reviews.{change_counts, review_in}
use Rattle.hwdb_databases.specs.Internal.Pairing.{size, to_tell}
use Rattle.hwdb_databases.specs.Views.{change_shown}
use Rattle.hwdb_databases.proofs.reviewing.counting_changes.Given as goal

abbrev pub invariant-pairs : goal.invariant-pairs
invariant-pairs l = map change_shown l.changes.items ++ filter (change_counts (review_in l.fn.review)) (to_tell l.left) ≡ filter (change_counts (review_in l.fn.review)) (to_tell l.initial.left)

abbrev pub decreases-pairs : goal.decreases-pairs
decreases-pairs l = size l.left
