use Rattle.std.proofs.Common.{ap, map, ◌∙◌}
use Rattle.hwdb_spec_commands.specs.ChangeCounts.{with_told}
use Rattle.hwdb_spec_commands.specs.Differences.{are_some}
use Rattle.hwdb_spec_commands.specs.Reviews.{review_in}
use Rattle.hwdb_databases.specs.Internal.Counts.{stat_shown}
use Rattle.hwdb_databases.specs.Views.{assignment_of, change_shown}
use Rattle.hwdb_databases.proofs.GivenLemmas.{counted_gifts}
use Rattle.hwdb_databases.proofs.counting.count_device.Goals as goal

pub returns-clause-stat : goal.returns-clause-stat
returns-clause-stat c =
    let old = ap (map assignment_of) c.deref.ensures.value ∙ c.in_ok-old_ones.ensures in
    let new = ap (map assignment_of) c.deref-2.ensures.value ∙ c.in_ok-new_ones.ensures in
    c.in_ok-add_told.ensures
    ∙ ap (λ cs. with_told (stat_shown c.args.stat.now) cs)
    (ap (map change_shown) c.deref-3.ensures.value ∙ counted_gifts (review_in c.args.review.now) c.args.device.now c.args.sides.old.now c.args.sides.new.now _ _ _ _ c.in_ok-changes.ensures c.new.ensures old new)

pub returns-clause-differs : goal.returns-clause-differs
returns-clause-differs c =
    let old = ap (map assignment_of) c.deref.ensures.value ∙ c.in_ok-old_ones.ensures in
    let new = ap (map assignment_of) c.deref-2.ensures.value ∙ c.in_ok-new_ones.ensures in
    c.are_any.ensures ∙ ap (λ cs. are_some (map change_shown cs)) c.deref-4.ensures.value ∙ ap are_some (counted_gifts (review_in c.args.review.now) c.args.device.now c.args.sides.old.now c.args.sides.new.now _ _ _ _ c.in_ok-changes.ensures c.new.ensures old new)
