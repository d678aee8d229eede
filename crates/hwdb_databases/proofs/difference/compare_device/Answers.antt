use Rattle.std.proofs.Common.{ap, map, ◌∙◌, ◌++◌}
use Rattle.hwdb_spec_commands.specs.ChangeForms.{device_changes_form}
use Rattle.hwdb_spec_commands.specs.Differences.{are_some}
use Rattle.hwdb_spec_commands.specs.Reviews.{review_in}
use Rattle.hwdb_databases.specs.Views.{assignment_of, change_shown}
use Rattle.hwdb_databases.proofs.GivenLemmas.{counted_gifts}
use Rattle.hwdb_databases.proofs.difference.compare_device.Goals as goal

pub returns-clause-text : goal.returns-clause-text
returns-clause-text c =
    let device = c.args.device.now in
    let old = ap (map assignment_of) c.deref.ensures.value ∙ c.in_ok-old_ones.ensures in
    let new = ap (map assignment_of) c.deref-2.ensures.value ∙ c.in_ok-new_ones.ensures in
    let all = counted_gifts (review_in c.args.review.now) device c.args.sides.old.now c.args.sides.new.now _ _ _ _ c.in_ok-changes.ensures c.new.ensures old new in
    c.in_ok-push_device_form.ensures ∙ ap (λ cs. c.args.text.now.items ++ device_changes_form c.args.review.now.json (review_in c.args.review.now).layout device cs) (ap (map change_shown) c.deref-3.ensures.value ∙ all)

pub returns-clause-differs : goal.returns-clause-differs
returns-clause-differs c =
    let device = c.args.device.now in
    let old = ap (map assignment_of) c.deref.ensures.value ∙ c.in_ok-old_ones.ensures in
    let new = ap (map assignment_of) c.deref-2.ensures.value ∙ c.in_ok-new_ones.ensures in
    let all = counted_gifts (review_in c.args.review.now) device c.args.sides.old.now c.args.sides.new.now _ _ _ _ c.in_ok-changes.ensures c.new.ensures old new in
    c.are_any.ensures ∙ ap (λ cs. are_some (map change_shown cs)) c.deref-4.ensures.value ∙ ap are_some all
