use Rattle.std.proofs.Common.{Bool, IfOk, if◌then◌else◌, map, subst, sym}
use Rattle.hwdb_check.specs.Checks.{source_of}
use Rattle.hwdb_spec_commands.specs.Comparisons.{comparison_form, comparison_said, devices_named, has_changed}
use Rattle.hwdb_spec_commands.specs.Databases.{IsDiffText, IsDifferent}
use Rattle.hwdb_spec_commands.specs.Reviews.{review_in}
use Rattle.hwdb_spec_commands.specs.SampleDevices.{samples_differ, samples_form, samples_said}
use Rattle.hwdb_tool.proofs.diff_command.changes_of.Goals as goal

-- ---- for devices that are made
pub returns-then-review-clause-text : goal.returns-then-review-clause-text
returns-then-review-clause-text c =
    let r = review_in c.args.review.now in
    let devices = devices_named (map source_of c.args.files.now) in
    subst (λ (b : Bool). IfOk c.diff_samples.result (λ changes. IsDiffText (λ old new. if b then samples_form r old new else comparison_form r devices old new) c.args.old.now c.args.new.now changes.text.items)) (sym c.if-review.true) c.diff_samples.ensures.text

pub returns-then-review-clause-said : goal.returns-then-review-clause-said
returns-then-review-clause-said c =
    let r = review_in c.args.review.now in
    let devices = devices_named (map source_of c.args.files.now) in
    subst (λ (b : Bool). IfOk c.diff_samples.result (λ changes. IsDiffText (λ old new. if b then samples_said r old new else comparison_said r devices old new) c.args.old.now c.args.new.now changes.said.items)) (sym c.if-review.true) c.diff_samples.ensures.said

pub returns-then-review-clause-differ : goal.returns-then-review-clause-differ
returns-then-review-clause-differ c =
    let r = review_in c.args.review.now in
    let devices = devices_named (map source_of c.args.files.now) in
    subst (λ (b : Bool). IfOk c.diff_samples.result (λ changes. IsDifferent (λ old new. if b then samples_differ r old new else has_changed r devices old new) c.args.old.now c.args.new.now changes.differ)) (sym c.if-review.true) c.diff_samples.ensures.differ

-- ---- for those of files
pub returns-clause-text : goal.returns-clause-text
returns-clause-text c =
    let r = review_in c.args.review.now in
    let devices = devices_named (map source_of c.args.files.now) in
    subst (λ (b : Bool). IfOk c.listed_changes.result (λ changes. IsDiffText (λ old new. if b then samples_form r old new else comparison_form r devices old new) c.args.old.now c.args.new.now changes.text.items)) (sym c.if-review.false) c.listed_changes.ensures.text

pub returns-clause-said : goal.returns-clause-said
returns-clause-said c =
    let r = review_in c.args.review.now in
    let devices = devices_named (map source_of c.args.files.now) in
    subst (λ (b : Bool). IfOk c.listed_changes.result (λ changes. IsDiffText (λ old new. if b then samples_said r old new else comparison_said r devices old new) c.args.old.now c.args.new.now changes.said.items)) (sym c.if-review.false) c.listed_changes.ensures.said

pub returns-clause-differ : goal.returns-clause-differ
returns-clause-differ c =
    let r = review_in c.args.review.now in
    let devices = devices_named (map source_of c.args.files.now) in
    subst (λ (b : Bool). IfOk c.listed_changes.result (λ changes. IsDifferent (λ old new. if b then samples_differ r old new else has_changed r devices old new) c.args.old.now c.args.new.now changes.differ)) (sym c.if-review.false) c.listed_changes.ensures.differ
