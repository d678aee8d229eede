use Rattle.std.proofs.Common.{ap, map, subst, sym, ℕ, IfOk, List, Option, ◌∙◌}
use Rattle.hwdb_spec_commands.specs.Comparisons.{comparison_form, comparison_said, has_changed}
use Rattle.hwdb_spec_commands.specs.Databases.{IsDiffText, IsDifferent}
use Rattle.hwdb_spec_commands.specs.Reviews.{review_in}
use Rattle.hwdb_tool.proofs.ComparisonLemmas.{all_named, none_named}
use Rattle.hwdb_tool.proofs.diff_command.listed_changes.Goals as goal

-- ---- without a file
pub returns-then-is_empty-clause-text : goal.returns-then-is_empty-clause-text
returns-then-is_empty-clause-text c =
    let same = none_named c.args.files.now (sym c.is_empty.ensures ∙ c.if-is_empty.true) in
    subst (λ (ds : Option (List (List ℕ))). IfOk c.diff.result (λ changes. IsDiffText (comparison_form (review_in c.args.review.now) ds) c.args.old.now c.args.new.now changes.text.items)) (sym same)
    c.diff.ensures.text

pub returns-then-is_empty-clause-said : goal.returns-then-is_empty-clause-said
returns-then-is_empty-clause-said c =
    let same = none_named c.args.files.now (sym c.is_empty.ensures ∙ c.if-is_empty.true) in
    subst (λ (ds : Option (List (List ℕ))). IfOk c.diff.result (λ changes. IsDiffText (comparison_said (review_in c.args.review.now) ds) c.args.old.now c.args.new.now changes.said.items)) (sym same)
    c.diff.ensures.said

pub returns-then-is_empty-clause-differ : goal.returns-then-is_empty-clause-differ
returns-then-is_empty-clause-differ c =
    let same = none_named c.args.files.now (sym c.is_empty.ensures ∙ c.if-is_empty.true) in
    subst (λ (ds : Option (List (List ℕ))). IfOk c.diff.result (λ changes. IsDifferent (has_changed (review_in c.args.review.now) ds) c.args.old.now c.args.new.now changes.differ)) (sym same)
    c.diff.ensures.differ

-- ---- for their devices
pub returns-clause-text : goal.returns-clause-text
returns-clause-text c =
    let same = all_named c.args.files.now (map (λ d. d.now) c.deref.result.now) (sym c.is_empty.ensures ∙ c.if-is_empty.false)
    (ap (map (λ d. d.now)) c.deref.ensures.value ∙ c.in_ok-devices.ensures) in
    subst (λ (ds : Option (List (List ℕ))). IfOk c.diff-2.result (λ changes. IsDiffText (comparison_form (review_in c.args.review.now) ds) c.args.old.now c.args.new.now changes.text.items)) (sym same)
    c.diff-2.ensures.text

pub returns-clause-said : goal.returns-clause-said
returns-clause-said c =
    let same = all_named c.args.files.now (map (λ d. d.now) c.deref.result.now) (sym c.is_empty.ensures ∙ c.if-is_empty.false)
    (ap (map (λ d. d.now)) c.deref.ensures.value ∙ c.in_ok-devices.ensures) in
    subst (λ (ds : Option (List (List ℕ))). IfOk c.diff-2.result (λ changes. IsDiffText (comparison_said (review_in c.args.review.now) ds) c.args.old.now c.args.new.now changes.said.items)) (sym same)
    c.diff-2.ensures.said

pub returns-clause-differ : goal.returns-clause-differ
returns-clause-differ c =
    let same = all_named c.args.files.now (map (λ d. d.now) c.deref.result.now) (sym c.is_empty.ensures ∙ c.if-is_empty.false)
    (ap (map (λ d. d.now)) c.deref.ensures.value ∙ c.in_ok-devices.ensures) in
    subst (λ (ds : Option (List (List ℕ))). IfOk c.diff-2.result (λ changes. IsDifferent (has_changed (review_in c.args.review.now) ds) c.args.old.now c.args.new.now changes.differ)) (sym same)
    c.diff-2.ensures.differ
