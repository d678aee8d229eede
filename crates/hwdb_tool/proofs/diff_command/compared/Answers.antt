use Rattle.std.proofs.Common.{◌≡◌, Bool, List, map, subst, sym, ℕ, Err, Ok, Result, ap}
use Rattle.hwdb_check.specs.Checks.{source_of}
use Rattle.hwdb_spec_commands.specs.SampleDevices.{told_changed, told_form, told_said}
use Rattle.hwdb_spec_commands.specs.Databases.{IsDiffText, IsDifferent}
use Rattle.hwdb_plan.specs.Diff.{change_of, compared}
use Rattle.hwdb_plan.specs.Lemmas.Diff.{compared_end, pair_told, uncompared_end}
use Rattle.hwdb_plan.specs.Lemmas.Folders.{value_ends, value_ends_in}
use Rattle.hwdb_plan.specs.Plans.{End, Plan}
use Rattle.hwdb_plan.specs.Sides.{side}
use Rattle.hwdb_spec_commands.specs.declared.unread.Unread.{Unread}
use Rattle.hwdb_spec.specs.Tree.{Tree}
use Rattle.hwdb_tool.specs.Views.{end_of}
use Rattle.hwdb_tool.proofs.SidePlanLemmas.{items}
use Rattle.hwdb_spec_commands.specs.DiffErrors.{IsDiffRefusal}
use Rattle.hwdb_spec_commands.specs.Reviews.{review_in}
use Rattle.hwdb_tool.proofs.diff_command.compared.Goals as goal

-- what is so of two texts, of others that are the same
moved : (A : Type 0) (P : List ℕ → List ℕ → A → Type 0) (x y u v : List ℕ) → x ≡ y → u ≡ v → (a : A) → P x u a → P y v a
moved A P x y u v one other a h = subst (λ (l : List ℕ). P l v a) one (subst (λ (l : List ℕ). P x l a) other h)

-- what follows one side, and what follows both
abbrev after_old : (told : Result (List ℕ) Unread) (old_path new_path : List ℕ) (say : Tree → Tree → End) → List ℕ → Plan
after_old told old_path new_path say old = side told new_path (λ new. compared old_path new_path old new say)

pub returns-in_err-old-clause-follows : goal.returns-in_err-old-clause-follows
returns-in_err-old-clause-follows g c = λ tells one.
    let w = g.D.System.reads c.args.system.now in
    let old_path = c.args.asked.old.now in
    let say = change_of (review_in c.args.asked.review.now) (map source_of c.args.files.now) in
    let told = c.in_err-old.ensures.told tells in (
      told.0,
      told.1,
      value_ends_in w items end_of (side told.0 old_path) (after_old told.0 old_path c.args.asked.new.now say) c.in_err-old.field-0.0 c.from_residual.result told.2 c.from_residual.ensures.1,
    )

pub returns-in_err-new-clause-follows : goal.returns-in_err-new-clause-follows
returns-in_err-new-clause-follows g c = λ tells one.
    let w = g.D.System.reads c.args.system.now in
    let left = g.I.Source.left in
    let failures = g.I.Source.failures in
    let old_path = c.args.asked.old.now in
    let new_path = c.args.asked.new.now in
    let say = change_of (review_in c.args.asked.review.now) (map source_of c.args.files.now) in
    let r = c.in_err-new.field-0.0 in
    let told = pair_told w items items old_path new_path (left c.args.input.now) (left c.side.new.input) (failures c.args.input.now) (failures c.side.new.input) (failures c.side-2.new.input)
    (Ok c.in_ok-old.old) (Err r) one (λ plain. (ap left (c.in_ok-old.ensures.unread plain), ap failures (c.in_ok-old.ensures.unread plain))) (λ plain. ap failures (c.in_err-new.ensures.unread plain))
    (c.in_ok-old.ensures.told tells) (c.in_err-new.ensures.told tells) in (
      told.0,
      told.1,
      value_ends w items end_of (side told.0 old_path) (after_old told.0 old_path new_path say) c.in_ok-old.old c.from_residual-in_err-new.result told.2.0
          (value_ends_in w items end_of (side told.0 new_path) (λ new. compared old_path new_path c.in_ok-old.old.items new say) r c.from_residual-in_err-new.result told.2.1 c.from_residual-in_err-new.ensures.1),
    )

pub returns-clause-follows : goal.returns-clause-follows
returns-clause-follows g c = λ tells one.
    let w = g.D.System.reads c.args.system.now in
    let left = g.I.Source.left in
    let failures = g.I.Source.failures in
    let old_path = c.args.asked.old.now in
    let new_path = c.args.asked.new.now in
    let sources = map source_of c.args.files.now in
    let say = change_of (review_in c.args.asked.review.now) sources in
    let told = pair_told w items items old_path new_path (left c.args.input.now) (left c.side.new.input) (failures c.args.input.now) (failures c.side.new.input) (failures c.side-2.new.input)
    (Ok c.in_ok-old.old) (Ok c.in_ok-new.new) one (λ plain. (ap left (c.in_ok-old.ensures.unread plain), ap failures (c.in_ok-old.ensures.unread plain))) (λ plain. ap failures (c.in_ok-new.ensures.unread plain))
    (c.in_ok-old.ensures.told tells) (c.in_ok-new.ensures.told tells) in (
      told.0,
      told.1,
      value_ends w items end_of (side told.0 old_path) (after_old told.0 old_path new_path say) c.in_ok-old.old (Err c.refusal_of.result) told.2.0
          (value_ends w items end_of (side told.0 new_path) (λ new. compared old_path new_path c.in_ok-old.old.items new say) c.in_ok-new.new (Err c.refusal_of.result) told.2.1
          (uncompared_end w c.law_one_tree.ensures (review_in c.args.asked.review.now) sources old_path new_path c.in_ok-old.old.items c.in_ok-new.new.items c.in-Err.error c.refusal_of.result
          (subst (λ (o : List ℕ). IsDiffRefusal o c.in_ok-new.new.items c.in-Err.error) c.deref.ensures.value
          (subst (λ (n : List ℕ). IsDiffRefusal c.deref.result.now n c.in-Err.error) c.deref-2.ensures.value c.in-Err.ensures.errors)) c.refusal_of.ensures.stops)),
    )

pub returns-in-Ok-clause-follows : goal.returns-in-Ok-clause-follows
returns-in-Ok-clause-follows g c = λ tells one.
    let w = g.D.System.reads c.args.system.now in
    let left = g.I.Source.left in
    let failures = g.I.Source.failures in
    let old_path = c.args.asked.old.now in
    let new_path = c.args.asked.new.now in
    let sources = map source_of c.args.files.now in
    let r = review_in c.args.asked.review.now in
    let say = change_of r sources in
    let olds = c.in_ok-old.old.items in
    let news = c.in_ok-new.new.items in
    let changes = c.in-Ok.changes in
    let o = c.deref.ensures.value in
    let n = c.deref-2.ensures.value in
    let text = moved (List ℕ) (IsDiffText (told_form r sources)) c.deref.result.now olds c.deref-2.result.now news o n changes.text.items c.in-Ok.ensures.text in
    let said = moved (List ℕ) (IsDiffText (told_said r sources)) c.deref.result.now olds c.deref-2.result.now news o n changes.said.items c.in-Ok.ensures.said in
    let differs = moved Bool (IsDifferent (told_changed r sources)) c.deref.result.now olds c.deref-2.result.now news o n changes.differ c.in-Ok.ensures.differ in
    let told = pair_told w items items old_path new_path (left c.args.input.now) (left c.side.new.input) (failures c.args.input.now) (failures c.side.new.input) (failures c.side-2.new.input)
    (Ok c.in_ok-old.old) (Ok c.in_ok-new.new) one (λ plain. (ap left (c.in_ok-old.ensures.unread plain), ap failures (c.in_ok-old.ensures.unread plain))) (λ plain. ap failures (c.in_ok-new.ensures.unread plain))
    (c.in_ok-old.ensures.told tells) (c.in_ok-new.ensures.told tells) in (
      told.0,
      told.1,
      value_ends w items end_of (side told.0 old_path) (after_old told.0 old_path new_path say) c.in_ok-old.old (Ok c.answer_of.result) told.2.0
          (value_ends w items end_of (side told.0 new_path) (λ new. compared old_path new_path olds new say) c.in_ok-new.new (Ok c.answer_of.result) told.2.1
          (compared_end w c.law_one_tree.ensures r sources old_path new_path olds news changes.differ c.answer_of.result.status c.answer_of.result.err.items c.answer_of.result.out.items
          (subst (IsDiffText (told_form r sources) olds news) (sym c.answer_of.ensures.out) text) (subst (IsDiffText (told_said r sources) olds news) (sym c.answer_of.ensures.err) said)
          differs c.answer_of.ensures.status)),
    )
