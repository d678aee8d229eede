use Rattle.std.proofs.Common.{All, Global, Vec, [], ap, length, ℕ, ◌≤◌, sym, ◌∙◌, ◌∷◌, ◌≡◌, ◌⊎◌, ◌++◌, inr, map, rules, subst}
use Rattle.std.proofs.lemmas.List.{map-append}
use Rattle.std.proofs.lemmas.List.Elements.{All-more, All-push}
use Rattle.hwdb_spec.specs.Folders.{path_of}
use Rattle.hwdb_spec.specs.Texts.{max_file}
use Rattle.hwdb_text.specs.declared.choice.Chosen.{Chosen}
use Rattle.hwdb_text.specs.Views.{choice_of}
use Rattle.hwdb_spec_commands.specs.Reading.{IsChosenUnread, IsFirstUnread, IsText}
use Rattle.hwdb_spec_commands.specs.declared.refusals.Refusal.TheVariants.{Plain}
use Rattle.hwdb_spec.specs.declared.errors.ToolError.TheVariants.{Memory}
use Rattle.hwdb_system.proofs.SelectionLemmas.{chosen_unread, first_unread, texts_more}
use Rattle.hwdb_system.proofs.SelectionPlanLemmas.{reached_all, reached_more, reached_stops}
use Rattle.hwdb_system.proofs.folders.read_chosen.Goals as goal
use Rattle.hwdb_spec.specs.Lemmas.Calls.{given_error}

pub returns-in_err-bytes-clause-refused : goal.returns-in_err-bytes-clause-refused
returns-in_err-bytes-clause-refused g c =
    given_error c.in_err-bytes.field-0.0 (λ r. (r ≡ Plain Memory) ⊎ IsChosenUnread c.args.root.now (map choice_of c.args.chosen.now) r) c.from_residual.result c.from_residual.ensures.1
    (inr (chosen_unread c.args.root.now c.args.chosen.now c.loop-file.file-index c.file-item.result _ c.file-item.is c.loop-file-test.true c.in_err-bytes.ensures.refused))

pub returns-in_err-bytes-clause-first : goal.returns-in_err-bytes-clause-first
returns-in_err-bytes-clause-first g c = λ tells.
    let seen = g.D.Store.seen c.args.system.now in
    given_error c.in_err-bytes.field-0.0 (λ r. (r ≡ Plain Memory) ⊎ IsFirstUnread c.args.root.now seen (map choice_of c.args.chosen.now) r) c.from_residual.result c.from_residual.ensures.1
    (inr (first_unread c.args.root.now seen c.args.chosen.now c.loop-file.file-index c.file-item.result _ c.file-item.is c.loop-file-test.true (c.loop-file.invariant.texts tells) c.in_err-bytes.ensures.refused))

pub loop-file-preserved : goal.loop-file-preserved
loop-file-preserved g c =
    let text = λ (x : Chosen). IsText (g.D.Store.seen c.args.system.now) (c.args.root.now ++ path_of (choice_of x)) in
    let items = λ (v : Vec ℕ Global). v.items in
    let short = λ (v : Vec ℕ Global). length v.items ≤ max_file in
    let more : c.push.new.self.items ≡ c.loop-file.texts.items ++ c.in_ok-bytes.bytes ∷ [] = search rules in
    record {
      count = search rules;
      read = λ tells. texts_more c.args.root.now (g.D.Store.seen c.args.system.now) c.args.chosen.now c.loop-file.file-index c.file-item.result _ _ _
          (c.loop-file.invariant.read tells) c.file-item.is c.loop-file-test.true (c.in_ok-bytes.ensures.read tells)
          (ap (map items) more ∙ map-append items c.loop-file.texts.items (c.in_ok-bytes.bytes ∷ []));
      reached = λ tells. reached_more (g.D.System.reads c.args.system.now) c.args.root.now c.args.chosen.now c.loop-file.file-index c.file-item.result (map items c.loop-file.texts.items)
          c.loop-file-test.true c.file-item.is (c.loop-file.invariant.reached tells) c.in_ok-bytes.bytes.items _ (c.in_ok-bytes.ensures.told tells)
          (ap (map items) more ∙ map-append items c.loop-file.texts.items (c.in_ok-bytes.bytes ∷ []));
      texts = λ tells. All-more text c.args.chosen.now c.loop-file.file-index c.file-item.result c.loop-file-test.true (c.loop-file.invariant.texts tells)
          (subst text c.file-item.is (record { bytes = c.in_ok-bytes.bytes.items; there = c.in_ok-bytes.ensures.read tells; within = let h = c.in_ok-bytes.ensures.within in search rules }));
      within = subst (All short) (sym more) (All-push short c.loop-file.texts.items c.in_ok-bytes.bytes c.loop-file.invariant.within (let h = c.in_ok-bytes.ensures.within in search rules));
    }

pub returns-in_err-bytes-clause-told : goal.returns-in_err-bytes-clause-told
returns-in_err-bytes-clause-told g c = λ tells.
    let items = λ (v : Vec ℕ Global). v.items in
    reached_stops (g.D.System.reads c.args.system.now) c.args.root.now c.args.chosen.now c.loop-file.file-index c.file-item.result (map items c.loop-file.texts.items)
    c.loop-file-test.true c.file-item.is (c.loop-file.invariant.reached tells) (λ texts. map items texts.items) c.in_err-bytes.field-0.0 c.from_residual.result (c.in_err-bytes.ensures.told tells) c.from_residual.ensures.1

pub returns-clause-told : goal.returns-clause-told
returns-clause-told g c = λ tells.
    let items = λ (v : Vec ℕ Global). v.items in
    reached_all (g.D.System.reads c.args.system.now) c.args.root.now c.args.chosen.now c.loop-file.file-index (map items c.loop-file.texts.items) c.loop-file-test.false (c.loop-file.invariant.reached tells)
