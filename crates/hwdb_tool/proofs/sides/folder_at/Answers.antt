use Rattle.std.proofs.Common.{List, ap, map, string_bytes, subst, sym, true, false, ◌==◌, ◌∙◌, ◌≡◌, length, ℕ, Ok, Err}
use Rattle.std.proofs.lemmas.List.{length-map}
use Rattle.hwdb_spec_commands.specs.CheckedFiles.{folder_of}
use Rattle.hwdb_text.specs.Views.{choice_of}
use Rattle.hwdb_text.specs.declared.choice.Chosen.{Chosen}
use Rattle.hwdb_plan.specs.Folders.{Texts, texts_of_folders}
use Rattle.hwdb_plan.specs.Lemmas.Folders.{value_stops, value_then}
use Rattle.hwdb_plan.specs.Lemmas.Sides.{no_root, some_root}
use Rattle.hwdb_plan.specs.Plans.{Plan, ReachesValue}
use Rattle.hwdb_plan.specs.Sides.{root_made}
use Rattle.hwdb_system.specs.Selections.{texts_in}
use Rattle.hwdb_tool.proofs.SidePlanLemmas.{items}
use Rattle.hwdb_tool.proofs.sides.folder_at.Goals as goal

abbrev made : (path : List ℕ) (names : List (List ℕ)) → Texts → (List ℕ → Plan) → Plan
made path names texts next = root_made path names texts.chosen texts.texts next

pub returns-in_err-selection : goal.returns-in_err-selection
returns-in_err-selection g c = record {
  told = λ tells.
      let w = g.D.System.reads c.args.system.now in
      let path = c.args.path.now in
      let r = c.in_err-selection.field-0.0 in
      value_stops w texts_in items (texts_of_folders (folder_of path)) (made path (map string_bytes c.args.names.now)) r c.from_residual.result
      (subst (λ p. ReachesValue texts_in w (texts_of_folders p) (Err r)) c.folder_of.ensures (c.in_err-selection.ensures.told tells)) c.from_residual.ensures.1;
}

pub returns-then-are_none : goal.returns-then-are_none
returns-then-are_none g c = record {
  told = λ tells.
      let w = g.D.System.reads c.args.system.now in
      let path = c.args.path.now in
      let names = map string_bytes c.args.names.now in
      let s = c.in_ok-selection.selection in
      let none : (length (map choice_of s.chosen.items) == 0) ≡ true = ap (λ (n : ℕ). n == 0) (length-map s.chosen.items choice_of) ∙ ap (λ (l : List Chosen). length l == 0) (sym c.deref.ensures.value) ∙ sym c.are_none.ensures ∙ c.if-are_none.true in
      value_then w texts_in items (texts_of_folders (folder_of path)) (made path names) s c.own_texts.result
      (subst (λ p. ReachesValue texts_in w (texts_of_folders p) (Ok s)) c.folder_of.ensures (c.in_ok-selection.ensures.told tells))
      (no_root w items path names (map choice_of s.chosen.items) (map (λ t. t.items) s.texts.items) c.own_texts.result none (c.own_texts.ensures.told tells));
}

pub returns : goal.returns
returns g c = record {
  told = λ tells.
      let w = g.D.System.reads c.args.system.now in
      let seen = g.D.Store.seen c.args.system.now in
      let path = c.args.path.now in
      let names = map string_bytes c.args.names.now in
      let s = c.in_ok-selection.selection in
      let some : (length (map choice_of s.chosen.items) == 0) ≡ false = ap (λ (n : ℕ). n == 0) (length-map s.chosen.items choice_of) ∙ ap (λ (l : List Chosen). length l == 0) (sym c.deref.ensures.value) ∙ sym c.are_none.ensures ∙ c.if-are_none.false in
      value_then w texts_in items (texts_of_folders (folder_of path)) (made path names) s c.root_bytes.result
      (subst (λ p. ReachesValue texts_in w (texts_of_folders p) (Ok s)) c.folder_of.ensures (c.in_ok-selection.ensures.told tells))
      (some_root w items path names (map choice_of s.chosen.items) (map (λ t. t.items) s.texts.items) c.root_bytes.result some
      (c.root_bytes.ensures.told w c.folder_of.result.now seen (c.in_ok-selection.ensures.selected tells)));
}
