use Rattle.std.proofs.Common.{List, Ok, Err, ap, inl, map, string_bytes, subst, sym, true, false, ◌∙◌, ◌≡◌}
use Rattle.hwdb_compile.specs.Views.{ForFolders}
use Rattle.hwdb_text.specs.Views.{bytes_in, choice_in}
use Rattle.hwdb_text.specs.declared.choice.ChosenFile.{ChosenFile}
use Rattle.hwdb_spec.specs.Folders.{Source}
use Rattle.hwdb_spec_commands.specs.OverText.{text_besides}
use Rattle.hwdb_text.specs.Views.{choice_of}
use Rattle.hwdb_tool.specs.Internal.{AreReadOf}
use Rattle.hwdb_tool.specs.Statuses.{AreMadeOf}
use Rattle.hwdb_tool.proofs.FolderLemmas.{all_read, are_read}
use Rattle.hwdb_tool.proofs.StatusLemmas.{made_from}
use Rattle.hwdb_plan.specs.Lemmas.OverText.{basis_made, made_stop, texts_stop}
use Rattle.hwdb_plan.specs.Lemmas.Sides.{memory_reached}
use Rattle.hwdb_plan.specs.Lemmas.Update.{handed_on}
use Rattle.hwdb_plan.specs.OverText.{Basis as Answered, basis, basis_now}
use Rattle.hwdb_plan.specs.Sides.{taken_from}
use Rattle.hwdb_system.specs.Selections.{texts_in}
use Rattle.hwdb_tool.specs.TextPlans.{besides_for}
use Rattle.hwdb_tool.specs.declared.over_text.Basis.{Basis}
use Rattle.hwdb_tool.proofs.SidePlanLemmas.{are_taken, items, side_made}
use Rattle.hwdb_tool.proofs.ExplainText.{said_is}
use Rattle.hwdb_tool.proofs.over_text.made.Goals as goal

pub returns-clause-made : goal.returns-clause-made
returns-clause-made g c = λ tells.
    let root = c.args.root.now in
    let seen = g.D.Store.seen c.args.system.now in
    let chosen = map choice_of c.in_ok-selection.selection.chosen.items in
    let texts = map (λ t. t.items) c.in_ok-selection.selection.texts.items in
    let listed = map string_bytes c.in_ok-selection.selection.listed.items in
    let files = c.in_ok-files.files.items in
    let read : AreReadOf root seen listed files =
    are_read root seen listed chosen texts files (c.in_ok-selection.ensures.selected tells)
    (c.in_ok-files.ensures.choices ∙ ap (map choice_of) c.deref.ensures.value) (c.in_ok-files.ensures.bytes ∙ ap (map (λ t. t.items)) c.deref-2.ensures.value) in
    let made = c.in_ok-made.made.database.items in
    let made_of : ForFolders files (λ etc usr. AreMadeOf etc usr made) =
    subst (λ (l : List ChosenFile). ForFolders l (λ etc usr. AreMadeOf etc usr made)) c.deref-3.ensures.value c.in_ok-made.ensures.made in
    let said = subst (λ (l : List ChosenFile). ForFolders l (λ etc usr. map (λ (s : Source). s.name) usr ≡ map string_bytes c.deref-5.result.now → c.in_ok-besides.besides.items ≡ text_besides c.args.task.now etc usr)) c.deref-4.ensures.value c.in_ok-besides.ensures.said in (
      read.of_etc,
      read.of_usr,
      made_from root seen listed files read (all_read root seen listed chosen texts (c.in_ok-selection.ensures.selected tells)) made made_of,
      said read.of_etc read.of_usr read.are (read.named ∙ ap (map string_bytes) (sym c.deref-5.ensures.value)),
    )

abbrev basis_in : Basis → Answered
basis_in m = basis m.besides.items m.database.items

pub returns-clause-told : goal.returns-clause-told
returns-clause-told g c = λ tells.
    let w = g.D.System.reads c.args.system.now in
    let root = c.args.root.now in
    let seen = g.D.Store.seen c.args.system.now in
    let s = c.in_ok-selection.selection in
    let chosen = map choice_of s.chosen.items in
    let texts = map (λ t. t.items) s.texts.items in
    let listed = map string_bytes s.listed.items in
    let selected = c.in_ok-selection.ensures.selected tells in
    let choices = c.in_ok-files.ensures.choices ∙ ap (map choice_of) c.deref.ensures.value in
    let bytes = c.in_ok-files.ensures.bytes ∙ ap (map (λ t. t.items)) c.deref-2.ensures.value in
    let are = are_taken root seen listed chosen texts selected c.deref-3.result.now (ap (map choice_in) c.deref-3.ensures.value ∙ choices) (ap (map bytes_in) c.deref-3.ensures.value ∙ bytes) in
    let database = c.in_ok-made.made.database in
    let said = said_is root seen listed chosen texts c.deref-4.result.now selected (ap (map choice_in) c.deref-4.ensures.value ∙ choices) (ap (map bytes_in) c.deref-4.ensures.value ∙ bytes) c.args.task.now
    c.in_ok-besides.besides.items (λ etc usr of named. c.in_ok-besides.ensures.said etc usr of (named ∙ ap (map string_bytes) (sym c.deref-5.ensures.value))) in
    basis_made w root (besides_for c.args.task.now) texts_in basis_in items s database (record { database = database; besides = c.in_ok-besides.besides }) (c.in_ok-selection.ensures.told tells)
    (side_made w (taken_from true chosen texts) (taken_from false chosen texts) (Ok database) (c.in_ok-made.ensures.made (taken_from true chosen texts) (taken_from false chosen texts) are) tt)
    (ap (λ b. basis b database.items) said)

pub returns-in_err-selection-clause-told : goal.returns-in_err-selection-clause-told
returns-in_err-selection-clause-told g c = λ tells.
    texts_stop (g.D.System.reads c.args.system.now) c.args.root.now (besides_for c.args.task.now) texts_in basis_in c.in_err-selection.field-0.0 c.from_residual.result (c.in_err-selection.ensures.told tells) c.from_residual.ensures.1

pub returns-in_err-files-clause-told : goal.returns-in_err-files-clause-told
returns-in_err-files-clause-told g c = λ tells.
    memory_reached (g.D.System.reads c.args.system.now) basis_in (basis_now c.args.root.now (besides_for c.args.task.now)) c.from_residual-in_err-files.result c.from_residual-in_err-files.ensures.1

pub returns-in_err-made-clause-told : goal.returns-in_err-made-clause-told
returns-in_err-made-clause-told g c = λ tells.
    let w = g.D.System.reads c.args.system.now in
    let root = c.args.root.now in
    let seen = g.D.Store.seen c.args.system.now in
    let s = c.in_ok-selection.selection in
    let chosen = map choice_of s.chosen.items in
    let texts = map (λ t. t.items) s.texts.items in
    let r = c.in_err-made.field-0.0 in
    let are = are_taken root seen (map string_bytes s.listed.items) chosen texts (c.in_ok-selection.ensures.selected tells) c.deref-3.result.now
    (ap (map choice_in) c.deref-3.ensures.value ∙ c.in_ok-files.ensures.choices ∙ ap (map choice_of) c.deref.ensures.value)
    (ap (map bytes_in) c.deref-3.ensures.value ∙ c.in_ok-files.ensures.bytes ∙ ap (map (λ t. t.items)) c.deref-2.ensures.value) in
    made_stop w root (besides_for c.args.task.now) texts_in basis_in items s r c.from_residual-in_err-made.result (c.in_ok-selection.ensures.told tells)
    (side_made w (taken_from true chosen texts) (taken_from false chosen texts) (Err r) tt (c.in_err-made.ensures.refused (taken_from true chosen texts) (taken_from false chosen texts) are))
    c.from_residual-in_err-made.ensures.1

pub returns-in_err-besides-clause-told : goal.returns-in_err-besides-clause-told
returns-in_err-besides-clause-told g c = λ tells.
    handed_on basis_in (g.D.System.reads c.args.system.now) (basis_now c.args.root.now (besides_for c.args.task.now)) c.in_err-besides.field-0.0 c.from_residual-in_err-besides.result
    (inl c.in_err-besides.ensures.memory) c.from_residual-in_err-besides.ensures.1
