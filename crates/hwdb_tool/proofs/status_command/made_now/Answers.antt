use Rattle.std.proofs.Common.{List, length, ap, map, string_bytes, sym, ◌∙◌, Vec, Global, ℕ, true, false}
use Rattle.hwdb_text.specs.Views.{choice_in, bytes_in, choice_of}
use Rattle.hwdb_text.specs.declared.choice.ChosenFile.{ChosenFile}
use Rattle.hwdb_spec_commands.specs.Status.{masked_paths, is_bare}
use Rattle.hwdb_text.specs.Views.{choice_of}
use Rattle.hwdb_tool.specs.Statuses.{IsNow, now_with}
use Rattle.hwdb_tool.proofs.StatusLemmas.{bare_files}
use Rattle.hwdb_tool.proofs.status_command.made_now.Goals as goal
use Rattle.hwdb_plan.specs.Sides.{taken_from}
use Rattle.hwdb_plan.specs.Status.{Now}
use Rattle.hwdb_system.specs.Selections.{texts_in}
use Rattle.hwdb_tool.specs.declared.status_command.MadeNow.{MadeNow}
use Rattle.hwdb_tool.proofs.SidePlanLemmas.{are_taken}
use Rattle.hwdb_tool.proofs.StatusPlanLemmas.{ignored_end, made_end, memory_end, texts_end, uncompiled_end}
use Rattle.hwdb_spec.specs.Tree.{map_of_files}

abbrev paths_of : Vec (Vec ℕ Global) Global → List (List ℕ)
paths_of v = map (λ p. p.items) v.items

abbrev Is : MadeNow → Now → Type 0
Is now = IsNow now.database.items now.bare (paths_of now.unread.masked) (paths_of now.unread.ignored)

pub returns-clause-told : goal.returns-clause-told
returns-clause-told g c = λ tells.
    let w = g.D.System.reads c.args.system.now in
    let root = c.args.root.now in
    let seen = g.D.Store.seen c.args.system.now in
    let s = c.in_ok-selection.selection in
    let chosen = map choice_of s.chosen.items in
    let texts = map (λ t. t.items) s.texts.items in
    let listed = map string_bytes s.listed.items in
    let files = c.in_ok-files.files.items in
    let bytes = c.in_ok-made.made.database.items in
    let choices = c.in_ok-files.ensures.choices ∙ ap (map choice_of) c.deref.ensures.value in
    let are = are_taken root seen listed chosen texts (c.in_ok-selection.ensures.selected tells) c.deref-3.result.now (ap (map choice_in) c.deref-3.ensures.value ∙ choices)
    (ap (map bytes_in) c.deref-3.ensures.value ∙ c.in_ok-files.ensures.bytes ∙ ap (map (λ t. t.items)) c.deref-2.ensures.value) in
    let made = c.in_ok-made.ensures.made (taken_from true chosen texts) (taken_from false chosen texts) are in
    let bare = bare_files files (length c.as_slice.result.now) c.is_empty.result (ap length c.as_slice.ensures.value) c.is_empty.ensures ∙ ap is_bare choices in
    let masks = c.in_ok-masked.ensures
    ∙ ap (λ l. masked_paths (map string_bytes l) (map choice_in c.deref-4.result.now)) c.deref-5.ensures.value
    ∙ ap (λ (l : List ChosenFile). masked_paths listed (map choice_in l)) c.deref-4.ensures.value ∙ ap (masked_paths listed) choices in
    let m = map_of_files (taken_from true chosen texts) (taken_from false chosen texts) in
    let ignored = paths_of c.in_ok-ignored.ignored in
    made_end w texts_in paths_of Is root s (c.in_ok-selection.ensures.told tells) c.in_ok-ignored.ignored (c.in_ok-ignored.ensures.told tells) bytes
    (record { database = c.in_ok-made.made.database; bare = c.is_empty.result; unread = record { masked = c.in_ok-masked.masked; ignored = c.in_ok-ignored.ignored } }) made
    (sym (ap (λ b. now_with m bytes b (paths_of c.in_ok-masked.masked) ignored) bare ∙ ap (λ l. now_with m bytes (is_bare chosen) l ignored) masks), made.database)

pub returns-in_err-selection-clause-told : goal.returns-in_err-selection-clause-told
returns-in_err-selection-clause-told g c = λ tells.
    texts_end (g.D.System.reads c.args.system.now) texts_in paths_of Is c.args.root.now c.in_err-selection.field-0.0 c.from_residual.result (c.in_err-selection.ensures.told tells) c.from_residual.ensures.1

pub returns-in_err-ignored-clause-told : goal.returns-in_err-ignored-clause-told
returns-in_err-ignored-clause-told g c = λ tells.
    ignored_end (g.D.System.reads c.args.system.now) texts_in paths_of Is c.args.root.now c.in_ok-selection.selection (c.in_ok-selection.ensures.told tells) c.in_err-ignored.field-0.0
    c.from_residual-in_err-ignored.result (c.in_err-ignored.ensures.told tells) c.from_residual-in_err-ignored.ensures.1

pub returns-in_err-made-clause-told : goal.returns-in_err-made-clause-told
returns-in_err-made-clause-told g c = λ tells.
    let root = c.args.root.now in
    let seen = g.D.Store.seen c.args.system.now in
    let s = c.in_ok-selection.selection in
    let chosen = map choice_of s.chosen.items in
    let texts = map (λ t. t.items) s.texts.items in
    let are = are_taken root seen (map string_bytes s.listed.items) chosen texts (c.in_ok-selection.ensures.selected tells) c.deref-3.result.now
    (ap (map choice_in) c.deref-3.ensures.value ∙ c.in_ok-files.ensures.choices ∙ ap (map choice_of) c.deref.ensures.value)
    (ap (map bytes_in) c.deref-3.ensures.value ∙ c.in_ok-files.ensures.bytes ∙ ap (map (λ t. t.items)) c.deref-2.ensures.value) in
    uncompiled_end (g.D.System.reads c.args.system.now) texts_in paths_of Is root s (c.in_ok-selection.ensures.told tells) c.in_ok-ignored.ignored (c.in_ok-ignored.ensures.told tells) c.in_err-made.field-0.0
    c.from_residual-in_err-made.result (c.in_err-made.ensures.refused (taken_from true chosen texts) (taken_from false chosen texts) are) c.from_residual-in_err-made.ensures.1

pub returns-in_err-files-clause-told : goal.returns-in_err-files-clause-told
returns-in_err-files-clause-told g c = λ tells.
    memory_end (g.D.System.reads c.args.system.now) texts_in paths_of Is c.args.root.now c.from_residual-in_err-files.result c.from_residual-in_err-files.ensures.1

pub returns-in_err-masked-clause-told : goal.returns-in_err-masked-clause-told
returns-in_err-masked-clause-told g c = λ tells.
    memory_end (g.D.System.reads c.args.system.now) texts_in paths_of Is c.args.root.now c.from_residual-in_err-masked.result c.from_residual-in_err-masked.ensures.1
