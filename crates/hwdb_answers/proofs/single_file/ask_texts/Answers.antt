use Rattle.std.proofs.Common.{◌∙◌, ap, map, refl, subst, sym, List, [], ℕ}
use Rattle.hwdb_spec.specs.Tree.{map_of_files}
use Rattle.hwdb_spec.specs.Folders.{faults_of_files}
use Rattle.hwdb_spec.specs.Texts.{max_file, faults_text_at, query_text}
use Rattle.hwdb_spec.specs.Written.{IsDatabaseOf}
use Rattle.hwdb_compile.specs.Views.{fault_of}
use Rattle.hwdb_spec_commands.specs.Databases.{IsTextOf}
use Rattle.hwdb_spec_commands.specs.LoneFile.{lone}
use Rattle.hwdb_answers.proofs.RefusalLemmas.{asked_refused, lone_refused}
use Rattle.hwdb_answers.proofs.UpdateLemmas.{lone_chosen}
use Rattle.hwdb_answers.proofs.single_file.ask_texts.Goals as goal

pub returns-in_err-compiled-clause-refusals : goal.returns-in_err-compiled-clause-refusals
returns-in_err-compiled-clause-refusals c =
    lone_refused c.args.bytes.now max_file c.in_err-compiled.field-0.0 _ c.from_residual-in_err-compiled.ensures.1
    (c.in_err-compiled.ensures.refused (lone c.args.bytes.now) [] (lone_chosen c.args.bytes.now _ c.in_ok-choice.ensures refl))

pub returns-in_err-properties-clause-refusals : goal.returns-in_err-properties-clause-refusals
returns-in_err-properties-clause-refusals c =
    asked_refused c.args.bytes.now c.in_ok-compiled.compiled.database.items _ max_file c.in_err-properties.field-0.0 _ c.from_residual-in_err-properties.ensures.1 (rw c.deref-2.ensures.value at c.in_err-properties.ensures.refusals)
    (c.in_ok-compiled.ensures.checked (lone c.args.bytes.now) [] (lone_chosen c.args.bytes.now _ c.in_ok-choice.ensures refl))

pub returns-clause-headline : goal.returns-clause-headline
returns-clause-headline c =
    let Q : List ℕ → Type 0 = λ bytes. IsDatabaseOf (map_of_files (lone c.args.bytes.now) []) bytes in
    c.in_ok-properties.ensures.headline (lone c.args.bytes.now) []
    (subst Q (sym c.deref-2.ensures.value) (c.in_ok-compiled.ensures.checked (lone c.args.bytes.now) [] (lone_chosen c.args.bytes.now _ c.in_ok-choice.ensures refl)))

pub returns-clause-texts : goal.returns-clause-texts
returns-clause-texts c =
    let file = lone c.args.bytes.now in
    let of = lone_chosen c.args.bytes.now _ c.in_ok-choice.ensures refl in
    let P : List ℕ → Type 0 = λ bytes. IsTextOf (query_text c.args.device.now) bytes c.in_ok-properties.properties.items in
    record {
      accepted = c.in_ok-compiled.ensures.accepted file [] of;
      database = c.in_ok-compiled.compiled.database.items;
      written = c.in_ok-compiled.ensures.database file [] of;
      within = c.in_ok-compiled.ensures.within;
      faults = c.in_ok-faults.ensures ∙ ap (λ fs. faults_text_at c.as_bytes.result.now (map fault_of fs)) c.deref.ensures.value
          ∙ ap (faults_text_at c.as_bytes.result.now) (c.in_ok-compiled.ensures.faults file [] of) ∙ ap (λ f. faults_text_at f (faults_of_files file [])) c.as_bytes.ensures.value;
      properties = subst P c.deref-2.ensures.value c.in_ok-properties.ensures.text;
    }

pub returns-clause-compiled : goal.returns-clause-compiled
returns-clause-compiled c =
    let file = lone c.args.bytes.now in
    let of = lone_chosen c.args.bytes.now _ c.in_ok-choice.ensures refl in
    (c.in_ok-compiled.compiled.database.items, c.in_ok-compiled.ensures.database file [] of, c.in_ok-compiled.ensures.checked file [] of)
