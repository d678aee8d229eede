use Rattle.std.proofs.Common.{map, option_map, string_bytes, ap, subst, sym, ◌∙◌, ◌≡◌, false, Err, Global, Vec, List, ℕ}
use Rattle.hwdb_check.specs.Checks.{source_of}
use Rattle.hwdb_spec.specs.Folders.{Source}
use Rattle.hwdb_spec_commands.specs.Given.{any_dash}
use Rattle.hwdb_spec_commands.specs.declared.unread.Unread.TheVariants.{Memory}
use Rattle.hwdb_plan.specs.Asking.{named}
use Rattle.hwdb_plan.specs.Files.{given_files}
use Rattle.hwdb_plan.specs.Lemmas.Diff.{memory_follows}
use Rattle.hwdb_plan.specs.Lemmas.Files.{files_go, files_stopped}
use Rattle.hwdb_plan.specs.Plans.{Follows, Plan}
use Rattle.hwdb_plan.specs.Record.{devices_meant, devices_plan, recorded}
use Rattle.hwdb_tool.specs.Views.{end_of}
use Rattle.hwdb_tool.proofs.FileLemmas.{are_files}
use Rattle.hwdb_tool.proofs.RecordWords.{none_read}
use Rattle.hwdb_tool.proofs.record_command.record_devices.Goals as goal

abbrev texts_of : Vec (Vec ℕ Global) Global → List (List ℕ)
texts_of v = map (λ t. t.items) v.items

pub returns-in_err-texts-clause-follows : goal.returns-in_err-texts-clause-follows
returns-in_err-texts-clause-follows g c = λ tells.
    let w = g.D.System.reads c.args.system.now in
    let told = c.in_err-texts.ensures.told tells in
    let words = map string_bytes c.args.devices.words.now in
    let database = option_map (λ t. t.now) c.args.devices.database in
    let root = c.args.devices.root.now in
    let given = map string_bytes c.read_words-given.result.now in
    let next : List Source → Plan = λ sources. named database root (recorded (devices_meant words sources)) in (
      told.0,
      told.1,
      subst (λ (gs : List (List ℕ)). Follows end_of w (given_files gs told.0 gs next) c.from_residual.result) c.read_words-given.ensures
          (files_stopped texts_of end_of given w (given_files given told.0 given) next c.in_err-texts.field-0.0 c.from_residual.result told.2 c.from_residual.ensures.1),
    )

pub returns-in_err-files-clause-follows : goal.returns-in_err-files-clause-follows
returns-in_err-files-clause-follows g c = λ tells. (
  Err Memory,
  tt,
  memory_follows (g.D.System.reads c.args.system.now) end_of (devices_plan (Err Memory) (map string_bytes c.args.devices.words.now) (option_map (λ t. t.now) c.args.devices.database) c.args.devices.root.now) c.from_residual-in_err-files.result
      c.from_residual-in_err-files.ensures.1,
)

pub returns-clause-follows : goal.returns-clause-follows
returns-clause-follows g c = λ tells.
    let w = g.D.System.reads c.args.system.now in
    let told = c.in_ok-texts.ensures.told tells in
    let words = map string_bytes c.args.devices.words.now in
    let database = option_map (λ t. t.now) c.args.devices.database in
    let root = c.args.devices.root.now in
    let given = map string_bytes c.read_words-given.result.now in
    let next : List Source → Plan = λ sources. named database root (recorded (devices_meant words sources)) in
    let files = c.deref-2.result.now in
    let are = are_files files given _ (ap (map (λ f. f.path.now)) c.deref-2.ensures.value ∙ c.in_ok-files.ensures.paths)
    (ap (map (λ f. f.bytes.now)) c.deref-2.ensures.value ∙ c.in_ok-files.ensures.bytes ∙ ap (map (λ t. t.items)) c.deref.ensures.value) in (
      told.0,
      told.1,
      subst (λ (gs : List (List ℕ)). Follows end_of w (given_files gs told.0 gs next) c.record_meant.result) c.read_words-given.ensures
          (files_go texts_of end_of given w (given_files given told.0 given) next c.in_ok-texts.texts (map source_of files) c.record_meant.result told.2 are (c.record_meant.ensures.follows tells)),
    )

pub returns-clause-unread : goal.returns-clause-unread
returns-clause-unread g c = λ none.
    c.in_ok-texts.ensures.unread (subst (λ (gs : List (List ℕ)). any_dash gs ≡ false) (sym c.read_words-given.ensures) (none_read (map string_bytes c.args.devices.words.now) none))

pub returns-in_err-texts-clause-unread : goal.returns-in_err-texts-clause-unread
returns-in_err-texts-clause-unread g c = λ none.
    c.in_err-texts.ensures.unread (subst (λ (gs : List (List ℕ)). any_dash gs ≡ false) (sym c.read_words-given.ensures) (none_read (map string_bytes c.args.devices.words.now) none))

pub returns-in_err-files-clause-unread : goal.returns-in_err-files-clause-unread
returns-in_err-files-clause-unread g c = λ none.
    c.in_ok-texts.ensures.unread (subst (λ (gs : List (List ℕ)). any_dash gs ≡ false) (sym c.read_words-given.ensures) (none_read (map string_bytes c.args.devices.words.now) none))
