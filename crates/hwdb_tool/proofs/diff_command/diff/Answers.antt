use Rattle.std.proofs.Common.{map, string_bytes, sym, ap, true, ◌∙◌, ◌≡◌, List, Vec, Global, ℕ, Ok, Err, Result}
use Rattle.hwdb_check.specs.Checks.{source_of}
use Rattle.hwdb_spec_commands.specs.Given.{any_dash}
use Rattle.hwdb_spec_commands.specs.Reviews.{Review, review_in}
use Rattle.hwdb_tool.specs.Views.{end_of}
use Rattle.hwdb_tool.proofs.FileLemmas.{are_files}
use Rattle.hwdb_tool.proofs.InputSideLemmas.{no_dash, none_named, one_dash}
use Rattle.hwdb_tool.proofs.diff_command.diff.Goals as goal
use Rattle.hwdb_plan.specs.Diff.{change_of, diff_plan, sides_compared}
use Rattle.hwdb_plan.specs.Files.{given_files}
use Rattle.hwdb_plan.specs.Lemmas.Diff.{files_told, memory_follows, once_goes, twice_ends}
use Rattle.hwdb_plan.specs.Lemmas.Files.{files_go, files_stopped}
use Rattle.hwdb_plan.specs.Lemmas.Sides.{in_words_stops}
use Rattle.hwdb_plan.specs.Plans.{Plan}
use Rattle.hwdb_spec.specs.Folders.{Source}
use Rattle.hwdb_spec_commands.specs.declared.unread.Unread.{Unread}
use Rattle.hwdb_spec_commands.specs.declared.unread.Unread.TheVariants.{Memory}
use Rattle.hwdb_spec_program.specs.GivenDatabases.{names_twice, twice_text}

pub returns-clause-unread : goal.returns-clause-unread
returns-clause-unread g c = λ none.
    let plain = none_named (map string_bytes c.args.asked.devices.now) c.args.asked.old.now c.args.asked.new.now none in
    c.compared.ensures.unread plain.0 plain.1 ∙ c.in_ok-texts.ensures.unread plain.2

pub returns-in_err-texts-clause-unread : goal.returns-in_err-texts-clause-unread
returns-in_err-texts-clause-unread g c = λ none. c.in_err-texts.ensures.unread (none_named (map string_bytes c.args.asked.devices.now) c.args.asked.old.now c.args.asked.new.now none).2

pub returns-in_err-files-clause-unread : goal.returns-in_err-files-clause-unread
returns-in_err-files-clause-unread g c = λ none. c.in_ok-texts.ensures.unread (none_named (map string_bytes c.args.asked.devices.now) c.args.asked.old.now c.args.asked.new.now none).2

-- ---- its plan
abbrev texts_of : Vec (Vec ℕ Global) Global → List (List ℕ)
texts_of v = map (λ t. t.items) v.items

-- what follows the files of devices
abbrev after_files : (told : Result (List ℕ) Unread) (old_path new_path : List ℕ) → Review → List Source → Plan
after_files told old_path new_path r sources = sides_compared told old_path new_path (change_of r sources)

pub returns-then-names_twice-clause-follows : goal.returns-then-names_twice-clause-follows
returns-then-names_twice-clause-follows g c = λ tells.
    let w = g.D.System.reads c.args.system.now in
    let given = map string_bytes c.args.asked.devices.now in
    let old_path = c.args.asked.old.now in
    let new_path = c.args.asked.new.now in
    let r = c.refused_twice.result in (
      Err Memory,
      tt,
      twice_ends w end_of twice_text (diff_plan (Err Memory) given old_path new_path (change_of (review_in c.args.asked.review.now))) (names_twice given old_path new_path) r
          (sym c.names_twice.ensures ∙ c.if-names_twice.true) (in_words_stops twice_text r c.refused_twice.ensures),
    )

pub returns-in_err-texts-clause-follows : goal.returns-in_err-texts-clause-follows
returns-in_err-texts-clause-follows g c = λ tells.
    let w = g.D.System.reads c.args.system.now in
    let given = map string_bytes c.args.asked.devices.now in
    let old_path = c.args.asked.old.now in
    let new_path = c.args.asked.new.now in
    let once = sym c.names_twice.ensures ∙ c.if-names_twice.false in
    let told = c.in_err-texts.ensures.told tells in (
      told.0,
      told.1,
      once_goes w end_of twice_text (diff_plan told.0 given old_path new_path (change_of (review_in c.args.asked.review.now))) (names_twice given old_path new_path) c.from_residual.result once
          (files_stopped texts_of end_of given w (given_files given told.0 given) (after_files told.0 old_path new_path (review_in c.args.asked.review.now)) c.in_err-texts.field-0.0 c.from_residual.result told.2
          c.from_residual.ensures.1),
    )

pub returns-in_err-files-clause-follows : goal.returns-in_err-files-clause-follows
returns-in_err-files-clause-follows g c = λ tells.
    let w = g.D.System.reads c.args.system.now in
    let given = map string_bytes c.args.asked.devices.now in
    let old_path = c.args.asked.old.now in
    let new_path = c.args.asked.new.now in
    let once = sym c.names_twice.ensures ∙ c.if-names_twice.false in
    let p = diff_plan (Err Memory) given old_path new_path (change_of (review_in c.args.asked.review.now)) in (
      Err Memory,
      tt,
      once_goes w end_of twice_text p (names_twice given old_path new_path) c.from_residual-in_err-files.result once
          (memory_follows w end_of p c.from_residual-in_err-files.result c.from_residual-in_err-files.ensures.1),
    )

pub returns-clause-follows : goal.returns-clause-follows
returns-clause-follows g c = λ tells.
    let w = g.D.System.reads c.args.system.now in
    let left = g.I.Source.left in
    let failures = g.I.Source.failures in
    let given = map string_bytes c.args.asked.devices.now in
    let old_path = c.args.asked.old.now in
    let new_path = c.args.asked.new.now in
    let once = sym c.names_twice.ensures ∙ c.if-names_twice.false in
    let files = c.deref-2.result.now in
    let are = are_files files given _ (ap (map (λ f. f.path.now)) c.deref-2.ensures.value ∙ c.in_ok-files.ensures.paths)
    (ap (map (λ f. f.bytes.now)) c.deref-2.ensures.value ∙ c.in_ok-files.ensures.bytes ∙ ap (map (λ t. t.items)) c.deref.ensures.value) in
    let say = change_of (review_in c.args.asked.review.now) (map source_of files) in
    let plain = λ (dash : any_dash given ≡ true). no_dash given old_path new_path once dash in
    let told = files_told w texts_of end_of given old_path new_path say (left c.args.input.now) (left c.given_texts.new.input) (failures c.args.input.now) (failures c.given_texts.new.input)
    (failures c.compared.new.input) (Ok c.in_ok-texts.texts) c.compared.result plain (λ none. (ap left (c.in_ok-texts.ensures.unread none), ap failures (c.in_ok-texts.ensures.unread none)))
    (λ dash. ap failures (c.compared.ensures.unread (plain dash).0 (plain dash).1)) (c.in_ok-texts.ensures.told tells)
    (c.compared.ensures.follows tells (one_dash given old_path new_path once)) in (
      told.0,
      told.1,
      once_goes w end_of twice_text (diff_plan told.0 given old_path new_path (change_of (review_in c.args.asked.review.now))) (names_twice given old_path new_path) c.compared.result once
          (files_go texts_of end_of given w (given_files given told.0 given) (after_files told.0 old_path new_path (review_in c.args.asked.review.now)) c.in_ok-texts.texts (map source_of files) c.compared.result
          told.2.0 are told.2.1),
    )
