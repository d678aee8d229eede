use Rattle.std.proofs.Common.{◌≡◌, ◌∙◌, ap, map, string_bytes, subst, sym, Bor, List, Option, Some, ℕ}
use Rattle.std.specs.Prelude.{option_map}
use Rattle.hwdb_spec.specs.Lines.{is, pieces}
use Rattle.hwdb_spec_commands.specs.DeviceTree.{device_at}
use Rattle.hwdb_spec_commands.specs.SysfsAnswers.{sight_by}
use Rattle.hwdb_spec_rules.specs.RuleAnswers.{files_of, names_text}
use Rattle.hwdb_spec_rules.specs.RuleNames.{names_read}
use Rattle.hwdb_spec_rules.specs.RuleStrings.{RulesFile, lines_in}
use Rattle.hwdb_plan.specs.Asking.{asked}
use Rattle.hwdb_plan.specs.Device.{by_files, rules_answer, strings_answer}
use Rattle.hwdb_plan.specs.OwnRules.{sources_of}
use Rattle.hwdb_plan.specs.Plans.{Follows}
use Rattle.hwdb_ruleasks.specs.FileViews.{parsed_of}
use Rattle.hwdb_ruleasks.specs.Views.{file_of}
use Rattle.hwdb_system.specs.OwnRules.{sources_in}
use Rattle.hwdb_tool.specs.Views.{end_of}
use Rattle.hwdb_tool.proofs.DevicePlanLemmas.{memory_follows}
use Rattle.hwdb_tool.proofs.rules_device.by_files.Goals as goal

pub returns-in_err-parsed-clause-follows : goal.returns-in_err-parsed-clause-follows
returns-in_err-parsed-clause-follows g c = λ tells.
    let below = c.args.below.now in
    let s = below.system.now in
    memory_follows end_of (g.D.System.reads s) (by_files (sight_by g.D.DeviceFiles.answers s) below.root.now c.args.form below.sys.now (option_map (λ p. p.now) c.args.place) (sources_in c.args.read.now)) c.from_residual.result c.from_residual.ensures.1

pub returns-in_err-files-clause-follows : goal.returns-in_err-files-clause-follows
returns-in_err-files-clause-follows g c = λ tells.
    let below = c.args.below.now in
    let s = below.system.now in
    memory_follows end_of (g.D.System.reads s) (by_files (sight_by g.D.DeviceFiles.answers s) below.root.now c.args.form below.sys.now (option_map (λ p. p.now) c.args.place) (sources_in c.args.read.now)) c.from_residual-in_err-files.result c.from_residual-in_err-files.ensures.1

pub returns-in_err-names-clause-follows : goal.returns-in_err-names-clause-follows
returns-in_err-names-clause-follows g c = λ tells.
    let below = c.args.below.now in
    let s = below.system.now in
    memory_follows end_of (g.D.System.reads s) (by_files (sight_by g.D.DeviceFiles.answers s) below.root.now c.args.form below.sys.now (option_map (λ p. p.now) c.args.place) (sources_in c.args.read.now)) c.from_residual-in_err-names.result c.from_residual-in_err-names.ensures.1

pub returns-in-Some-clause-follows : goal.returns-in-Some-clause-follows
returns-in-Some-clause-follows g c = λ tells.
    let below = c.args.below.now in
    let s = below.system.now in
    let w = g.D.System.reads s in
    let sight = sight_by g.D.DeviceFiles.answers s in
    let read = c.args.read.now in
    let sources = sources_in read in
    let place = c.in-Some.place.now in
    let result = c.device_by_files.result in
    let parsed : map parsed_of c.in_ok-parsed.parsed.items ≡ files_of sources =
    c.in_ok-parsed.ensures ∙ ap (λ l. files_of (sources_of (map string_bytes l) (map (λ t. t.items) c.deref-2.result.now))) c.deref.ensures.value
    ∙ ap (λ l. files_of (sources_of (map string_bytes read.paths.items) (map (λ t. t.items) l))) c.deref-2.ensures.value in
    let files : map file_of c.in_ok-files.files.items ≡ files_of sources =
    c.in_ok-files.ensures ∙ ap (map parsed_of) c.deref-3.ensures.value ∙ parsed in
    let names : c.in_ok-names.names.items ≡ names_text (names_read (lines_in (files_of sources))) =
    c.in_ok-names.ensures ∙ ap (λ l. names_text (names_read (lines_in (map file_of l)))) c.deref-4.ensures.value ∙ ap (λ (l : List RulesFile). names_text (names_read (lines_in l))) files in
    let Shown = λ (n : List ℕ). Follows end_of w (asked below.root.now (rules_answer c.args.form sources (device_at sight (pieces (is 10) n) below.sys.now place))) result in
    subst (λ (o : Option (Bor (List ℕ))). Follows end_of w (by_files sight below.root.now c.args.form below.sys.now (option_map (λ p. p.now) o) sources) result) (sym c.in-Some.is)
    (subst Shown (c.deref-5.ensures.value ∙ names) (c.device_by_files.ensures.follows tells sources (ap (map file_of) c.deref-6.ensures.value ∙ files)))

pub returns-clause-follows : goal.returns-clause-follows
returns-clause-follows g c = λ tells.
    let below = c.args.below.now in
    let s = below.system.now in
    let w = g.D.System.reads s in
    let sight = sight_by g.D.DeviceFiles.answers s in
    let read = c.args.read.now in
    let sources = sources_in read in
    let result = c.strings_shown.result in
    let parsed : map parsed_of c.in_ok-parsed.parsed.items ≡ files_of sources =
    c.in_ok-parsed.ensures ∙ ap (λ l. files_of (sources_of (map string_bytes l) (map (λ t. t.items) c.deref-2.result.now))) c.deref.ensures.value
    ∙ ap (λ l. files_of (sources_of (map string_bytes read.paths.items) (map (λ t. t.items) l))) c.deref-2.ensures.value in
    let files : map file_of c.in_ok-files.files.items ≡ files_of sources =
    c.in_ok-files.ensures ∙ ap (map parsed_of) c.deref-3.ensures.value ∙ parsed in
    let names : c.in_ok-names.names.items ≡ names_text (names_read (lines_in (files_of sources))) =
    c.in_ok-names.ensures ∙ ap (λ l. names_text (names_read (lines_in (map file_of l)))) c.deref-4.ensures.value ∙ ap (λ (l : List RulesFile). names_text (names_read (lines_in l))) files in
    let Shown = λ (f : List RulesFile) (n : List ℕ). Follows end_of w (asked below.root.now (strings_answer sight (Some f) (pieces (is 10) n) below.sys.now)) result in
    subst (λ (o : Option (Bor (List ℕ))). Follows end_of w (by_files sight below.root.now c.args.form below.sys.now (option_map (λ p. p.now) o) sources) result) (sym c.in-None.is)
    (subst (λ (f : List RulesFile). Shown f (names_text (names_read (lines_in (files_of sources))))) (ap (map file_of) c.deref-6.ensures.value ∙ files)
    (subst (λ (n : List ℕ). Shown (map file_of c.deref-6.result.now) n) (c.deref-5.ensures.value ∙ names) (c.strings_shown.ensures.follows tells)))
