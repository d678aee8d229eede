use Rattle.hwdb_spec_commands.specs.LoneFile.{lone}
use Rattle.hwdb_spec.specs.Written.{IsCompiled, IsWritten}
use Rattle.hwdb_spec.specs.Tree.{map_of_files}
use Rattle.std.proofs.Common.{◌≢◌, refl, subst, List, ℕ, []}
use Rattle.hwdb_spec.specs.Texts.{max_file}
use Rattle.hwdb_spec.specs.declared.errors.ToolError.TheVariants.{Write}
use Rattle.hwdb_spec_commands.specs.Done.{AreAskTexts}
use Rattle.hwdb_spec_commands.specs.Given.{is_dash}
use Rattle.hwdb_spec_commands.specs.UpdateErrors.{IsAskRefusal}
use Rattle.hwdb_plan.specs.Ask.{lone_answer}
use Rattle.hwdb_plan.specs.Lemmas.Steps.{input_told}
use Rattle.hwdb_plan.specs.Plans.End.{Answers}
use Rattle.hwdb_tool.specs.Views.{end_of}
use Rattle.hwdb_tool.proofs.LookupPlanLemmas.{lone_ends, lone_follows, over_each, read_follows, unread_follows}
use Rattle.hwdb_tool.proofs.answers.ask_file.Goals as goal

pub returns-in_err-bytes-clause-follows : goal.returns-in_err-bytes-clause-follows
returns-in_err-bytes-clause-follows g c = λ tells.
    let file = c.args.file.now in
    over_each (is_dash file) file (g.I.Source.left c.args.input.now) (g.I.Source.failures c.args.input.now) (g.I.Source.failures c.read.new.input) (g.D.System.reads c.args.system.now) _ _
    (λ p w why. unread_follows end_of w p (lone_answer file c.args.device.now) c.in_err-bytes.field-0.0 c.from_residual.result why c.from_residual.ensures.1) (c.in_err-bytes.ensures.told tells)

pub returns-in_err-texts-clause-follows : goal.returns-in_err-texts-clause-follows
returns-in_err-texts-clause-follows g c = λ tells.
    let file = c.args.file.now in
    over_each (is_dash file) file (g.I.Source.left c.args.input.now) (g.I.Source.failures c.args.input.now) (g.I.Source.failures c.read.new.input) (g.D.System.reads c.args.system.now) _ _
    (λ p w told. read_follows end_of w p (lone_answer file c.args.device.now) c.in_ok-bytes.bytes.items c.from_residual-in_err-texts.result told
    (lone_follows end_of w file c.args.device.now p c.in_ok-bytes.bytes.items c.in_err-texts.field-0.0 c.from_residual-in_err-texts.result
    (subst (λ (b : List ℕ). (c.in_err-texts.field-0.0 ≢ Write) × IsAskRefusal b max_file c.in_err-texts.field-0.0) c.deref.ensures.value c.in_err-texts.ensures.refusals) c.from_residual-in_err-texts.ensures.1)) (c.in_ok-bytes.ensures.told tells)

pub returns-clause-follows : goal.returns-clause-follows
returns-clause-follows g c = λ tells.
    let file = c.args.file.now in
    let t = c.in_ok-texts.texts in
    over_each (is_dash file) file (g.I.Source.left c.args.input.now) (g.I.Source.failures c.args.input.now) (g.I.Source.failures c.read.new.input) (g.D.System.reads c.args.system.now) _ _
    (λ p w told. input_told w p p c.in_ok-bytes.bytes.items (lone_answer file c.args.device.now) (Answers 0 t.faults.items t.properties.items) told refl
    (lone_ends w file c.args.device.now p c.in_ok-bytes.bytes.items t.faults.items t.properties.items
    (subst (λ (b : List ℕ). AreAskTexts file b c.args.device.now (record { err = t.faults.items; out = t.properties.items })) c.deref.ensures.value c.in_ok-texts.ensures.texts)
    (subst (λ (b : List ℕ). (database : List ℕ) × IsWritten (map_of_files (lone b) []) database × IsCompiled (lone b) [] database) c.deref.ensures.value c.in_ok-texts.ensures.compiled)
    c.law_one_written_form.ensures)) (c.in_ok-bytes.ensures.told tells)
