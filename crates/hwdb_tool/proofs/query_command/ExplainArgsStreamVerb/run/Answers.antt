use Rattle.std.proofs.Common.{map, string_bytes, subst, Global, List, String, ℕ}
use Rattle.hwdb_plan.specs.Ended.{ShowsEnd, outs}
use Rattle.hwdb_spec_commands.specs.Jobs.{IsTask}
use Rattle.hwdb_spec_commands.specs.Runs.{told_by}
use Rattle.hwdb_spec_commands.specs.SysfsAnswers.{sight_by}
use Rattle.hwdb_spec_program.specs.Program.{root_of}
use Rattle.hwdb_tool.proofs.ProgramPlanLemmas.{of_words}
use Rattle.hwdb_plan.specs.Answers.{devices_plan}
use Rattle.hwdb_spec_commands.specs.Given.{is_input}
use Rattle.hwdb_spec_commands.specs.declared.form.Form.TheVariants.{Explain}
use Rattle.hwdb_tool.proofs.ExplainWords.{explain_planned}
use Rattle.hwdb_tool.proofs.query_command.ExplainArgsStreamVerb.run.Goals as goal

pub returns-clause-follows : goal.returns-clause-follows
returns-clause-follows g c = λ tells words asked.
    let w = g.D.System.reads c.args.system.now in
    let sight = sight_by g.D.DeviceFiles.answers c.args.system.now in
    let I = told_by g.I.Source.left g.I.Source.failures in
    let O = told_by g.O.Sink.taken g.O.Sink.failures in
    let E = told_by g.E.Sink.taken g.E.Sink.failures in
    let input = I c.args.input.now in
    let left = I c.look_up.new.input in
    let before = outs (E c.args.err.now) (O c.args.out.now) in
    let now = outs (E c.look_up.new.err) (O c.look_up.new.out) in
    let args = c.args.self.now in
    let root = root_of c.args.job.now in
    let result = c.look_up.result in
    let Shows : List ℕ → List (List ℕ) → Type 0 = λ r devices. ShowsEnd w (devices_plan (is_input devices) r (Explain args.json) devices) input left before now result in
    of_words sight input left (λ p. ShowsEnd w p input left before now result) words c.args.job.now asked
    (λ word rows is. explain_planned w sight input left before now result root c.args.job.now.strict word rows args (subst (λ t. IsTask word rows t) c.requires is)
    (subst (λ (ds : List (String Global)). Shows root (map string_bytes ds)) c.from_ref.ensures.value
    (subst (λ (r : List ℕ). Shows r (map string_bytes c.from_ref.result.now)) c.root_of.ensures (c.look_up.ensures.follows tells))))
