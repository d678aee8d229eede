use Rattle.std.proofs.Common.{string_bytes, subst, List, ℕ}
use Rattle.hwdb_plan.specs.Plans.{Follows, Plan}
use Rattle.hwdb_spec_commands.specs.Jobs.{IsTask}
use Rattle.hwdb_spec_commands.specs.Runs.{told_by}
use Rattle.hwdb_spec_commands.specs.SysfsAnswers.{sight_by}
use Rattle.hwdb_spec_program.specs.Program.{root_of}
use Rattle.hwdb_tool.specs.Views.{end_of}
use Rattle.hwdb_tool.proofs.ProgramPlanLemmas.{of_words}
use Rattle.hwdb_plan.specs.Ask.{ask_plan}
use Rattle.hwdb_plan.specs.Input.{OverGiven}
use Rattle.hwdb_spec_commands.specs.Given.{is_dash}
use Rattle.hwdb_tool.proofs.AskWords.{ask_planned}
use Rattle.hwdb_tool.proofs.answers.AskArgsVerb.answer.Goals as goal

pub returns-clause-follows : goal.returns-clause-follows
returns-clause-follows g c = λ tells words asked.
    let w = g.D.System.reads c.args.system.now in
    let sight = sight_by g.D.DeviceFiles.answers c.args.system.now in
    let I = told_by g.I.Source.left g.I.Source.failures in
    let input = I c.args.input.now in
    let left = I c.ask_file.new.input in
    let args = c.args.self.now in
    let root = root_of c.args._job.now in
    let strict = c.args._job.now.strict in
    let answer = c.ask_file.result in
    let Answers : Plan → Type 0 = λ p. Follows end_of w p answer in
    let file = c.as_str-file.result.now in
    of_words sight input left Answers words c.args._job.now asked
    (λ word rows is. ask_planned w sight input left root strict word rows answer args (subst (λ t. IsTask word rows t) c.requires is)
    (subst (λ (f : List ℕ). OverGiven (is_dash f) f input.bytes input.failures left.failures w (λ path reads. Follows end_of reads (ask_plan f (string_bytes args.device) path) answer)) c.as_str-file.ensures.value
    (subst (λ (d : List ℕ). OverGiven (is_dash file) file input.bytes input.failures left.failures w (λ path reads. Follows end_of reads (ask_plan file d path) answer)) c.as_bytes-device.ensures.value (c.ask_file.ensures.follows tells))))
