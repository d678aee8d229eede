use Rattle.std.proofs.Common.{subst, List, ℕ, false}
use Rattle.hwdb_plan.specs.Plans.{Follows}
use Rattle.hwdb_plan.specs.Status.{status_plan}
use Rattle.hwdb_spec_commands.specs.Jobs.{IsTask}
use Rattle.hwdb_spec_commands.specs.Runs.{told_by}
use Rattle.hwdb_spec_commands.specs.SysfsAnswers.{sight_by}
use Rattle.hwdb_spec_program.specs.Program.{root_of}
use Rattle.hwdb_tool.specs.Views.{end_of}
use Rattle.hwdb_tool.proofs.ProgramPlanLemmas.{of_words}
use Rattle.hwdb_tool.proofs.StatusWords.{status_planned}
use Rattle.hwdb_tool.proofs.status_command.StatusArgsVerb.answer.Goals as goal

pub returns-clause-follows : goal.returns-clause-follows
returns-clause-follows g c = λ tells words asked.
    let w = g.D.System.reads c.args.system.now in
    let sight = sight_by g.D.DeviceFiles.answers c.args.system.now in
    let input = told_by g.I.Source.left g.I.Source.failures c.args._input.now in
    let root = root_of c.args.job.now in
    let answer = c.status.result in
    of_words sight input input (λ p. Follows end_of w p answer) words c.args.job.now asked
    (λ word rows is. status_planned w sight input input root c.args.job.now.strict word rows answer c.args.self.now (subst (λ t. IsTask word rows t) c.requires is)
    (subst (λ (r : List ℕ). Follows end_of w (status_plan r c.args.self.now.json false) answer) c.root_of.ensures (c.status.ensures.follows tells)))
