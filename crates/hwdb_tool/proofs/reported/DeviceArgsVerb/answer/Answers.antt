use Rattle.std.proofs.Common.{◌∙◌, false, true, subst, sym}
use Rattle.hwdb_plan.specs.Plans.{Follows, Plan}
use Rattle.hwdb_spec_commands.specs.Jobs.{IsTask}
use Rattle.hwdb_spec_commands.specs.Runs.{told_by}
use Rattle.hwdb_spec_commands.specs.SysfsAnswers.{sight_by}
use Rattle.hwdb_spec_program.specs.Program.{root_of}
use Rattle.hwdb_tool.specs.Views.{end_of}
use Rattle.hwdb_tool.proofs.ProgramPlanLemmas.{of_words}
use Rattle.hwdb_tool.proofs.DeviceWords.{device_planned, own_planned}
use Rattle.hwdb_tool.proofs.reported.DeviceArgsVerb.answer.Goals as goal

pub returns-then-is_by_rules-clause-follows : goal.returns-then-is_by_rules-clause-follows
returns-then-is_by_rules-clause-follows g c = λ tells words asked.
    let w = g.D.System.reads c.args.system.now in
    let sight = sight_by g.D.DeviceFiles.answers c.args.system.now in
    let input = told_by g.I.Source.left g.I.Source.failures c.args.input.now in
    let answer = c.by_rules.result in
    let Answers : Plan → Type 0 = λ p. Follows end_of w p answer in
    of_words sight input input Answers words c.args.job.now asked
    (λ word rows is. own_planned w sight input input (root_of c.args.job.now) c.args.job.now.strict word rows answer c.args.self.now (subst (λ t. IsTask word rows t) c.requires is)
    (sym c.is_by_rules.ensures ∙ c.if-is_by_rules.true) (c.by_rules.ensures tells))

pub returns-clause-follows : goal.returns-clause-follows
returns-clause-follows g c = λ tells words asked.
    let w = g.D.System.reads c.args.system.now in
    let sight = sight_by g.D.DeviceFiles.answers c.args.system.now in
    let I = told_by g.I.Source.left g.I.Source.failures in
    let input = I c.args.input.now in
    let left = I c.by_table.new.input in
    let answer = c.by_table.result in
    let Answers : Plan → Type 0 = λ p. Follows end_of w p answer in
    of_words sight input left Answers words c.args.job.now asked
    (λ word rows is. device_planned w sight input left (root_of c.args.job.now) c.args.job.now.strict word rows answer c.args.self.now (subst (λ t. IsTask word rows t) c.requires is)
    (sym c.is_by_rules.ensures ∙ c.if-is_by_rules.false) (c.by_table.ensures.follows tells))
