use Rattle.std.proofs.Common.{map, string_bytes, subst, Global, List, String}
use Rattle.hwdb_plan.specs.Keys.{keys_plan}
use Rattle.hwdb_plan.specs.Plans.{Follows}
use Rattle.hwdb_spec_commands.specs.Jobs.{IsTask}
use Rattle.hwdb_spec_commands.specs.Runs.{told_by}
use Rattle.hwdb_spec_commands.specs.SysfsAnswers.{sight_by}
use Rattle.hwdb_spec_program.specs.Program.{root_of}
use Rattle.hwdb_tool.specs.Views.{end_of}
use Rattle.hwdb_tool.proofs.ProgramPlanLemmas.{of_words}
use Rattle.hwdb_tool.proofs.KeyWords.{keys_planned}
use Rattle.hwdb_tool.proofs.keys_command.KeysArgsVerb.answer.Goals as goal

pub returns-clause-follows : goal.returns-clause-follows
returns-clause-follows g c = λ tells words asked.
    let w = g.D.System.reads c.args._system.now in
    let sight = sight_by g.D.DeviceFiles.answers c.args._system.now in
    let input = told_by g.I.Source.left g.I.Source.failures c.args._input.now in
    let answer = c.keys.result in
    of_words sight input input (λ p. Follows end_of w p answer) words c.args._job.now asked
    (λ word rows is. keys_planned w sight input input (root_of c.args._job.now) c.args._job.now.strict word rows answer c.args.self.now (subst (λ t. IsTask word rows t) c.requires is)
    (subst (λ (ws : List (String Global)). Follows end_of w (keys_plan c.args.self.now.json (map string_bytes ws)) answer) c.deref.ensures.value (c.keys.ensures.follows w)))
