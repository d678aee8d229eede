use Rattle.std.proofs.Common.{map, string_bytes, subst, List, ℕ}
use Rattle.std.specs.Prelude.{option_map}
use Rattle.hwdb_plan.specs.Check.{asked_plan}
use Rattle.hwdb_plan.specs.Files.{OfInput}
use Rattle.hwdb_plan.specs.Plans.{Follows, Plan}
use Rattle.hwdb_spec_commands.specs.Jobs.{IsTask}
use Rattle.hwdb_spec_commands.specs.Runs.{told_by}
use Rattle.hwdb_spec_commands.specs.SysfsAnswers.{sight_by}
use Rattle.hwdb_spec_program.specs.Program.{root_of}
use Rattle.hwdb_tool.specs.CheckAsked.{say_of}
use Rattle.hwdb_tool.specs.Views.{end_of}
use Rattle.hwdb_tool.proofs.ProgramPlanLemmas.{of_words}
use Rattle.hwdb_tool.proofs.CheckWords.{check_planned}
use Rattle.hwdb_tool.proofs.check_command.CheckArgsVerb.answer.Goals as goal

pub returns-clause-follows : goal.returns-clause-follows
returns-clause-follows g c = λ tells words asked.
    let w = g.D.System.reads c.args.system.now in
    let sight = sight_by g.D.DeviceFiles.answers c.args.system.now in
    let I = told_by g.I.Source.left g.I.Source.failures in
    let input = I c.args.input.now in
    let left = I c.check_words.new.input in
    let args = c.args.self.now in
    let root = root_of c.args.job.now in
    let strict = c.args.job.now.strict in
    let answer = c.check_words.result in
    let Answers : Plan → Type 0 = λ p. Follows end_of w p answer in
    of_words sight input left Answers words c.args.job.now asked
    (λ word rows is. check_planned w sight input left root strict word rows answer args (subst (λ t. IsTask word rows t) c.requires is)
    (subst (λ (r : List ℕ). OfInput input.bytes input.failures left.failures (λ told. Follows end_of w
    (asked_plan told args.rules (map string_bytes args.files.items) r (option_map string_bytes args.name) (option_map string_bytes args.baseline) (say_of args strict)) answer))
    c.root_of.ensures (c.check_words.ensures.follows tells)))
