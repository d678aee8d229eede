use Rattle.std.proofs.Common.{map, string_bytes, subst, Global, List, Option, Result, String, ℕ}
use Rattle.std.specs.Prelude.{option_map}
use Rattle.hwdb_plan.specs.Files.{OfInput}
use Rattle.hwdb_plan.specs.Plans.{Follows, Plan}
use Rattle.hwdb_spec_commands.specs.Jobs.{IsTask}
use Rattle.hwdb_spec_commands.specs.Runs.{told_by}
use Rattle.hwdb_spec_commands.specs.SysfsAnswers.{sight_by}
use Rattle.hwdb_spec_commands.specs.declared.unread.Unread.{Unread}
use Rattle.hwdb_spec_program.specs.Program.{root_of}
use Rattle.hwdb_tool.specs.Views.{end_of}
use Rattle.hwdb_tool.proofs.ProgramPlanLemmas.{of_words}
use Rattle.hwdb_plan.specs.Test.{test_plan}
use Rattle.hwdb_tool.proofs.TestWords.{test_planned}
use Rattle.hwdb_tool.proofs.test_command.TestArgsVerb.answer.Goals as goal

pub returns-clause-follows : goal.returns-clause-follows
returns-clause-follows g c = λ tells words asked.
    let w = g.D.System.reads c.args.system.now in
    let sight = sight_by g.D.DeviceFiles.answers c.args.system.now in
    let I = told_by g.I.Source.left g.I.Source.failures in
    let input = I c.args.input.now in
    let left = I c.test.new.input in
    let args = c.args.self.now in
    let root = root_of c.args.job.now in
    let strict = c.args.job.now.strict in
    let answer = c.test.result in
    let Answers : Plan → Type 0 = λ p. Follows end_of w p answer in
    let Told = λ (is : Result (List ℕ) Unread → Plan). OfInput input.bytes input.failures left.failures (λ told. Follows end_of w (is told) answer) in
    let files = c.deref.result.now in
    let database = option_map (λ t. t.now) c.text_of.result in
    of_words sight input left Answers words c.args.job.now asked
    (λ word rows is. test_planned w sight input left root strict word rows answer args (subst (λ t. IsTask word rows t) c.requires is)
    (subst (λ (fs : List (String Global)). Told (λ told. test_plan told (map string_bytes fs) (option_map string_bytes args.database) root args.json)) c.deref.ensures.value
    (subst (λ (d : Option (List ℕ)). Told (λ told. test_plan told (map string_bytes files) d root args.json)) c.text_of.ensures
    (subst (λ (r : List ℕ). Told (λ told. test_plan told (map string_bytes files) database r args.json)) c.root_of.ensures (c.test.ensures.follows tells)))))
