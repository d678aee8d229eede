use Rattle.std.proofs.Common.{◌≡◌, false, subst, sym, List, Option, ℕ}
use Rattle.std.specs.Prelude.{option_map}
use Rattle.hwdb_plan.specs.Plans.{Follows, Plan}
use Rattle.hwdb_spec_commands.specs.Jobs.{IsTask}
use Rattle.hwdb_spec_commands.specs.Runs.{told_by}
use Rattle.hwdb_spec_commands.specs.SysfsAnswers.{sight_by}
use Rattle.hwdb_spec_program.specs.Program.{root_of}
use Rattle.hwdb_tool.specs.Views.{end_of}
use Rattle.hwdb_tool.proofs.ProgramPlanLemmas.{of_words}
use Rattle.hwdb_plan.specs.Verify.{verify_plan}
use Rattle.hwdb_plan.specs.Input.{OverNamed}
use Rattle.hwdb_spec_program.specs.GivenDatabases.{names_input}
use Rattle.hwdb_tool.proofs.VerifyWords.{verify_planned}
use Rattle.hwdb_tool.proofs.verify_command.VerifyArgsVerb.answer.Goals as goal

pub returns-clause-unread : goal.returns-clause-unread
returns-clause-unread g c = λ none. c.verify.ensures.unread (subst (λ d. names_input d ≡ false) (sym c.text_of.ensures) none)

pub returns-clause-follows : goal.returns-clause-follows
returns-clause-follows g c = λ tells words asked.
    let w = g.D.System.reads c.args.system.now in
    let sight = sight_by g.D.DeviceFiles.answers c.args.system.now in
    let I = told_by g.I.Source.left g.I.Source.failures in
    let input = I c.args.input.now in
    let left = I c.verify.new.input in
    let args = c.args.self.now in
    let root = root_of c.args.job.now in
    let strict = c.args.job.now.strict in
    let answer = c.verify.result in
    let Answers : Plan → Type 0 = λ p. Follows end_of w p answer in
    let database = option_map (λ t. t.now) c.text_of.result in
    of_words sight input left Answers words c.args.job.now asked
    (λ word rows is. verify_planned w sight input left root strict word rows answer args (subst (λ t. IsTask word rows t) c.requires is)
    (subst (λ (d : Option (List ℕ)). OverNamed d input.bytes input.failures left.failures w (λ given reads. Follows end_of reads (verify_plan given root) answer)) c.text_of.ensures
    (subst (λ (r : List ℕ). OverNamed database input.bytes input.failures left.failures w (λ given reads. Follows end_of reads (verify_plan given r) answer)) c.root_of.ensures (c.verify.ensures.follows tells))))
