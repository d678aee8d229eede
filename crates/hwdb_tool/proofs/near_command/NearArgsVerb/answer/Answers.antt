use Rattle.std.proofs.Common.{map, string_bytes, subst, Global, List, Result, String, ℕ}
use Rattle.hwdb_plan.specs.Files.{OfInput}
use Rattle.hwdb_plan.specs.Plans.{Follows, Plan}
use Rattle.hwdb_spec_commands.specs.Jobs.{IsTask}
use Rattle.hwdb_spec_commands.specs.Runs.{told_by}
use Rattle.hwdb_spec_commands.specs.SysfsAnswers.{sight_by}
use Rattle.hwdb_spec_commands.specs.declared.unread.Unread.{Unread}
use Rattle.hwdb_spec_program.specs.Program.{root_of}
use Rattle.hwdb_tool.specs.Views.{end_of}
use Rattle.hwdb_tool.proofs.ProgramPlanLemmas.{of_words}
use Rattle.hwdb_plan.specs.Near.{near_plan}
use Rattle.hwdb_spec_commands.specs.NearAsked.{near_form, near_limit}
use Rattle.hwdb_tool.proofs.NearWords.{near_planned}
use Rattle.hwdb_tool.proofs.near_command.NearArgsVerb.answer.Goals as goal

pub returns-clause-follows : goal.returns-clause-follows
returns-clause-follows g c = λ tells words asked.
    let w = g.D.System.reads c.args.system.now in
    let sight = sight_by g.D.DeviceFiles.answers c.args.system.now in
    let I = told_by g.I.Source.left g.I.Source.failures in
    let input = I c.args.input.now in
    let left = I c.near.new.input in
    let args = c.args.self.now in
    let root = root_of c.args.job.now in
    let strict = c.args.job.now.strict in
    let answer = c.near.result in
    let Answers : Plan → Type 0 = λ p. Follows end_of w p answer in
    let Told = λ (is : Result (List ℕ) Unread → Plan). OfInput input.bytes input.failures left.failures (λ told. Follows end_of w (is told) answer) in
    let files = c.deref.result.now in
    let device = c.as_bytes.result.now in
    let limit = c.count_of.result in
    of_words sight input left Answers words c.args.job.now asked
    (λ word rows is. near_planned w sight input left root strict word rows answer args (subst (λ t. IsTask word rows t) c.requires is)
    (subst (λ (fs : List (String Global)). Told (λ told. near_plan told (map string_bytes fs) root (near_form args.json (string_bytes args.device) (near_limit args.limit)))) c.deref.ensures.value
    (subst (λ (d : List ℕ). Told (λ told. near_plan told (map string_bytes files) root (near_form args.json d (near_limit args.limit)))) c.as_bytes.ensures.value
    (subst (λ (n : ℕ). Told (λ told. near_plan told (map string_bytes files) root (near_form args.json device n))) c.count_of.ensures
    (subst (λ (r : List ℕ). Told (λ told. near_plan told (map string_bytes files) r (near_form args.json device limit))) c.root_of.ensures (c.near.ensures.follows tells))))))
