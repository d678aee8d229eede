use Rattle.std.proofs.Common.{◌≡◌, ap, false, map, string_bytes, subst, sym, Global, List, String}
use Rattle.hwdb_plan.specs.Plans.{Follows, Plan}
use Rattle.hwdb_spec_commands.specs.Jobs.{IsTask}
use Rattle.hwdb_spec_commands.specs.Runs.{told_by}
use Rattle.hwdb_spec_commands.specs.SysfsAnswers.{sight_by}
use Rattle.hwdb_spec_program.specs.Program.{root_of}
use Rattle.hwdb_tool.specs.Views.{end_of}
use Rattle.hwdb_tool.proofs.ProgramPlanLemmas.{of_words}
use Rattle.hwdb_spec_commands.specs.Given.{any_dash}
use Rattle.std.specs.Prelude.{◌∷◌}
use Rattle.hwdb_tool.proofs.DiffWords.{diff_planned}
use Rattle.hwdb_tool.proofs.diff_command.DiffArgsVerb.answer.Goals as goal

pub returns-clause-unread : goal.returns-clause-unread
returns-clause-unread g c = λ none.
    let args = c.args.self.now in
    let old = string_bytes args.old in
    let new = string_bytes args.new in
    let paths = map string_bytes c.deref.result.now in
    c.diff.ensures.unread
    (subst (λ p. any_dash (p ∷ c.as_str-new.result.now ∷ paths) ≡ false) (sym c.as_str-old.ensures.value)
    (subst (λ p. any_dash (old ∷ p ∷ paths) ≡ false) (sym c.as_str-new.ensures.value)
    (subst (λ l. any_dash (old ∷ new ∷ map string_bytes l) ≡ false) (sym c.deref.ensures.value) none)))

pub returns-clause-follows : goal.returns-clause-follows
returns-clause-follows g c = λ tells words asked.
    let w = g.D.System.reads c.args.system.now in
    let sight = sight_by g.D.DeviceFiles.answers c.args.system.now in
    let I = told_by g.I.Source.left g.I.Source.failures in
    let input = I c.args.input.now in
    let left = I c.diff.new.input in
    let args = c.args.self.now in
    let root = root_of c.args._job.now in
    let strict = c.args._job.now.strict in
    let answer = c.diff.result in
    let Answers : Plan → Type 0 = λ p. Follows end_of w p answer in
    of_words sight input left Answers words c.args._job.now asked
    (λ word rows is. diff_planned w sight input left root strict word rows answer args (subst (λ t. IsTask word rows t) c.requires is)
    (map string_bytes c.deref.result.now) c.as_str-old.result.now c.as_str-new.result.now (ap (λ (ds : List (String Global)). map string_bytes ds) c.deref.ensures.value) c.as_str-old.ensures.value c.as_str-new.ensures.value (c.diff.ensures.follows tells))
