use Rattle.std.proofs.Common.{map, string_bytes, subst, Global, List, String, ℕ}
use Rattle.hwdb_plan.specs.Ended.{ShowsEnd, outs}
use Rattle.hwdb_spec_commands.specs.Jobs.{IsTask}
use Rattle.hwdb_spec_commands.specs.Runs.{told_by}
use Rattle.hwdb_spec_commands.specs.SysfsAnswers.{sight_by}
use Rattle.hwdb_spec_program.specs.Program.{root_of}
use Rattle.hwdb_tool.proofs.ProgramPlanLemmas.{of_words}
use Rattle.hwdb_plan.specs.Answers.{query_plan}
use Rattle.hwdb_tool.proofs.QueryWords.{query_planned}
use Rattle.hwdb_tool.proofs.query_command.QueryArgsStreamVerb.run.Goals as goal

pub returns-clause-follows : goal.returns-clause-follows
returns-clause-follows g c = λ tells words asked.
    let w = g.D.System.reads c.args.system.now in
    let sight = sight_by g.D.DeviceFiles.answers c.args.system.now in
    let I = told_by g.I.Source.left g.I.Source.failures in
    let O = told_by g.O.Sink.taken g.O.Sink.failures in
    let E = told_by g.E.Sink.taken g.E.Sink.failures in
    let input = I c.args.input.now in
    let left = I c.look_up.new.input in
    let before = outs (E c.args.err.now) (O c.args.out.now) in
    let now = outs (E c.look_up.new.err) (O c.look_up.new.out) in
    let args = c.args.self.now in
    let root = root_of c.args.job.now in
    let result = c.look_up.result in
    of_words sight input left (λ p. ShowsEnd w p input left before now result) words c.args.job.now asked
    (λ word rows is. query_planned w sight input left before now result root c.args.job.now.strict word rows args (subst (λ t. IsTask word rows t) c.requires is)
    (subst (λ (ds : List (String Global)). ShowsEnd w (query_plan root args.json (map string_bytes ds)) input left before now result) c.deref.ensures.value
    (subst (λ (r : List ℕ). ShowsEnd w (query_plan r args.json (map string_bytes c.deref.result.now)) input left before now result) c.root_of.ensures (c.look_up.ensures.follows tells))))
