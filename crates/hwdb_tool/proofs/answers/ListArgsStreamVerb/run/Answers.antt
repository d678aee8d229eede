use Rattle.std.proofs.Common.{string_bytes, subst, List, Option, ℕ}
use Rattle.std.specs.Prelude.{option_map}
use Rattle.hwdb_plan.specs.Ended.{ShowsEnd, outs}
use Rattle.hwdb_spec_commands.specs.Jobs.{IsTask}
use Rattle.hwdb_spec_commands.specs.Runs.{told_by}
use Rattle.hwdb_spec_commands.specs.SysfsAnswers.{sight_by}
use Rattle.hwdb_spec_program.specs.Program.{root_of}
use Rattle.hwdb_tool.proofs.ProgramPlanLemmas.{of_words}
use Rattle.hwdb_plan.specs.List.{list_plan}
use Rattle.hwdb_tool.proofs.ListWords.{list_planned}
use Rattle.hwdb_tool.proofs.answers.ListArgsStreamVerb.run.Goals as goal

pub returns-clause-follows : goal.returns-clause-follows
returns-clause-follows g c = λ tells words asked.
    let w = g.D.System.reads c.args.system.now in
    let sight = sight_by g.D.DeviceFiles.answers c.args.system.now in
    let I = told_by g.I.Source.left g.I.Source.failures in
    let O = told_by g.O.Sink.taken g.O.Sink.failures in
    let E = told_by g.E.Sink.taken g.E.Sink.failures in
    let input = I c.args._input.now in
    let left = I c.args._input.now in
    let before = outs (E c.args._err.now) (O c.args.out.now) in
    let now = outs (E c.args._err.now) (O c.list.new.out) in
    let args = c.args.self.now in
    let root = root_of c.args.job.now in
    let result = c.list.result in
    let after = option_map (λ t. t.now) c.text_of.result in
    of_words sight input left (λ p. ShowsEnd w p input left before now result) words c.args.job.now asked
    (λ word rows is. list_planned w sight input left before now result root c.args.job.now.strict word rows args (subst (λ t. IsTask word rows t) c.requires is)
    (subst (λ (f : Option (List ℕ)). ShowsEnd w (list_plan root args.json (string_bytes args.device) f args.limit) input input before now result) c.text_of.ensures
    (subst (λ (d : List ℕ). ShowsEnd w (list_plan root args.json d after args.limit) input input before now result) c.as_bytes.ensures.value
    (subst (λ (r : List ℕ). ShowsEnd w (list_plan r args.json c.as_bytes.result.now after args.limit) input input before now result) c.root_of.ensures (c.list.ensures.follows tells input (E c.args._err.now))))))
