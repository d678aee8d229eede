use Rattle.std.proofs.Common.{List, subst, ℕ}
use Rattle.hwdb_system.specs.declared.overlay.Overlay.{Overlay}
use Rattle.hwdb_spec_program.specs.Program.{root_of}
use Rattle.hwdb_spec_commands.specs.Runs.{told_by}
use Rattle.hwdb_spec_commands.specs.SysfsAnswers.{sight_by}
use Rattle.hwdb_plan.specs.Ended.{outs}
use Rattle.hwdb_spec_program.specs.ProgramPlan.{ShowsPlan, files_plan}
use Rattle.hwdb_system.specs.Reads.{with_read}
use Rattle.hwdb_tool.proofs.TextProgramLemmas.{over_planned}
use Rattle.hwdb_tool.proofs.over_text.run_over.Goals as goal

pub returns-clause-follows : goal.returns-clause-follows
returns-clause-follows g c = λ tells within words asked.
    let job = c.args.job.now in
    let w = g.D.System.reads c.args.system.now in
    let sight = sight_by g.D.DeviceFiles.answers c.args.system.now in
    let I = told_by g.I.Source.left g.I.Source.failures in
    let O = told_by g.O.Sink.taken g.O.Sink.failures in
    let E = told_by g.E.Sink.taken g.E.Sink.failures in
    let ib = I c.args.input.now in
    let im = I c.run.new.input in
    let before = outs (E c.args.err.now) (O c.args.out.now) in
    let now = outs (E c.run.new.err) (O c.run.new.out) in
    let made = c.args.database.now in
    let Over : Overlay g.row.D.Denot → Type 0 = λ o. ShowsPlan (λ a. files_plan a words) (with_read o.root.now o.bytes.now (g.D.System.reads o.system.now)) (sight_by g.D.DeviceFiles.answers o.system.now) ib im before now c.run.result in
    let At : List ℕ → Type 0 = λ root. ShowsPlan (λ a. files_plan a words) (with_read root made w) sight ib im before now c.run.result in
    let over : At c.root_of-root.result.now = subst Over c.new-shown.ensures (c.run.ensures.follows tells words asked) in
    over_planned w sight ib im before words job asked (root_of job) made now c.run.result c.text_shows_over.ensures within (subst At c.root_of-root.ensures over)
