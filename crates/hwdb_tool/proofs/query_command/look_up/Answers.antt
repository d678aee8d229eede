use Rattle.std.proofs.Common.{◌∙◌, map, string_bytes, subst, sym}
use Rattle.hwdb_spec_commands.specs.Runs.{told_by}
use Rattle.hwdb_plan.specs.Answers.{answer_plan, devices_plan}
use Rattle.hwdb_plan.specs.Ended.{ShowsEnd, outs}
use Rattle.hwdb_plan.specs.Lemmas.Ends.{answer_shows}
use Rattle.hwdb_tool.specs.declared.answer.Answer.{Answer}
use Rattle.hwdb_tool.proofs.query_command.look_up.Goals as goal

pub returns-then-is_input-clause-follows : goal.returns-then-is_input-clause-follows
returns-then-is_input-clause-follows g c = λ tells.
    let input = told_by g.I.Source.left g.I.Source.failures in
    let err = told_by g.E.Sink.taken g.E.Sink.failures in
    let out = told_by g.O.Sink.taken g.O.Sink.failures in
    subst (λ b. ShowsEnd (g.D.System.reads c.args.system.now) (devices_plan b c.args.lookup.root.now c.args.lookup.form (map string_bytes c.args.lookup.devices.now)) (input c.args.input.now) (input c.answer_input.new.input)
    (outs (err c.args.err.now) (out c.args.out.now)) (outs (err c.answer_input.new.err) (out c.answer_input.new.out)) c.answer_input.result) (sym c.if-is_input.true ∙ c.is_input.ensures) (c.answer_input.ensures.follows tells)

pub returns-clause-follows : goal.returns-clause-follows
returns-clause-follows g c = λ tells.
    let input = told_by g.I.Source.left g.I.Source.failures c.args.input.now in
    let err = told_by g.E.Sink.taken g.E.Sink.failures in
    let out = told_by g.O.Sink.taken g.O.Sink.failures in
    let w = g.D.System.reads c.args.system.now in
    subst (λ b. ShowsEnd w (devices_plan b c.args.lookup.root.now c.args.lookup.form (map string_bytes c.args.lookup.devices.now)) input input (outs (err c.args.err.now) (out c.args.out.now)) (outs (err c.printed.new.err) (out c.printed.new.out)) c.printed.result)
    (sym c.if-is_input.false ∙ c.is_input.ensures)
    (answer_shows (λ (a : Answer). a.status) (λ a. a.err.items) (λ a. a.out.items) c.answer_given-answer.result c.printed.result w (answer_plan c.args.lookup.root.now c.args.lookup.form (map string_bytes c.args.lookup.devices.now)) input input
    (outs (err c.args.err.now) (out c.args.out.now)) (outs (err c.printed.new.err) (out c.printed.new.out)) (c.answer_given-answer.ensures.follows tells) c.printed.ensures.prints)
