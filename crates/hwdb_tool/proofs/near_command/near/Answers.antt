use Rattle.std.proofs.Common.{sym, ◌∙◌}
use Rattle.hwdb_spec_commands.specs.NearAsked.{near_form}
use Rattle.hwdb_tool.proofs.PlanLemmas.{near_none, near_some}
use Rattle.hwdb_tool.proofs.near_command.near.Goals as goal

pub returns-then-is_empty-clause-follows : goal.returns-then-is_empty-clause-follows
returns-then-is_empty-clause-follows g c = λ tells.
    let a = c.args.question in
    let failures = g.I.Source.failures c.args.input.now in
    near_none (g.D.System.reads c.args.system.now) a.root.now (near_form a.json a.device.now a.limit) (g.I.Source.left c.args.input.now) failures failures c.near_asked.result c.args.given.now
    (sym c.is_empty.ensures ∙ c.if-is_empty.true) (c.near_asked.ensures.follows tells)

pub returns-else-is_empty-clause-follows : goal.returns-else-is_empty-clause-follows
returns-else-is_empty-clause-follows g c = λ tells.
    let a = c.args.question in
    near_some (g.D.System.reads c.args.system.now) a.root.now (near_form a.json a.device.now a.limit) (g.I.Source.left c.args.input.now) (g.I.Source.failures c.args.input.now)
    (g.I.Source.failures c.near_given.new.input) c.near_given.result c.args.given.now (sym c.is_empty.ensures ∙ c.if-is_empty.false) (c.near_given.ensures.follows tells)
