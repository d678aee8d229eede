use Rattle.std.proofs.Common.{◌∙◌, map, option_map, string_bytes, sym}
use Rattle.hwdb_plan.specs.Check.{said_of}
use Rattle.hwdb_tool.proofs.CheckPlanLemmas.{check_none, check_some}
use Rattle.hwdb_tool.proofs.check_command.check.Goals as goal

pub returns-then-is_empty-clause-follows : goal.returns-then-is_empty-clause-follows
returns-then-is_empty-clause-follows g c = λ tells.
    let failures = g.I.Source.failures c.args.input.now in
    check_none (g.D.System.reads c.args.system.now) c.args.root.now (said_of c.args.format c.args.strict (map string_bytes c.args.allowed.now) (option_map (λ t. t.now) c.args.name) (map (λ t. t.items) c.args.known.now)) (g.I.Source.left c.args.input.now) failures failures
    c.check_chosen.result c.args.given.now (sym c.is_empty.ensures ∙ c.if-is_empty.true) (c.check_chosen.ensures.follows tells)

pub returns-else-is_empty-clause-follows : goal.returns-else-is_empty-clause-follows
returns-else-is_empty-clause-follows g c = λ tells.
    let before = g.I.Source.failures c.args.input.now in
    let now = g.I.Source.failures c.check_named.new.input in
    check_some (g.D.System.reads c.args.system.now) c.args.root.now (said_of c.args.format c.args.strict (map string_bytes c.args.allowed.now) (option_map (λ t. t.now) c.args.name) (map (λ t. t.items) c.args.known.now)) (g.I.Source.left c.args.input.now) before now
    c.check_named.result c.args.given.now (sym c.is_empty.ensures ∙ c.if-is_empty.false) (c.check_named.ensures.follows tells)
