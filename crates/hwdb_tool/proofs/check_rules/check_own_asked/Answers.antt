use Rattle.std.proofs.Common.{◌∙◌, sym, string_bytes}
use Rattle.std.specs.Prelude.{is_some, option_map}
use Rattle.hwdb_spec_commands.specs.Checks.{nothing_named}
use Rattle.hwdb_plan.specs.Baseline.{over_baseline}
use Rattle.hwdb_plan.specs.OwnRules.{own_rules}
use Rattle.hwdb_plan.specs.Plans.{Plan}
use Rattle.hwdb_plan.specs.Plans.Plan.{Done}
use Rattle.hwdb_tool.specs.CheckAsked.{say_of}
use Rattle.hwdb_tool.proofs.CheckPlanLemmas.{fit_goes_on, misfit_said, option_named}
use Rattle.hwdb_tool.proofs.check_rules.check_own_asked.Goals as goal

pub returns-then-is_some : goal.returns-then-is_some
returns-then-is_some g c = λ tells.
    let args = c.args.args.now in
    let name = option_map string_bytes args.name in
    let p : Plan = over_baseline (option_map string_bytes args.baseline) (λ known. own_rules c.args.root.now (λ sources. Done (say_of args c.args.strict name known sources))) in
    misfit_said (g.D.System.reads c.args.system.now) (is_some name) nothing_named p c.nothing_named.result
    (option_named string_bytes args.name ∙ sym c.is_some.ensures ∙ c.if-is_some.true) c.nothing_named.ensures

pub returns : goal.returns
returns g c = λ tells.
    let args = c.args.args.now in
    let name = option_map string_bytes args.name in
    let p : Plan = over_baseline (option_map string_bytes args.baseline) (λ known. own_rules c.args.root.now (λ sources. Done (say_of args c.args.strict name known sources))) in
    fit_goes_on (g.D.System.reads c.args.system.now) (is_some name) nothing_named p c.check_own_known.result
    (option_named string_bytes args.name ∙ sym c.is_some.ensures ∙ c.if-is_some.false) (c.check_own_known.ensures tells)
