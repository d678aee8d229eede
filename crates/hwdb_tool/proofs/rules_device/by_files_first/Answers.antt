use Rattle.std.proofs.Common.{◌∙◌, subst, sym}
use Rattle.std.specs.Prelude.{option_map}
use Rattle.hwdb_spec_commands.specs.SysfsAnswers.{sight_by}
use Rattle.hwdb_spec_rules.specs.declared.forms.RulesForm.{RulesForm}
use Rattle.hwdb_plan.specs.Device.{by_files}
use Rattle.hwdb_plan.specs.Plans.{Follows}
use Rattle.hwdb_system.specs.OwnRules.{sources_in}
use Rattle.hwdb_tool.specs.Views.{end_of}
use Rattle.hwdb_tool.proofs.DevicePlanLemmas.{files_follow, none_follows}
use Rattle.hwdb_tool.proofs.rules_device.by_files_first.Goals as goal

pub returns-then-is_empty-clause-follows : goal.returns-then-is_empty-clause-follows
returns-then-is_empty-clause-follows g c = λ tells.
    let below = c.args.below.now in
    let s = below.system.now in
    none_follows end_of (g.D.System.reads s) (sight_by g.D.DeviceFiles.answers s) below.root.now c.args.form below.sys.now (option_map (λ p. p.now) c.args.place) (sources_in c.args.read.now) c.by_built_in.result
    (sym c.is_empty.ensures ∙ c.if-is_empty.true) (c.by_built_in.ensures.follows tells)

pub returns-clause-follows : goal.returns-clause-follows
returns-clause-follows g c = λ tells.
    let below = c.args.below.now in
    let s = below.system.now in
    let w = g.D.System.reads s in
    let sight = sight_by g.D.DeviceFiles.answers s in
    let sources = sources_in c.args.read.now in
    files_follow end_of w sight below.root.now c.args.form below.sys.now (option_map (λ p. p.now) c.args.place) sources c.by_files.result (sym c.is_empty.ensures ∙ c.if-is_empty.false)
    (subst (λ (f : RulesForm). Follows end_of w (by_files sight below.root.now f below.sys.now (option_map (λ p. p.now) c.args.place) sources) c.by_files.result) c.asks.ensures (c.by_files.ensures.follows tells))
