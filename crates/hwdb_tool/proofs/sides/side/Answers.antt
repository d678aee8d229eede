use Rattle.std.proofs.Common.{sym, ◌∙◌, Err}
use Rattle.hwdb_plan.specs.Lemmas.Sides.{dash_side, other_side}
use Rattle.hwdb_spec_commands.specs.declared.unread.Unread.TheVariants.{Memory}
use Rattle.hwdb_tool.proofs.SidePlanLemmas.{items}
use Rattle.hwdb_tool.proofs.sides.side.Goals as goal

pub returns-then-is_dash-clause-told : goal.returns-then-is_dash-clause-told
returns-then-is_dash-clause-told g c = λ tells.
    let told = c.read_input.ensures.told in (
      told.0,
      told.1,
      dash_side (g.D.System.reads c.args.system.now) items told.0 c.args.path.now c.read_input.result (sym c.is_dash.ensures ∙ c.if-is_dash.true) told.2,
    )

pub returns-else-is_dash-clause-told : goal.returns-else-is_dash-clause-told
returns-else-is_dash-clause-told g c = λ tells. (
  Err Memory,
  tt,
  other_side (g.D.System.reads c.args.system.now) items (Err Memory) c.args.path.now c.plain_side.result (sym c.is_dash.ensures ∙ c.if-is_dash.false) (c.plain_side.ensures.told tells),
)
