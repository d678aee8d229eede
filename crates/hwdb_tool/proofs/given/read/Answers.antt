use Rattle.std.proofs.Common.{◌∙◌, sym, subst, Global, Vec, ℕ}
use Rattle.hwdb_spec_commands.specs.Told.{IsReadTo}
use Rattle.hwdb_plan.specs.Input.{OverGiven}
use Rattle.hwdb_tool.proofs.given.read.Goals as goal

pub returns-then-is_dash-clause-told : goal.returns-then-is_dash-clause-told
returns-then-is_dash-clause-told g c = λ tells.
    let n = g.I.Source.failures c.args.input.now in
    let m = g.I.Source.failures c.read_input.new.input in
    subst (λ b. OverGiven b c.args.path.now (g.I.Source.left c.args.input.now) n m (g.D.System.reads c.args.system.now) (λ at w. IsReadTo (λ (v : Vec ℕ Global). v.items) (w.input at) at c.read_input.result))
    (sym c.if-is_dash.true ∙ c.is_dash.ensures) c.read_input.ensures.told

pub returns-else-is_dash-clause-told : goal.returns-else-is_dash-clause-told
returns-else-is_dash-clause-told g c = λ tells.
    let n = g.I.Source.failures c.args.input.now in
    subst (λ b. OverGiven b c.args.path.now (g.I.Source.left c.args.input.now) n n (g.D.System.reads c.args.system.now) (λ at w. IsReadTo (λ (v : Vec ℕ Global). v.items) (w.input at) at c.input.result))
    (sym c.if-is_dash.false ∙ c.is_dash.ensures) (c.input.ensures.told tells)
