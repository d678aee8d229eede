use Rattle.std.proofs.Common.{subst, sym, List, ℕ, map, Vec, Global}
use Rattle.hwdb_tool.specs.Views.{end_of}
use Rattle.hwdb_tool.proofs.status_command.status.Goals as goal
use Rattle.hwdb_plan.specs.Plans.{Follows}
use Rattle.hwdb_plan.specs.Status.{Now, made_now, report_plan}
use Rattle.hwdb_tool.proofs.StatusPlanLemmas.{of_goes, of_stops}
use Rattle.hwdb_tool.specs.Statuses.{IsNow}
use Rattle.hwdb_tool.specs.declared.status_command.MadeNow.{MadeNow}

abbrev paths_of : Vec (Vec ℕ Global) Global → List (List ℕ)
paths_of v = map (λ p. p.items) v.items

abbrev Is : MadeNow → Now → Type 0
Is now = IsNow now.database.items now.bare (paths_of now.unread.masked) (paths_of now.unread.ignored)

pub returns : goal.returns
returns g c = record {
  follows = λ tells.
      let w = g.D.System.reads c.args.system.now in
      let next = report_plan c.args.root.now c.args.json c.args.quiet in
      of_goes w Is end_of (made_now c.args.root.now) next c.in_ok-made.made c.reported.result (c.in_ok-made.ensures.told tells)
      (λ x is. subst (λ (n : Now). Follows end_of w (next n) c.reported.result) (sym is.0) (c.reported.ensures.follows tells x.assigned is.1));
}

pub returns-in_err-made : goal.returns-in_err-made
returns-in_err-made g c = record {
  follows = λ tells.
      of_stops (g.D.System.reads c.args.system.now) Is end_of (made_now c.args.root.now) (report_plan c.args.root.now c.args.json c.args.quiet) c.in_err-made.field-0.0 c.from_residual.result
      (c.in_err-made.ensures.told tells) c.from_residual.ensures.1;
}
