use Rattle.std.proofs.Common.{Bool, List, Option, map, option_map, subst, sym, ◌∙◌, ℕ, Ok}
use Rattle.hwdb_spec.specs.Written.{IsDatabaseOf}
use Rattle.hwdb_spec_commands.specs.Status.{IsAmount, IsState}
use Rattle.hwdb_databases.specs.Views.{amount_shown, report_shown, state_shown}
use Rattle.hwdb_tool.specs.Statuses.{now_with}
use Rattle.hwdb_tool.proofs.status_command.reported.Goals as goal
use Rattle.hwdb_plan.specs.Lemmas.Diff.{memory_follows}
use Rattle.hwdb_plan.specs.Lemmas.Folders.{value_ends, value_ends_in}
use Rattle.hwdb_plan.specs.Lemmas.Status.{report_ends}
use Rattle.hwdb_plan.specs.Plans.{Plan}
use Rattle.hwdb_plan.specs.Status.{InPlaces, Now, databases_of, looked_at, report_beside, report_end, report_plan}
use Rattle.hwdb_plan.specs.Plans.Plan.{Done}
use Rattle.hwdb_tool.specs.Views.{end_of}
use Rattle.hwdb_tool.specs.Statuses.{now_with, places}
use Rattle.hwdb_tool.specs.declared.status_command.AskedDatabase.{AskedDatabase}
use Rattle.hwdb_tool.proofs.StatusPlanLemmas.{held_in}

abbrev value : AskedDatabase → InPlaces
value a = places a.etc a.usr (held_in a.bytes) (held_in a.hidden)

-- what follows the databases

abbrev after : (root : List ℕ) (json quiet : Bool) → Now → InPlaces → Plan
after root json quiet now at =
    looked_at at.asked (λ asked. looked_at at.hidden (λ hidden. Done (report_end json quiet (report_beside root now at asked hidden))))

pub returns : goal.returns
returns g c = record {
  follows = λ tells m is.
      let w = g.D.System.reads c.args.system.now in
      let root = c.args.root.now in
      let asked = c.in_ok-asked.asked in
      let now = now_with m c.args.made.database.items c.args.made.bare (map (λ p. p.items) c.args.made.unread.masked.items) (map (λ p. p.items) c.args.made.unread.ignored.items) in
      let standing = c.in_ok-standing.standing in
      let holds = option_map amount_shown standing.holds in
      let hidden = option_map amount_shown c.in_ok-hidden.hidden in
      value_ends w value end_of (databases_of root) (after root c.args.telling.json c.args.telling.quiet now) asked (Ok c.new.result) (c.in_ok-asked.ensures.told tells)
      (report_ends w c.law_one_tree.ensures root c.args.telling.json c.args.telling.quiet now (value asked) holds hidden (state_shown standing.state) (report_shown c.in_ok-report.report) c.new.result.status c.new.result.err.items
      c.new.result.out.items (subst (λ (o : Option (List ℕ)). IsAmount o holds) c.bytes_of.ensures c.in_ok-standing.ensures.holds) c.in_ok-hidden.ensures
      (subst (λ (d : List ℕ). IsState d m (option_map (λ b. b.items) asked.bytes) (state_shown standing.state)) c.deref.ensures.value
      (subst (λ (o : Option (List ℕ)). IsState c.deref.result.now m o (state_shown standing.state)) c.bytes_of.ensures (c.in_ok-standing.ensures.state m (subst (λ (d : List ℕ). IsDatabaseOf m d) (sym c.deref.ensures.value) is)))) c.in_ok-report.ensures
      (c.new.ensures.status ∙ c.status.ensures.is) c.new.ensures.err (c.new.ensures.out ∙ c.in_ok-text.ensures));
}

pub returns-in_err-asked : goal.returns-in_err-asked
returns-in_err-asked g c = record {
  follows = λ tells m is.
      let now = now_with m c.args.made.database.items c.args.made.bare (map (λ p. p.items) c.args.made.unread.masked.items) (map (λ p. p.items) c.args.made.unread.ignored.items) in
      value_ends_in (g.D.System.reads c.args.system.now) value end_of (databases_of c.args.root.now) (after c.args.root.now c.args.telling.json c.args.telling.quiet now) c.in_err-asked.field-0.0 c.from_residual.result
      (c.in_err-asked.ensures.told tells) c.from_residual.ensures.1;
}

pub returns-in_err-standing : goal.returns-in_err-standing
returns-in_err-standing g c = record {
  follows = λ tells m is.
      let now = now_with m c.args.made.database.items c.args.made.bare (map (λ p. p.items) c.args.made.unread.masked.items) (map (λ p. p.items) c.args.made.unread.ignored.items) in
      memory_follows (g.D.System.reads c.args.system.now) end_of (report_plan c.args.root.now c.args.telling.json c.args.telling.quiet now) c.from_residual-in_err-standing.result c.from_residual-in_err-standing.ensures.1;
}

pub returns-in_err-hidden : goal.returns-in_err-hidden
returns-in_err-hidden g c = record {
  follows = λ tells m is.
      let now = now_with m c.args.made.database.items c.args.made.bare (map (λ p. p.items) c.args.made.unread.masked.items) (map (λ p. p.items) c.args.made.unread.ignored.items) in
      memory_follows (g.D.System.reads c.args.system.now) end_of (report_plan c.args.root.now c.args.telling.json c.args.telling.quiet now) c.from_residual-in_err-hidden.result c.from_residual-in_err-hidden.ensures.1;
}

pub returns-in_err-report : goal.returns-in_err-report
returns-in_err-report g c = record {
  follows = λ tells m is.
      let now = now_with m c.args.made.database.items c.args.made.bare (map (λ p. p.items) c.args.made.unread.masked.items) (map (λ p. p.items) c.args.made.unread.ignored.items) in
      memory_follows (g.D.System.reads c.args.system.now) end_of (report_plan c.args.root.now c.args.telling.json c.args.telling.quiet now) c.from_residual-in_err-report.result c.from_residual-in_err-report.ensures.1;
}

pub returns-in_err-text : goal.returns-in_err-text
returns-in_err-text g c = record {
  follows = λ tells m is.
      let now = now_with m c.args.made.database.items c.args.made.bare (map (λ p. p.items) c.args.made.unread.masked.items) (map (λ p. p.items) c.args.made.unread.ignored.items) in
      memory_follows (g.D.System.reads c.args.system.now) end_of (report_plan c.args.root.now c.args.telling.json c.args.telling.quiet now) c.from_residual-in_err-text.result c.from_residual-in_err-text.ensures.1;
}
