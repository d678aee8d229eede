use Rattle.std.proofs.Common.{[], ◌∙◌, ap, if◌then◌else◌, sym}
use Rattle.hwdb_plan.specs.Plans.{Ends}
use Rattle.hwdb_plan.specs.Plans.End.{Answers}
use Rattle.hwdb_spec_program.specs.Hiding.{hiding_line}
use Rattle.hwdb_spec_program.specs.HidingPlan.{hiding_plan}
use Rattle.hwdb_tool.proofs.HidingPlanLemmas.{asked_ends, quiet_ends, unset}
use Rattle.hwdb_tool.proofs.hiding.hiding_text.Goals as goal
use Rattle.hwdb_tool.proofs.hiding.hiding_text.Goals.{then-not-usr-via-then-not-usr, then-not-usr-via-else-not-usr+then-not-verbose}
use Rattle.hwdb_spec.specs.Lemmas.Calls.{each_value}

pub returns-then-not-usr-clause-follows : goal.returns-then-not-usr-clause-follows
returns-then-not-usr-clause-follows g c = λ tells.
    let w = g.D.System.reads c.args.system.now in
    elim c.then-not-usr.branch [
      | then-not-usr-via-then-not-usr f ↦ quiet_ends w c.args.usr c.args.verbose c.args.root.now c.new.result.items (λ u v. unset c.args.usr f.if-not-usr.true u) c.new.ensures.items
      | then-not-usr-via-else-not-usr+then-not-verbose f ↦
          quiet_ends w c.args.usr c.args.verbose c.args.root.now c.new.result.items (λ u v. unset c.args.verbose f.if-not-verbose.true v) c.new.ensures.items
    ]

pub returns-then-branch-clause-follows : goal.returns-then-branch-clause-follows
returns-then-branch-clause-follows g c = λ tells.
    let w = g.D.System.reads c.args.system.now in
    let root = c.args.root.now in
    each_value _ (λ text. Ends w (hiding_plan c.args.usr c.args.verbose root) (Answers 0 text.items [])) c.hiding_line.result
    (λ text is. asked_ends w (g.D.Store.seen c.args.system.now) (g.D.System.may_fail c.args.system.now) (g.met.D.System.agrees c.args.system.now tells) root c.args.usr c.args.verbose
    c.as_str.result.now c.in_ok-is_there.field-0 text.items c.if-not-usr.false c.if-not-verbose.false (c.as_str.ensures.value ∙ c.in_ok-path.ensures) (c.in_ok-is_there.ensures.there tells)
    (c.in_ok-is_there.ensures.told tells) (is ∙ ap (λ b. if b then hiding_line root else []) (sym c.if-branch.true))) c.hiding_line.ensures

pub returns-clause-follows : goal.returns-clause-follows
returns-clause-follows g c = λ tells.
    let root = c.args.root.now in
    asked_ends (g.D.System.reads c.args.system.now) (g.D.Store.seen c.args.system.now) (g.D.System.may_fail c.args.system.now) (g.met.D.System.agrees c.args.system.now tells) root c.args.usr
    c.args.verbose c.as_str.result.now c.in_ok-is_there.field-0 c.new-else-branch.result.items c.if-not-usr.false c.if-not-verbose.false (c.as_str.ensures.value ∙ c.in_ok-path.ensures)
    (c.in_ok-is_there.ensures.there tells) (c.in_ok-is_there.ensures.told tells)
    (c.new-else-branch.ensures.items ∙ ap (λ b. if b then hiding_line root else []) (sym c.if-branch.false))
