use Rattle.std.proofs.Common.{Bor, Ok, Err, ap, map, option_map, subst, sym, ◌≡◌, Global, List, Option, Result, Vec, ℕ}
use Rattle.hwdb_check.specs.Known.{IsWrong}
use Rattle.hwdb_spec_commands.specs.Baselines.{marks_in}
use Rattle.hwdb_spec_commands.specs.declared.refusals.Refusal.{Refusal}
use Rattle.hwdb_plan.specs.Baseline.{over_baseline}
use Rattle.hwdb_plan.specs.Plans.{ReachesValue}
use Rattle.hwdb_spec_commands.specs.Told.{Reads}
use Rattle.hwdb_tool.proofs.CheckPlanLemmas.{baseline_read, baseline_unread, baseline_wrong, none_known}
use Rattle.hwdb_tool.proofs.check_command.known_at.Goals as goal

abbrev marks_of : Vec (Vec ℕ Global) Global → List (List ℕ)
marks_of v = map (λ t. t.items) v.items

-- what is promised, if words give this path
abbrev Known : Reads → Result (Vec (Vec ℕ Global) Global) Refusal → Option (Bor (List ℕ)) → Type 0
Known w result given = ReachesValue marks_of w (over_baseline (option_map (λ t. t.now) given)) result

pub returns-in_default : goal.returns-in_default
returns-in_default g c = λ tells.
    let w = g.D.System.reads c.args.system.now in
    subst (Known w (Ok c.new.result)) (sym c.in_default.is) (none_known w marks_of c.new.result (ap (map (λ t. t.items)) c.new.ensures.items))

pub returns-in_err-bytes : goal.returns-in_err-bytes
returns-in_err-bytes g c = λ tells.
    let w = g.D.System.reads c.args.system.now in
    subst (Known w c.from_residual.result) (sym c.in-Some.is)
    (baseline_unread w marks_of c.in-Some.path.now c.in_err-bytes.field-0.0 c.from_residual.result (c.in_err-bytes.ensures.told tells) c.from_residual.ensures.1)

pub returns-in-Ok : goal.returns-in-Ok
returns-in-Ok g c = λ tells.
    let w = g.D.System.reads c.args.system.now in
    let known = c.in-Ok.known in
    subst (Known w (Ok known)) (sym c.in-Some.is)
    (baseline_read w marks_of c.in-Some.path.now c.in_ok-bytes.bytes.items (c.in_ok-bytes.ensures.told tells) known
    (subst (λ (b : List ℕ). marks_in b ≡ Ok (marks_of known)) c.deref.ensures.value c.in-Ok.ensures.marks))

pub returns : goal.returns
returns g c = λ tells.
    let w = g.D.System.reads c.args.system.now in
    let r = c.refused_baseline.result in
    subst (Known w (Err r)) (sym c.in-Some.is)
    (baseline_wrong w marks_of c.in-Some.path.now c.in_ok-bytes.bytes.items (c.in_ok-bytes.ensures.told tells) c.in-Err.fault r
    (subst (λ (b : List ℕ). IsWrong (marks_in b) c.in-Err.fault) c.deref.ensures.value c.in-Err.ensures.wrong) c.refused_baseline.ensures)
