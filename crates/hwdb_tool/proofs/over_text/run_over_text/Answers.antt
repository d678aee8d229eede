use Rattle.std.proofs.Common.{List, Ok, Err, [], ap, length, refl, subst, ◌∙◌, ◌≢◌, ◌≤◌, ℕ}
use Rattle.std.specs.Prelude.{option_map}
use Rattle.hwdb_spec_program.specs.Program.{root_of}
use Rattle.hwdb_spec_commands.specs.Runs.{HasTaken, WasCut, told_by}
use Rattle.hwdb_spec_commands.specs.SysfsAnswers.{sight_by}
use Rattle.hwdb_tool.proofs.FlushLemmas.{hands_on_twice}
use Rattle.hwdb_tool.proofs.OverTextLemmas.{no_misfit}
use Rattle.hwdb_plan.specs.Ended.{outs}
use Rattle.hwdb_plan.specs.OverText.{Basis, basis, basis_now}
use Rattle.hwdb_plan.specs.Plans.{ReachesValue}
use Rattle.hwdb_plan.specs.TextLaws.{WasSaid}
use Rattle.hwdb_spec.specs.Texts.{max_file}
use Rattle.hwdb_spec_program.specs.ProgramPlan.{ShowsPlan, program_plan}
use Rattle.hwdb_tool.specs.TextPlans.{besides_for, plan_over}
use Rattle.hwdb_tool.specs.declared.over_text.Basis.{Basis as Held}
use Rattle.hwdb_tool.proofs.TextProgramLemmas.{misused_planned, one_error, text_planned, unmade_planned}
use Rattle.hwdb_tool.proofs.over_text.run_over_text.Goals as goal

pub returns-in_err-say-clause-out_hands_on : goal.returns-in_err-say-clause-out_hands_on
returns-in_err-say-clause-out_hands_on g c = hands_on_twice _ _ _ _ _ _ c.in_ok-status.ensures.unfailed c.in_ok-status.ensures.out_hands_on c.in_err-say.ensures.hands_on

-- ---- its plan
abbrev basis_in : Held → Basis
basis_in m = basis m.besides.items m.database.items

pub returns-in-Some-clause-follows : goal.returns-in-Some-clause-follows
returns-in-Some-clause-follows g c = λ tells words asked.
    let job = c.args.job.now in
    let w = g.D.System.reads c.args.system.now in
    let sight = sight_by g.D.DeviceFiles.answers c.args.system.now in
    let I = told_by g.I.Source.left g.I.Source.failures in
    let O = told_by g.O.Sink.taken g.O.Sink.failures in
    let E = told_by g.E.Sink.taken g.E.Sink.failures in
    let ib = I c.args.input.now in
    let before = outs (E c.args.err.now) (O c.args.out.now) in
    misused_planned w sight ib ib before words job asked c.requires c.in-Some.text.now c.misused.result (ap (option_map (λ t. t.now)) c.in-Some.is) c.misused.ensures

pub returns-in_err-made-clause-follows : goal.returns-in_err-made-clause-follows
returns-in_err-made-clause-follows g c = λ tells words asked.
    let job = c.args.job.now in
    let w = g.D.System.reads c.args.system.now in
    let sight = sight_by g.D.DeviceFiles.answers c.args.system.now in
    let I = told_by g.I.Source.left g.I.Source.failures in
    let O = told_by g.O.Sink.taken g.O.Sink.failures in
    let E = told_by g.E.Sink.taken g.E.Sink.failures in
    let ib = I c.args.input.now in
    let before = outs (E c.args.err.now) (O c.args.out.now) in
    let fit = no_misfit job.misfit c.in_default.not-Some in
    let r = c.in_err-made.field-0.0 in
    let why = subst (λ root. ReachesValue basis_in w (basis_now root (besides_for job.task)) (Err r)) c.root_of-root.ensures (c.in_err-made.ensures.told tells) in
    unmade_planned w sight ib ib before words job asked c.requires r c.from_residual.result fit why c.from_residual.ensures.1

pub returns-in_err-status-clause-follows : goal.returns-in_err-status-clause-follows
returns-in_err-status-clause-follows g c = λ tells words asked.
    let job = c.args.job.now in
    let w = g.D.System.reads c.args.system.now in
    let sight = sight_by g.D.DeviceFiles.answers c.args.system.now in
    let I = told_by g.I.Source.left g.I.Source.failures in
    let O = told_by g.O.Sink.taken g.O.Sink.failures in
    let E = told_by g.E.Sink.taken g.E.Sink.failures in
    let ib = I c.args.input.now in
    let before = outs (E c.args.err.now) (O c.args.out.now) in
    let fit = no_misfit job.misfit c.in_default.not-Some in
    let im = I c.run_over.new.input in
    let middle = outs (E c.run_over.new.err) (O c.run_over.new.out) in
    let m = c.in_ok-made.made in
    let b = basis_in m in
    let is_made = c.in_ok-made.ensures.made tells in
    let goes = subst (λ root. ReachesValue basis_in w (basis_now root (besides_for job.task)) (Ok m)) c.root_of-root.ensures (c.in_ok-made.ensures.told tells) in
    let r = c.in_err-status.field-0.0 in
    let follows = subst (λ d. length d ≤ max_file → ShowsPlan (plan_over (root_of job) d words) w sight ib im before middle (Err r)) c.deref.ensures.value (λ within. c.in_err-status.ensures.follows tells within words asked) in
    let said : WasSaid b.besides middle middle (Err r) (Err r) = record { quiet = λ none. (refl, refl); err = refl; said = (refl, refl) } in
    subst (ShowsPlan (λ a. program_plan a words) w sight ib im before middle) (one_error r c.from_residual-in_err-status.result c.from_residual-in_err-status.ensures.1)
    (text_planned w sight ib im before words job asked c.requires b goes middle middle (Err r) (Err r) said c.over_is_no_more.ensures fit is_made.0 is_made.1 is_made.3 (follows is_made.2.within))

pub returns-in_err-say-clause-follows : goal.returns-in_err-say-clause-follows
returns-in_err-say-clause-follows g c = λ tells words asked.
    let job = c.args.job.now in
    let w = g.D.System.reads c.args.system.now in
    let sight = sight_by g.D.DeviceFiles.answers c.args.system.now in
    let I = told_by g.I.Source.left g.I.Source.failures in
    let O = told_by g.O.Sink.taken g.O.Sink.failures in
    let E = told_by g.E.Sink.taken g.E.Sink.failures in
    let ib = I c.args.input.now in
    let before = outs (E c.args.err.now) (O c.args.out.now) in
    let fit = no_misfit job.misfit c.in_default.not-Some in
    let im = I c.run_over.new.input in
    let middle = outs (E c.run_over.new.err) (O c.run_over.new.out) in
    let m = c.in_ok-made.made in
    let b = basis_in m in
    let is_made = c.in_ok-made.ensures.made tells in
    let goes = subst (λ root. ReachesValue basis_in w (basis_now root (besides_for job.task)) (Ok m)) c.root_of-root.ensures (c.in_ok-made.ensures.told tells) in
    let now = outs (E c.run_over.new.err) (O c.say.new.err) in
    let n = c.in_ok-status.status in
    let r = c.in_err-say.field-0.0 in
    let follows = subst (λ d. length d ≤ max_file → ShowsPlan (plan_over (root_of job) d words) w sight ib im before middle (Ok n)) c.deref.ensures.value (λ within. c.in_ok-status.ensures.follows tells within words asked) in
    let some : b.besides ≢ [] = subst (λ (t : List ℕ). t ≢ []) c.deref-2.ensures.value c.in_err-say.ensures.some in
    let cut = subst (λ (t : List ℕ). WasCut t (O c.run_over.new.out) (O c.say.new.err)) c.deref-2.ensures.value c.in_err-say.ensures.refused.1 in
    let said : WasSaid b.besides middle now (Ok n) (Err r) = record { quiet = λ none. absurd (some none); err = refl; said = (c.in_err-say.ensures.refused.0, cut) } in
    subst (ShowsPlan (λ a. program_plan a words) w sight ib im before now) (one_error r c.from_residual-in_err-say.result c.from_residual-in_err-say.ensures.1)
    (text_planned w sight ib im before words job asked c.requires b goes middle now (Ok n) (Err r) said c.over_is_no_more.ensures fit is_made.0 is_made.1 is_made.3 (follows is_made.2.within))

pub returns-clause-follows : goal.returns-clause-follows
returns-clause-follows g c = λ tells words asked.
    let job = c.args.job.now in
    let w = g.D.System.reads c.args.system.now in
    let sight = sight_by g.D.DeviceFiles.answers c.args.system.now in
    let I = told_by g.I.Source.left g.I.Source.failures in
    let O = told_by g.O.Sink.taken g.O.Sink.failures in
    let E = told_by g.E.Sink.taken g.E.Sink.failures in
    let ib = I c.args.input.now in
    let before = outs (E c.args.err.now) (O c.args.out.now) in
    let fit = no_misfit job.misfit c.in_default.not-Some in
    let im = I c.run_over.new.input in
    let middle = outs (E c.run_over.new.err) (O c.run_over.new.out) in
    let m = c.in_ok-made.made in
    let b = basis_in m in
    let is_made = c.in_ok-made.ensures.made tells in
    let goes = subst (λ root. ReachesValue basis_in w (basis_now root (besides_for job.task)) (Ok m)) c.root_of-root.ensures (c.in_ok-made.ensures.told tells) in
    let now = outs (E c.run_over.new.err) (O c.say.new.err) in
    let n = c.in_ok-status.status in
    let follows = subst (λ d. length d ≤ max_file → ShowsPlan (plan_over (root_of job) d words) w sight ib im before middle (Ok n)) c.deref.ensures.value (λ within. c.in_ok-status.ensures.follows tells within words asked) in
    let took = subst (λ (t : List ℕ). HasTaken t (O c.run_over.new.out) (O c.say.new.err)) c.deref-2.ensures.value c.in_ok-say.ensures.took in
    let said : WasSaid b.besides middle now (Ok n) (Ok n) = record {
      quiet = λ none. (ap (λ o. outs (E c.run_over.new.err) (O o)) (c.in_ok-say.ensures.quiet (c.deref-2.ensures.value ∙ none)), refl);
      err = refl;
      said = (refl, took);
    } in
    text_planned w sight ib im before words job asked c.requires b goes middle now (Ok n) (Ok n) said c.over_is_no_more.ensures fit is_made.0 is_made.1 is_made.3 (follows is_made.2.within)
