use Rattle.std.proofs.Common.{◌∙◌, ap, map, string_bytes, subst, Err, Global, List, Ok, String, Vec, ℕ}
use Rattle.hwdb_rulefiles.specs.ChoiceViews.{chosen_of}
use Rattle.hwdb_rulefiles.specs.RuleFolders.{Chosen, choice}
use Rattle.hwdb_rulefiles.specs.declared.choice.ChosenRules.{ChosenRules}
use Rattle.hwdb_rulefiles.specs.declared.choice.Folder.TheVariants.{Etc, Local, Run, Usr}
use Rattle.hwdb_plan.specs.Lemmas.Folders.{value_stops, value_then}
use Rattle.hwdb_plan.specs.Lemmas.OwnRules.{rules_asked}
use Rattle.hwdb_plan.specs.OwnRules.{rules_in}
use Rattle.hwdb_plan.specs.Plans.{Ends, Plan}
use Rattle.hwdb_system.proofs.rule_folders.chosen_rules.Goals as goal

-- what follows the names of each folder but the last
abbrev after_local : (root : List ℕ) (etc run local : List (List ℕ)) → (List Chosen → Plan) → Plan
after_local root etc run local next = rules_in root Usr (λ usr. next (choice etc run local usr))

abbrev after_run : (root : List ℕ) (etc run : List (List ℕ)) → (List Chosen → Plan) → Plan
after_run root etc run next = rules_in root Local (λ local. after_local root etc run local next)

abbrev after_etc : (root : List ℕ) (etc : List (List ℕ)) → (List Chosen → Plan) → Plan
after_etc root etc next = rules_in root Run (λ run. after_run root etc run next)

pub returns-in_err-etc_names : goal.returns-in_err-etc_names
returns-in_err-etc_names g c = λ tells.
    let w = g.D.System.reads c.args.system.now in
    let root = c.args.root.now in
    let names = λ (v : Vec (String Global) Global). map string_bytes v.items in
    let of = λ (v : Vec ChosenRules Global). map chosen_of v.items in
    value_stops w names of (rules_in root Etc) (λ etc next. after_etc root etc next) c.in_err-etc_names.field-0.0 c.from_residual.result
    (rules_asked w names root Etc (Err c.in_err-etc_names.field-0.0) (c.in_err-etc_names.ensures tells)) c.from_residual.ensures.1

pub returns-in_err-run_names : goal.returns-in_err-run_names
returns-in_err-run_names g c = λ tells.
    let w = g.D.System.reads c.args.system.now in
    let root = c.args.root.now in
    let names = λ (v : Vec (String Global) Global). map string_bytes v.items in
    let of = λ (v : Vec ChosenRules Global). map chosen_of v.items in
    value_then w names of (rules_in root Etc) (λ etc next. after_etc root etc next) c.in_ok-etc_names.etc_names c.from_residual-in_err-run_names.result
    (rules_asked w names root Etc (Ok c.in_ok-etc_names.etc_names) (c.in_ok-etc_names.ensures tells))
    (value_stops w names of (rules_in root Run) (λ run next. after_run root (names c.in_ok-etc_names.etc_names) run next) c.in_err-run_names.field-0.0 c.from_residual-in_err-run_names.result
    (rules_asked w names root Run (Err c.in_err-run_names.field-0.0) (c.in_err-run_names.ensures tells)) c.from_residual-in_err-run_names.ensures.1)

pub returns-in_err-local_names : goal.returns-in_err-local_names
returns-in_err-local_names g c = λ tells.
    let w = g.D.System.reads c.args.system.now in
    let root = c.args.root.now in
    let names = λ (v : Vec (String Global) Global). map string_bytes v.items in
    let of = λ (v : Vec ChosenRules Global). map chosen_of v.items in
    value_then w names of (rules_in root Etc) (λ etc next. after_etc root etc next) c.in_ok-etc_names.etc_names c.from_residual-in_err-local_names.result
    (rules_asked w names root Etc (Ok c.in_ok-etc_names.etc_names) (c.in_ok-etc_names.ensures tells))
    (value_then w names of (rules_in root Run) (λ run next. after_run root (names c.in_ok-etc_names.etc_names) run next) c.in_ok-run_names.run_names c.from_residual-in_err-local_names.result
    (rules_asked w names root Run (Ok c.in_ok-run_names.run_names) (c.in_ok-run_names.ensures tells))
    (value_stops w names of (rules_in root Local) (λ local next. after_local root (names c.in_ok-etc_names.etc_names) (names c.in_ok-run_names.run_names) local next) c.in_err-local_names.field-0.0 c.from_residual-in_err-local_names.result
    (rules_asked w names root Local (Err c.in_err-local_names.field-0.0) (c.in_err-local_names.ensures tells)) c.from_residual-in_err-local_names.ensures.1))

pub returns-in_err-usr_names : goal.returns-in_err-usr_names
returns-in_err-usr_names g c = λ tells.
    let w = g.D.System.reads c.args.system.now in
    let root = c.args.root.now in
    let names = λ (v : Vec (String Global) Global). map string_bytes v.items in
    let of = λ (v : Vec ChosenRules Global). map chosen_of v.items in
    value_then w names of (rules_in root Etc) (λ etc next. after_etc root etc next) c.in_ok-etc_names.etc_names c.from_residual-in_err-usr_names.result
    (rules_asked w names root Etc (Ok c.in_ok-etc_names.etc_names) (c.in_ok-etc_names.ensures tells))
    (value_then w names of (rules_in root Run) (λ run next. after_run root (names c.in_ok-etc_names.etc_names) run next) c.in_ok-run_names.run_names c.from_residual-in_err-usr_names.result
    (rules_asked w names root Run (Ok c.in_ok-run_names.run_names) (c.in_ok-run_names.ensures tells))
    (value_then w names of (rules_in root Local) (λ local next. after_local root (names c.in_ok-etc_names.etc_names) (names c.in_ok-run_names.run_names) local next) c.in_ok-local_names.local_names c.from_residual-in_err-usr_names.result
    (rules_asked w names root Local (Ok c.in_ok-local_names.local_names) (c.in_ok-local_names.ensures tells))
    (value_stops w names of (rules_in root Usr) (λ usr next. next (choice (names c.in_ok-etc_names.etc_names) (names c.in_ok-run_names.run_names) (names c.in_ok-local_names.local_names) usr)) c.in_err-usr_names.field-0.0 c.from_residual-in_err-usr_names.result
    (rules_asked w names root Usr (Err c.in_err-usr_names.field-0.0) (c.in_err-usr_names.ensures tells)) c.from_residual-in_err-usr_names.ensures.1)))

pub returns : goal.returns
returns g c = λ tells.
    let w = g.D.System.reads c.args.system.now in
    let root = c.args.root.now in
    let names = λ (v : Vec (String Global) Global). map string_bytes v.items in
    let of = λ (v : Vec ChosenRules Global). map chosen_of v.items in
    value_then w names of (rules_in root Etc) (λ etc next. after_etc root etc next) c.in_ok-etc_names.etc_names (Ok c.in_ok-chosen.chosen)
    (rules_asked w names root Etc (Ok c.in_ok-etc_names.etc_names) (c.in_ok-etc_names.ensures tells))
    (value_then w names of (rules_in root Run) (λ run next. after_run root (names c.in_ok-etc_names.etc_names) run next) c.in_ok-run_names.run_names (Ok c.in_ok-chosen.chosen)
    (rules_asked w names root Run (Ok c.in_ok-run_names.run_names) (c.in_ok-run_names.ensures tells))
    (value_then w names of (rules_in root Local) (λ local next. after_local root (names c.in_ok-etc_names.etc_names) (names c.in_ok-run_names.run_names) local next) c.in_ok-local_names.local_names (Ok c.in_ok-chosen.chosen)
    (rules_asked w names root Local (Ok c.in_ok-local_names.local_names) (c.in_ok-local_names.ensures tells))
    (value_then w names of (rules_in root Usr) (λ usr next. next (choice (names c.in_ok-etc_names.etc_names) (names c.in_ok-run_names.run_names) (names c.in_ok-local_names.local_names) usr)) c.in_ok-usr_names.usr_names (Ok c.in_ok-chosen.chosen)
    (rules_asked w names root Usr (Ok c.in_ok-usr_names.usr_names) (c.in_ok-usr_names.ensures tells))
    (λ next e ends. subst (λ (l : List Chosen). Ends w (next l) e)
    (c.in_ok-chosen.ensures
    ∙ ap (λ l. choice (map string_bytes l) (map string_bytes c.deref-2.result.now) (map string_bytes c.deref-3.result.now) (map string_bytes c.deref-4.result.now)) c.deref.ensures.value
    ∙ ap (λ l. choice (names c.in_ok-etc_names.etc_names) (map string_bytes l) (map string_bytes c.deref-3.result.now) (map string_bytes c.deref-4.result.now)) c.deref-2.ensures.value
    ∙ ap (λ l. choice (names c.in_ok-etc_names.etc_names) (names c.in_ok-run_names.run_names) (map string_bytes l) (map string_bytes c.deref-4.result.now)) c.deref-3.ensures.value
    ∙ ap (λ l. choice (names c.in_ok-etc_names.etc_names) (names c.in_ok-run_names.run_names) (names c.in_ok-local_names.local_names) (map string_bytes l)) c.deref-4.ensures.value)
    ends))))
