use Rattle.std.proofs.Common.{◌≡◌, ◌∙◌, ◌++◌, ap, map, string_bytes, subst, Err, Global, List, Ok, String, Vec, [], ℕ}
use Rattle.hwdb_rulefiles.specs.ChoiceViews.{chosen_of}
use Rattle.hwdb_rulefiles.specs.declared.choice.ChosenRules.{ChosenRules}
use Rattle.hwdb_spec_commands.specs.RulePaths.{rules_path}
use Rattle.hwdb_plan.specs.Folders.{read_texts}
use Rattle.hwdb_plan.specs.Lemmas.Folders.{value_stops, value_then}
use Rattle.hwdb_plan.specs.OwnRules.{rules_chosen, rules_read, sources_of}
use Rattle.hwdb_plan.specs.Plans.{ReachesValue}
use Rattle.hwdb_system.specs.OwnRules.{sources_in}
use Rattle.hwdb_system.specs.declared.rule_folders.RulesRead.{RulesRead}
use Rattle.hwdb_system.proofs.rule_folders.own_rules.Goals as goal

pub returns-in_err-chosen-clause-told : goal.returns-in_err-chosen-clause-told
returns-in_err-chosen-clause-told g c = λ tells.
    let w = g.D.System.reads c.args.system.now in
    let root = c.args.root.now in
    let of = λ (v : Vec ChosenRules Global). map chosen_of v.items in
    value_stops w of sources_in (rules_chosen root) (λ chosen next. rules_read root (map rules_path chosen) next) c.in_err-chosen.field-0.0 c.from_residual.result
    (c.in_err-chosen.ensures tells) c.from_residual.ensures.1

pub returns-in_err-texts-clause-told : goal.returns-in_err-texts-clause-told
returns-in_err-texts-clause-told g c = λ tells.
    let w = g.D.System.reads c.args.system.now in
    let root = c.args.root.now in
    let of = λ (v : Vec ChosenRules Global). map chosen_of v.items in
    let items = λ (v : Vec (Vec ℕ Global) Global). map (λ t. t.items) v.items in
    let own = map string_bytes c.in_ok-paths.paths.items in
    let are : own ≡ map rules_path (of c.in_ok-chosen.chosen) = c.in_ok-paths.ensures ∙ ap (λ l. map rules_path (map chosen_of l)) c.deref.ensures.value in
    let result = c.from_residual-in_err-texts.result in
    let r = c.in_err-texts.field-0.0 in
    let read = subst (λ (l : List (String Global)). ReachesValue items w (read_texts (map (λ (path : List ℕ). root ++ path) (map string_bytes l)) []) (Err r)) c.deref-2.ensures.value (c.in_err-texts.ensures.told tells) in
    value_then w of sources_in (rules_chosen root) (λ chosen next. rules_read root (map rules_path chosen) next) c.in_ok-chosen.chosen result (c.in_ok-chosen.ensures tells)
    (subst (λ (l : List (List ℕ)). ReachesValue sources_in w (rules_read root l) result) are
    (value_stops w items sources_in (read_texts (map (λ (path : List ℕ). root ++ path) own) []) (λ texts next. next (sources_of own texts)) r result read c.from_residual-in_err-texts.ensures.1))

pub returns-clause-told : goal.returns-clause-told
returns-clause-told g c = λ tells.
    let w = g.D.System.reads c.args.system.now in
    let root = c.args.root.now in
    let of = λ (v : Vec ChosenRules Global). map chosen_of v.items in
    let items = λ (v : Vec (Vec ℕ Global) Global). map (λ t. t.items) v.items in
    let own = map string_bytes c.in_ok-paths.paths.items in
    let are : own ≡ map rules_path (of c.in_ok-chosen.chosen) = c.in_ok-paths.ensures ∙ ap (λ l. map rules_path (map chosen_of l)) c.deref.ensures.value in
    let texts = c.in_ok-texts.texts in
    let both : RulesRead = record { paths = c.in_ok-paths.paths; texts = texts } in
    let read = subst (λ (l : List (String Global)). ReachesValue items w (read_texts (map (λ (path : List ℕ). root ++ path) (map string_bytes l)) []) (Ok texts)) c.deref-2.ensures.value (c.in_ok-texts.ensures.told tells) in
    value_then w of sources_in (rules_chosen root) (λ chosen next. rules_read root (map rules_path chosen) next) c.in_ok-chosen.chosen (Ok both) (c.in_ok-chosen.ensures tells)
    (subst (λ (l : List (List ℕ)). ReachesValue sources_in w (rules_read root l) (Ok both)) are
    (value_then w items sources_in (read_texts (map (λ (path : List ℕ). root ++ path) own) []) (λ texts next. next (sources_of own texts)) texts (Ok both) read (λ next e ends. ends)))
