use Rattle.std.proofs.Common.{◌∙◌, map, string_bytes, subst, sym, Global, List, Ok, Result, String, Vec, ℕ}
use Rattle.hwdb_spec_commands.specs.RulePaths.{rules_folder}
use Rattle.hwdb_spec_commands.specs.Told.{IsListedTo, rules_told}
use Rattle.hwdb_spec_commands.specs.declared.unread.Unread.{Unread}
use Rattle.hwdb_system.proofs.OwnRulesLemmas.{rules_untold}
use Rattle.hwdb_system.proofs.rule_folders.rules_in.Goals as goal

pub returns-in_err-names : goal.returns-in_err-names
returns-in_err-names g c = λ tells.
    let folder = rules_folder c.args.root.now c.args.folder in
    rules_untold (λ (v : Vec (String Global) Global). map string_bytes v.items) ((g.D.System.reads c.args.system.now).ignored folder) folder c.in_err-names.field-0.0 c.from_residual.result
    (c.in_err-names.ensures.told tells) c.from_residual.ensures.1

pub returns : goal.returns
returns g c = λ tells.
    let folder = rules_folder c.args.root.now c.args.folder in
    let value = λ (v : Vec (String Global) Global). map string_bytes v.items in
    let result = c.rules_among.result in
    subst (λ (told : Result (List (List ℕ)) Unread). IsListedTo value (rules_told told) folder result) (sym (c.in_ok-names.ensures.told tells))
    (subst (λ (l : List (Vec ℕ Global)). IsListedTo value (rules_told (Ok (map (λ n. n.items) l))) folder result) c.deref.ensures.value
    (subst (λ (path : List ℕ). IsListedTo value (rules_told (Ok (map (λ n. n.items) c.deref.result.now))) path result) (c.as_str.ensures.value ∙ c.in_ok-path.ensures) c.rules_among.ensures))
