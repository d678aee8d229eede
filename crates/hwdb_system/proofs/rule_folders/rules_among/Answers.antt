use Rattle.std.proofs.Common.{◌∙◌, ◌≡◌, ◌⊎◌, ◌++◌, add-one, ap, map, string_bytes, subst, List, Some, Err, ℕ}
use Rattle.std.specs.Prelude.{IfSome, IsUtf8, filter_map, option_to_list}
use Rattle.std.proofs.lemmas.List.{take_all}
use Rattle.hwdb_spec.specs.declared.errors.ToolError.TheVariants as error
use Rattle.hwdb_spec_commands.specs.Told.{IsListedTo, names_told}
use Rattle.hwdb_spec_commands.specs.declared.refusals.Refusal.TheVariants as refusal
use Rattle.hwdb_system.specs.OwnRules.{rules_name}
use Rattle.hwdb_system.specs.Raw.{IsMisnamedAt}
use Rattle.hwdb_system.proofs.MemoryLemmas.{all_listed, good_more, names_more, step_stops, stops_listing}
use Rattle.hwdb_system.proofs.OwnRulesLemmas.{kept_count, rules_held}
use Rattle.hwdb_system.proofs.rule_folders.rules_among.Goals as goal

pub loop-name-preserved : goal.loop-name-preserved
loop-name-preserved c =
    let old = map string_bytes c.loop-name.found.items in
    let new = map string_bytes c.push_rules.new.found.items in
    let here = c.deref.ensures.value in
    let pushed = subst (λ (n : List ℕ). new ≡ old ++ option_to_list (rules_name n)) here c.in_ok-push_rules.ensures.pushed in
    record {
      told = rw add-one (names_more rules_held c.args.names.now c.loop-name.name-index c.name-item.result old new c.loop-name-test.true c.name-item.is c.loop-name.invariant.told pushed);
      utf8 = good_more (rules_held c.name-item.result) old new c.loop-name.invariant.utf8 (subst (λ (n : List ℕ). IfSome (rules_name n) IsUtf8) here c.in_ok-push_rules.ensures.utf8) pushed;
    }

pub returns-in_err-push_rules : goal.returns-in_err-push_rules
returns-in_err-push_rules c =
    let names = c.args.names.now in
    let folder = c.args.folder.now in
    let r = c.in_err-push_rules.field-0.0 in
    let why = subst (λ (n : List ℕ). (r ≡ refusal.Plain error.Memory) ⊎ ((other : List ℕ) × (rules_name n ≡ Some other) × IsMisnamedAt folder other r)) c.deref.ensures.value c.in_err-push_rules.ensures.misnamed in
    stops_listing _ (names_told _) folder r c.from_residual.result c.from_residual.ensures.1
    (subst (λ (l : List (List ℕ)). IsListedTo (λ (v : List (List ℕ)). v) (names_told l) folder (Err r)) (kept_count names)
    (step_stops rules_held folder names c.loop-name.name-index c.name-item.result (map string_bytes c.loop-name.found.items) r c.loop-name-test.true c.name-item.is
    c.loop-name.invariant.told c.loop-name.invariant.utf8 why))

pub returns : goal.returns
returns c =
    let names = c.args.names.now in
    all_listed (map string_bytes c.loop-name.found.items) _
    (c.loop-name.invariant.told ∙ ap (filter_map rules_held) (take_all c.loop-name.name-index names c.loop-name-test.false) ∙ kept_count names) c.loop-name.invariant.utf8
