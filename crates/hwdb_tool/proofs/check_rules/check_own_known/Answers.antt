use Rattle.std.proofs.Common.{map, string_bytes, subst, Global, List, Option, String, Vec, ℕ}
use Rattle.std.specs.Prelude.{option_map}
use Rattle.hwdb_spec_commands.specs.declared.formats.Format.{Format}
use Rattle.hwdb_plan.specs.Baseline.{over_baseline}
use Rattle.hwdb_plan.specs.Lemmas.Folders.{value_ends, value_ends_in}
use Rattle.hwdb_plan.specs.OwnRules.{own_rules}
use Rattle.hwdb_plan.specs.Plans.{Follows, Plan}
use Rattle.hwdb_plan.specs.Plans.Plan.{Done}
use Rattle.hwdb_plan.specs.Check.{said_of}
use Rattle.hwdb_tool.specs.CheckAsked.{say_of}
use Rattle.hwdb_tool.specs.Views.{end_of}
use Rattle.hwdb_tool.proofs.check_rules.check_own_known.Goals as goal

abbrev marks_of : Vec (Vec ℕ Global) Global → List (List ℕ)
marks_of v = map (λ t. t.items) v.items

pub returns-in_err-known : goal.returns-in_err-known
returns-in_err-known g c = λ tells.
    let w = g.D.System.reads c.args.system.now in
    let args = c.args.args.now in
    let result = c.from_residual.result in
    let next : List (List ℕ) → Plan = λ known. own_rules c.args.root.now (λ sources. Done (say_of args c.args.strict (option_map string_bytes args.name) known sources)) in
    subst (λ (b : Option (List ℕ)). Follows end_of w (over_baseline b next) result) c.text_of.ensures
    (value_ends_in w marks_of end_of (over_baseline (option_map (λ t. t.now) c.text_of.result)) next c.in_err-known.field-0.0 result (c.in_err-known.ensures tells) c.from_residual.ensures.1)

pub returns : goal.returns
returns g c = λ tells.
    let w = g.D.System.reads c.args.system.now in
    let args = c.args.args.now in
    let root = c.args.root.now in
    let strict = c.args.strict in
    let result = c.check_own.result in
    let known = c.in_ok-known.known in
    let own = λ (form : Format) (kinds : List (String Global)) (name : Option (List ℕ)) (marks : List (Vec ℕ Global)).
    Follows end_of w (own_rules root (λ sources. Done (said_of form strict (map string_bytes kinds) name (map (λ t. t.items) marks) sources))) result in
    let next : List (List ℕ) → Plan = λ known. own_rules root (λ sources. Done (say_of args strict (option_map string_bytes args.name) known sources)) in
    subst (λ (b : Option (List ℕ)). Follows end_of w (over_baseline b next) result) c.text_of.ensures
    (value_ends w marks_of end_of (over_baseline (option_map (λ t. t.now) c.text_of.result)) next known result (c.in_ok-known.ensures tells)
    (subst (λ (f : Format). own f args.allowed.items (option_map string_bytes args.name) known.items) c.format_asked.ensures
    (subst (λ (ks : List (String Global)). own c.format_asked.result ks (option_map string_bytes args.name) known.items) c.deref.ensures.value
    (subst (λ (n : Option (List ℕ)). own c.format_asked.result c.deref.result.now n known.items) c.text_of-2.ensures
    (subst (λ (ms : List (Vec ℕ Global)). own c.format_asked.result c.deref.result.now (option_map (λ t. t.now) c.text_of-2.result) ms) c.deref-2.ensures.value
    (c.check_own.ensures tells))))))
