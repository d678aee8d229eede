use Rattle.std.proofs.Common.{◌≡◌, ◌∙◌, ◌==◌, ap, arith, length, option_map, string_bytes, sym, vec_len, ℕ}
use Rattle.hwdb_tool.specs.CheckAsked.{say_of}
use Rattle.hwdb_tool.proofs.CheckPlanLemmas.{rules_none, rules_some}
use Rattle.hwdb_tool.proofs.check_rules.check_rules.Goals as goal

pub returns-then-is_empty-clause-follows : goal.returns-then-is_empty-clause-follows
returns-then-is_empty-clause-follows g c = λ tells.
    let args = c.args.args.now in
    let many : length args.files.items ≡ vec_len args.files = let ok = args.files.ok in omega (arith, ok) in
    let failures = g.I.Source.failures c.args.input.now in
    rules_none (g.D.System.reads c.args.system.now) c.args.root.now (option_map string_bytes args.name) (option_map string_bytes args.baseline) (say_of args c.args.strict) (g.I.Source.left c.args.input.now)
    failures failures c.check_own_asked.result args.files.items (ap (λ (n : ℕ). n == 0) many ∙ sym c.is_empty.ensures ∙ c.if-is_empty.true) (c.check_own_asked.ensures tells)

pub returns-else-is_empty-clause-follows : goal.returns-else-is_empty-clause-follows
returns-else-is_empty-clause-follows g c = λ tells.
    let args = c.args.args.now in
    let many : length args.files.items ≡ vec_len args.files = let ok = args.files.ok in omega (arith, ok) in
    let before = g.I.Source.failures c.args.input.now in
    let now = g.I.Source.failures c.check_named_rules.new.input in
    rules_some (g.D.System.reads c.args.system.now) c.args.root.now (option_map string_bytes args.name) (option_map string_bytes args.baseline) (say_of args c.args.strict) (g.I.Source.left c.args.input.now)
    before now c.check_named_rules.result args.files.items (ap (λ (n : ℕ). n == 0) many ∙ sym c.is_empty.ensures ∙ c.if-is_empty.false) (c.check_named_rules.ensures.follows tells)
