use Rattle.std.proofs.Common.{map, option_map, string_bytes, subst, sym, Bool}
use Rattle.hwdb_plan.specs.Check.{asked_plan}
use Rattle.hwdb_plan.specs.Files.{OfInput}
use Rattle.hwdb_plan.specs.Plans.{Follows}
use Rattle.hwdb_tool.specs.CheckAsked.{say_of}
use Rattle.hwdb_tool.specs.Views.{end_of}
use Rattle.hwdb_tool.proofs.check_rules.check_words.Goals as goal

pub returns-then-args-clause-follows : goal.returns-then-args-clause-follows
returns-then-args-clause-follows g c = λ tells.
    let w = g.D.System.reads c.args.system.now in
    let args = c.args.args.now in
    let root = c.args.root.now in
    let strict = c.args.strict in
    let before = g.I.Source.failures c.args.input.now in
    let now = g.I.Source.failures c.check_rules.new.input in
    subst (λ (b : Bool). OfInput (g.I.Source.left c.args.input.now) before now (λ told. Follows end_of w
    (asked_plan told b (map string_bytes args.files.items) root (option_map string_bytes args.name) (option_map string_bytes args.baseline) (say_of args strict)) c.check_rules.result))
    (sym c.if-args.true) (c.check_rules.ensures.follows tells)

pub returns-else-args-clause-follows : goal.returns-else-args-clause-follows
returns-else-args-clause-follows g c = λ tells.
    let w = g.D.System.reads c.args.system.now in
    let args = c.args.args.now in
    let root = c.args.root.now in
    let strict = c.args.strict in
    let before = g.I.Source.failures c.args.input.now in
    let now = g.I.Source.failures c.check_texts.new.input in
    subst (λ (b : Bool). OfInput (g.I.Source.left c.args.input.now) before now (λ told. Follows end_of w
    (asked_plan told b (map string_bytes args.files.items) root (option_map string_bytes args.name) (option_map string_bytes args.baseline) (say_of args strict)) c.check_texts.result))
    (sym c.if-args.false) (c.check_texts.ensures.follows tells)
