use Rattle.std.proofs.Common.{◌∙◌, map, string_bytes, subst, sym, Err, Global, List, Result, Vec, ℕ}
use Rattle.std.specs.Prelude.{option_map}
use Rattle.hwdb_spec_commands.specs.declared.unread.Unread.{Unread}
use Rattle.hwdb_spec_commands.specs.declared.unread.Unread.TheVariants as unread
use Rattle.hwdb_plan.specs.Check.{check_plan, said_of}
use Rattle.hwdb_plan.specs.Baseline.{over_baseline}
use Rattle.hwdb_plan.specs.Files.{OfInput}
use Rattle.hwdb_plan.specs.Lemmas.Folders.{value_ends, value_ends_in}
use Rattle.hwdb_plan.specs.Plans.{Follows}
use Rattle.hwdb_tool.specs.Views.{end_of}
use Rattle.hwdb_tool.proofs.CheckPlanLemmas.{named_in_vain, named_well}
use Rattle.hwdb_tool.proofs.check_command.check_as_asked.Goals as goal

abbrev marks_of : Vec (Vec ℕ Global) Global → List (List ℕ)
marks_of v = map (λ t. t.items) v.items

pub returns-then-names_nothing-clause-follows : goal.returns-then-names_nothing-clause-follows
returns-then-names_nothing-clause-follows g c = λ tells.
    let given = map string_bytes c.args.given.now in
    let name = option_map (λ t. t.now) c.args.name in
    let baseline = option_map (λ t. t.now) c.args.baseline in
    let say = said_of c.args.format c.args.strict (map string_bytes c.args.allowed.now) name in (
      Err unread.Memory,
      tt,
      named_in_vain (g.D.System.reads c.args.system.now) name given (over_baseline baseline (λ known. check_plan (Err unread.Memory) given c.args.root.now (say known))) c.nothing_named.result
          (sym c.names_nothing.ensures ∙ c.if-names_nothing.true) c.nothing_named.ensures,
    )

pub returns-in_err-known-clause-follows : goal.returns-in_err-known-clause-follows
returns-in_err-known-clause-follows g c = λ tells.
    let w = g.D.System.reads c.args.system.now in
    let given = map string_bytes c.args.given.now in
    let name = option_map (λ t. t.now) c.args.name in
    let baseline = option_map (λ t. t.now) c.args.baseline in
    let say = said_of c.args.format c.args.strict (map string_bytes c.args.allowed.now) name in
    let next = λ (known : List (List ℕ)). check_plan (Err unread.Memory) given c.args.root.now (say known) in (
      Err unread.Memory,
      tt,
      named_well w name given (over_baseline baseline next) c.from_residual.result (sym c.names_nothing.ensures ∙ c.if-names_nothing.false)
          (value_ends_in w marks_of end_of (over_baseline baseline) next c.in_err-known.field-0.0 c.from_residual.result (c.in_err-known.ensures tells) c.from_residual.ensures.1),
    )

pub returns-clause-follows : goal.returns-clause-follows
returns-clause-follows g c = λ tells.
    let w = g.D.System.reads c.args.system.now in
    let given = map string_bytes c.args.given.now in
    let name = option_map (λ t. t.now) c.args.name in
    let baseline = option_map (λ t. t.now) c.args.baseline in
    let say = said_of c.args.format c.args.strict (map string_bytes c.args.allowed.now) name in
    let next = λ (told : Result (List ℕ) Unread) (known : List (List ℕ)). check_plan told given c.args.root.now (say known) in
    let told = subst (λ (l : List (Vec ℕ Global)). OfInput (g.I.Source.left c.args.input.now) (g.I.Source.failures c.args.input.now) (g.I.Source.failures c.check.new.input)
    (λ told. Follows end_of w (next told (map (λ t. t.items) l)) c.check.result)) c.deref.ensures.value (c.check.ensures.follows tells) in (
      told.0,
      told.1,
      named_well w name given (over_baseline baseline (next told.0)) c.check.result (sym c.names_nothing.ensures ∙ c.if-names_nothing.false)
          (value_ends w marks_of end_of (over_baseline baseline) (next told.0) c.in_ok-known.known c.check.result (c.in_ok-known.ensures tells) told.2),
    )
