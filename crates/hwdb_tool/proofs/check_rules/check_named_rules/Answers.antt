use Rattle.std.proofs.Common.{◌≡◌, ◌∙◌, ap, map, string_bytes, subst, sym, Err, Global, List, Option, String, ℕ}
use Rattle.std.specs.Prelude.{option_map}
use Rattle.hwdb_spec_commands.specs.Checks.{names_other, other_named, rules_name}
use Rattle.hwdb_spec_commands.specs.declared.formats.Format.{Format}
use Rattle.hwdb_spec_commands.specs.declared.unread.Unread.TheVariants as unread
use Rattle.hwdb_plan.specs.Check.{checked_plan, said_of}
use Rattle.hwdb_plan.specs.Files.{OfInput}
use Rattle.hwdb_plan.specs.Plans.{Follows, Plan}
use Rattle.hwdb_tool.specs.CheckAsked.{named_as, say_of}
use Rattle.hwdb_tool.specs.Views.{end_of}
use Rattle.hwdb_tool.proofs.CheckPlanLemmas.{fit_goes_on, misfit_said}
use Rattle.hwdb_tool.proofs.check_rules.check_named_rules.Goals as goal

pub returns-then-names_other-clause-follows : goal.returns-then-names_other-clause-follows
returns-then-names_other-clause-follows g c = λ tells.
    let args = c.args.args.now in
    let name = option_map string_bytes args.name in
    let files = map string_bytes args.files.items in
    let p : Plan = checked_plan (Err unread.Memory) files c.args.root.now (named_as args) (option_map string_bytes args.baseline) (say_of args c.args.strict (named_as args)) in
    let is = ap (λ n. names_other n files) (sym c.text_of-name.ensures) ∙ ap (λ l. names_other (option_map (λ t. t.now) c.text_of-name.result) (map string_bytes l)) (sym c.deref.ensures.value) ∙ sym c.names_other.ensures ∙ c.if-names_other.true in (
      Err unread.Memory,
      tt,
      misfit_said (g.D.System.reads c.args.system.now) (names_other name files) other_named p c.other_named.result is c.other_named.ensures,
    )

pub returns-clause-follows : goal.returns-clause-follows
returns-clause-follows g c = λ tells.
    let w = g.D.System.reads c.args.system.now in
    let args = c.args.args.now in
    let root = c.args.root.now in
    let strict = c.args.strict in
    let before = g.I.Source.failures c.args.input.now in
    let now = g.I.Source.failures c.check_as_asked.new.input in
    let left = g.I.Source.left c.args.input.now in
    let result = c.check_as_asked.result in
    let name = option_map string_bytes args.name in
    let files = map string_bytes args.files.items in
    let is = ap (λ n. names_other n files) (sym c.text_of-name.ensures) ∙ ap (λ l. names_other (option_map (λ t. t.now) c.text_of-name.result) (map string_bytes l)) (sym c.deref.ensures.value) ∙ sym c.names_other.ensures ∙ c.if-names_other.false in
    let own : option_map (λ t. t.now) c.rules_name-own.result ≡ named_as args =
    c.rules_name-own.ensures ∙ ap (λ l. rules_name (option_map (λ t. t.now) c.text_of-name.result) (map string_bytes l)) c.deref-2.ensures.value ∙ ap (λ n. rules_name n files) c.text_of-name.ensures in
    let Of = λ (fs : List (String Global)) (n known : Option (List ℕ)) (form : Format) (kinds : List (String Global)).
    OfInput left before now (λ told. Follows end_of w (checked_plan told (map string_bytes fs) root n known (said_of form strict (map string_bytes kinds) n)) result) in
    let n2 = option_map (λ t. t.now) c.rules_name-own.result in
    let known2 = option_map (λ t. t.now) c.text_of-known.result in
    let told = subst (λ (fs : List (String Global)). Of fs (named_as args) (option_map string_bytes args.baseline) (c.format_asked-form.result) args.allowed.items) c.deref-3.ensures.value
    (subst (λ (n : Option (List ℕ)). Of c.deref-3.result.now n (option_map string_bytes args.baseline) c.format_asked-form.result args.allowed.items) own
    (subst (λ (k : Option (List ℕ)). Of c.deref-3.result.now n2 k c.format_asked-form.result args.allowed.items) c.text_of-known.ensures
    (subst (λ (ks : List (String Global)). Of c.deref-3.result.now n2 known2 c.format_asked-form.result ks) c.deref-4.ensures.value (c.check_as_asked.ensures.follows tells)))) in
    let asked = subst (λ (f : Format). Of args.files.items (named_as args) (option_map string_bytes args.baseline) f args.allowed.items) c.format_asked-form.ensures told in (
      asked.0,
      asked.1,
      fit_goes_on w (names_other name files) other_named (checked_plan asked.0 files root (named_as args) (option_map string_bytes args.baseline) (say_of args strict (named_as args))) result is asked.2,
    )
