use Rattle.std.proofs.Common.{map, string_bytes, subst, Global, List, Option, String, ℕ}
use Rattle.std.specs.Prelude.{option_map}
use Rattle.hwdb_spec_commands.specs.declared.formats.Format.{Format}
use Rattle.hwdb_plan.specs.Check.{checked_plan, said_of}
use Rattle.hwdb_plan.specs.Files.{OfInput}
use Rattle.hwdb_plan.specs.Plans.{Follows}
use Rattle.hwdb_tool.specs.Views.{end_of}
use Rattle.hwdb_tool.proofs.check_rules.check_texts.Goals as goal

pub returns-clause-follows : goal.returns-clause-follows
returns-clause-follows g c = λ tells.
    let w = g.D.System.reads c.args.system.now in
    let args = c.args.args.now in
    let root = c.args.root.now in
    let strict = c.args.strict in
    let before = g.I.Source.failures c.args.input.now in
    let now = g.I.Source.failures c.check_as_asked.new.input in
    let left = g.I.Source.left c.args.input.now in
    let result = c.check_as_asked.result in
    let Of = λ (fs : List (String Global)) (n known : Option (List ℕ)) (form : Format) (kinds : List (String Global)).
    OfInput left before now (λ told. Follows end_of w (checked_plan told (map string_bytes fs) root n known (said_of form strict (map string_bytes kinds) n)) result) in
    let form = c.format_asked-form.result in
    let n2 = option_map (λ t. t.now) c.text_of-name.result in
    let known2 = option_map (λ t. t.now) c.text_of-known.result in
    let name = option_map string_bytes args.name in
    let known = option_map string_bytes args.baseline in
    subst (λ (f : Format). Of args.files.items name known f args.allowed.items) c.format_asked-form.ensures
    (subst (λ (fs : List (String Global)). Of fs name known form args.allowed.items) c.deref.ensures.value
    (subst (λ (n : Option (List ℕ)). Of c.deref.result.now n known form args.allowed.items) c.text_of-name.ensures
    (subst (λ (k : Option (List ℕ)). Of c.deref.result.now n2 k form args.allowed.items) c.text_of-known.ensures
    (subst (λ (ks : List (String Global)). Of c.deref.result.now n2 known2 form ks) c.deref-2.ensures.value (c.check_as_asked.ensures.follows tells)))))
