use Rattle.std.proofs.Common.{◌∙◌, ap, map, sym, Some}
use Rattle.hwdb_spec.specs.Folders.{same}
use Rattle.hwdb_spec_commands.specs.Sysfs.{value_of}
use Rattle.hwdb_sysfs.specs.Views.{attribute_of}
use Rattle.hwdb_rules.proofs.AncestorLemmas.{no_value, value_here, value_later}
use Rattle.hwdb_rules.proofs.ancestors.value_of.Goals as goal

pub returns-then-same : goal.returns-then-same
returns-then-same c =
    let name = c.args.name.now in
    ap Some c.deref-then-same.ensures.value
    ∙ sym (value_here name (attribute_of c.in-Some.attribute.now) (map attribute_of c.in-Some.more.now)
    (ap (λ n. same n name) (sym c.deref.ensures.value) ∙ sym c.same.ensures ∙ c.if-same.true))
    ∙ ap (λ l. value_of name (map attribute_of l)) (sym c.in-Some.ensures.cases.0)
    ∙ c.looking.invariant

pub looking-preserved : goal.looking-preserved
looking-preserved c =
    let name = c.args.name.now in
    sym (value_later name (attribute_of c.in-Some.attribute.now) (map attribute_of c.in-Some.more.now)
    (ap (λ n. same n name) (sym c.deref.ensures.value) ∙ sym c.same.ensures ∙ c.if-same.false))
    ∙ ap (λ l. value_of name (map attribute_of l)) (sym c.in-Some.ensures.cases.0)
    ∙ c.looking.invariant

pub returns : goal.returns
returns c = sym (no_value c.args.name.now attribute_of c.looking.left.now c.in_default.ensures.cases) ∙ c.looking.invariant
