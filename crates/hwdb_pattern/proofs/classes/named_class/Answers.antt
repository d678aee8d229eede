use Rattle.std.proofs.Common.{refl, ◌∙◌, sym, ap, nat_eq}
use Rattle.std.specs.List.{starts_with}
use Rattle.hwdb_spec.specs.Patterns.{classes}
use Rattle.hwdb_pattern.specs.Internal.Parts.{class_at}
use Rattle.hwdb_spec.specs.declared.Class.TheVariants.{Alnum}
use Rattle.hwdb_pattern.proofs.BracketLemmas.{find_next, no_class, no_class_short}
use Rattle.hwdb_pattern.proofs.classes.named_class.Goals as goal

pub loop-class-init : goal.loop-class-init
unfolding class_at classes
loop-class-init c = refl

pub loop-class-preserved : goal.loop-class-preserved
loop-class-preserved c =
    find_next c.args.text.now _ c.loop-class.class-index Alnum c.loop-class-test.true
    (ap (λ n. starts_with nat_eq c.args.text.now n) (sym c.text_of.ensures) ∙ sym c.starts_with.ensures.value ∙ c.if-starts_with.false)
    ∙ c.loop-class.invariant

pub returns-then-text-lt2-clause-class : goal.returns-then-text-lt2-clause-class
returns-then-text-lt2-clause-class c = sym (no_class_short c.args.text.now c.if-text-lt2.true)

pub returns-then-text-ne58-clause-class : goal.returns-then-text-ne58-clause-class
returns-then-text-ne58-clause-class c = sym (no_class c.args.text.now c.if-text-ne58.true)
