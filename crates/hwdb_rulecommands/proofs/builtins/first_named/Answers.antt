use Rattle.std.proofs.Common.{refl, ◌∙◌, sym, ap, nat_eq}
use Rattle.std.specs.List.{starts_with}
use Rattle.hwdb_rulecommands.specs.Builtins.{builtins}
use Rattle.hwdb_rulecommands.specs.declared.builtins.Builtin.TheVariants.{Blkid}
use Rattle.hwdb_rulecommands.proofs.NameLemmas.{find_next}
use Rattle.hwdb_rulecommands.proofs.builtins.first_named.Goals as goal

pub loop-builtin-init : goal.loop-builtin-init
unfolding builtins
loop-builtin-init c = refl

pub loop-builtin-preserved : goal.loop-builtin-preserved
loop-builtin-preserved c =
    find_next c.args.word.now _ c.loop-builtin.builtin-index Blkid c.loop-builtin-test.true
    (ap (λ name. starts_with nat_eq name c.args.word.now) (sym c.name_of.ensures) ∙ sym c.starts_with.ensures.value ∙ c.if-starts_with.false)
    ∙ c.loop-builtin.invariant
