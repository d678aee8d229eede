use Rattle.std.proofs.Common.{arith, length, map, subst, sym, ◌-◌}
use Rattle.hwdb_samples.specs.Levels.{IsLevel}
use Rattle.hwdb_samples.specs.Views.{rule_texts}
use Rattle.hwdb_samples.specs.declared.levels.Level.{Level}
use Rattle.hwdb_samples.proofs.LevelLemmas.{level_after_last, level_at}
use Rattle.hwdb_samples.proofs.TextLemmas.{some_there}
use Rattle.hwdb_samples.proofs.levels.next_level.Goals as goal

pub returns : goal.returns
returns c =
    let old = map rule_texts c.args.old.now in
    let new = map rule_texts c.args.new.now in
    let some = some_there c.args.levels.now c.if-is_empty.ensures in
    level_after_last old new c.index-levels-levels.result c.in_ok-next.next c.in_ok-next.ensures
    (subst (λ (l : Level). IsLevel old new l) (sym c.index-levels-levels.is) (level_at old new c.args.levels.now (length c.args.levels.now - 1) _ (omega (arith, some)) c.requires))
