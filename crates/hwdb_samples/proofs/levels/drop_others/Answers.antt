use Rattle.std.proofs.Common.{List, subst, sym}
use Rattle.hwdb_samples.specs.Levels.{AreLevels}
use Rattle.hwdb_samples.specs.declared.levels.Level.{Level}
use Rattle.hwdb_samples.proofs.LevelLemmas.{levels_taken}
use Rattle.hwdb_samples.proofs.levels.drop_others.Goals as goal

pub loop-levels-preserved-then-not-begins_with : goal.loop-levels-preserved-then-not-begins_with
loop-levels-preserved-then-not-begins_with c = λ old new are.
    subst (λ (l : List Level). AreLevels old new l) (sym c.pop.ensures.rest) (levels_taken old new _ c.loop-levels.levels.items (c.loop-levels.invariant old new are))
