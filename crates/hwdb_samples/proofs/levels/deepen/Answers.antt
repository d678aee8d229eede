use Rattle.std.proofs.Common.{map}
use Rattle.hwdb_samples.specs.Views.{rule_texts}
use Rattle.hwdb_samples.proofs.levels.deepen.Goals as goal

pub loop-left-init : goal.loop-left-init
loop-left-init c = c.drop_others.ensures (map rule_texts c.args.old.now) (map rule_texts c.args.new.now) c.requires
