use Rattle.std.proofs.Common.{[], map}
use Rattle.hwdb_samples.specs.Views.{rule_texts}
use Rattle.hwdb_samples.proofs.LevelLemmas.{level_made}
use Rattle.hwdb_samples.proofs.levels.first_level.Goals as goal

pub returns : goal.returns
returns c = level_made (map rule_texts c.args.old.now) (map rule_texts c.args.new.now) c.in_ok-level.level [] c.in_ok-level.ensures.front c.in_ok-level.ensures.old c.in_ok-level.ensures.new
