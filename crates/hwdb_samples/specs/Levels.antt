-- Rules of two sides that may match the devices of fronts, as the code keeps them.
use Rattle.std.specs.Prelude.{List, ◌≡◌, map}
use Rattle.std.specs.List.{AllByRecursion}
use Rattle.hwdb_spec_commands.specs.SamplesFound.{near}
use Rattle.hwdb_spec_commands.specs.SampleRules.{RuleTexts}
use Rattle.hwdb_samples.specs.Views.{rule_texts}
use Rattle.hwdb_samples.specs.declared.levels.Level.{Level}

-- a level has the rules of both sides that its front leaves
pub record IsLevel (old new : List RuleTexts) (level : Level) : Type 0 where
  pub old_ones : map rule_texts level.old.items ≡ near level.front.now old
  pub new_ones : map rule_texts level.new.items ≡ near level.front.now new

-- each of some levels does
abbrev pub AreLevels : (old new : List RuleTexts) → List Level → Type 0
AreLevels old new levels = AllByRecursion (IsLevel old new) levels
