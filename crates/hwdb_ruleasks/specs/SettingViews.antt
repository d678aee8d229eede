-- What is known of a device when rules are tried, as the code has it, and what is told then.
use Rattle.std.specs.Prelude.{List, ℕ, codes, map}
use Rattle.hwdb_rulerun.specs.Views.{entry_view, seen_of}
use Rattle.hwdb_sysfs.specs.Views.{ancestor_of}
use Rattle.hwdb_ruleevents.specs.Effects.{Knowledge}
use Rattle.hwdb_ruleevents.specs.Parents.{Nobody}
use Rattle.hwdb_ruleevents.specs.ReasonViews.{reason_of}
use Rattle.hwdb_ruleevents.specs.TellViews.{told_of}
use Rattle.hwdb_ruleevents.specs.declared.files.Story.{Story}
use Rattle.hwdb_spec_commands.specs.Sysfs.{Ancestor}
use Rattle.hwdb_rulefiles.specs.RuleLines.{RuleLine}
use Rattle.hwdb_spec_rules.specs.DeviceCommands.{commands}
use Rattle.hwdb_spec_rules.specs.RuleSights.{first_properties, sight_of}
use Rattle.hwdb_spec_rules.specs.RuleStrings.{Account, account}
use Rattle.hwdb_ruleasks.specs.Views.{tells_of}
use Rattle.hwdb_ruleasks.specs.declared.strings.Setting.{Setting}

-- what is known at an action
abbrev pub known_in : Setting → (action : List ℕ) → Knowledge
known_in s action =
    record {
      sight = sight_of action s.own.now.path.items (seen_of s.seen) (map seen_of s.parents.now);
      parent = Nobody;
      others = map entry_view s.others.now;
      commands = commands (tells_of s.commands.now.db) (map ancestor_of s.commands.now.chain.now);
    }

-- what is told of a device at an action, by what is known of it then
abbrev pub account_in : ((action : List ℕ) → Knowledge) → (own : Ancestor) → List (List RuleLine) → (action : List ℕ) → Account
account_in known own lines action = account (known action) (first_properties action own) lines

-- of the device that is added, and of one that changes
abbrev pub added_in : Setting → List (List RuleLine) → Account
added_in s lines = account_in (known_in s) (ancestor_of s.own.now) lines (codes "add")

abbrev pub changed_in : Setting → List (List RuleLine) → Account
changed_in s lines = account_in (known_in s) (ancestor_of s.own.now) lines (codes "change")

-- what was told means
abbrev pub account_of : Story → Account
account_of s = record { told = map told_of s.told.items; reasons = map reason_of s.reasons.items }
