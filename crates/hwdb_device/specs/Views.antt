-- What the types of this crate mean.
use Rattle.std.specs.Prelude.{List, Option, option_map, ℕ, map}
use Rattle.std.specs.Borrow.{Bor}
use Rattle.hwdb_spec_commands.specs.DeviceTexts.{Gift}
use Rattle.hwdb_spec_commands.specs.Lookups.{Found}
use Rattle.hwdb_ruleasks.specs.declared.answers.Found.{Found as Asked}
use Rattle.hwdb_ruleasks.specs.Views.{file_of, found_of}
use Rattle.hwdb_ruleasks.specs.declared.strings.RulesFile.{RulesFile as ReadFile}
use Rattle.hwdb_spec_rules.specs.RuleStrings.{RulesFile}
use Rattle.hwdb_device.specs.declared.gifts.Gift.{Gift as Given}
use Rattle.hwdb_device.specs.declared.outcomes.Outcome.{Outcome}

-- strings that were asked
abbrev pub all_found : List Asked → List Found
all_found found = map found_of found

-- rules files, if there are any
abbrev pub files_in : Option (Bor (List ReadFile)) → Option (List RulesFile)
files_in files = option_map (λ f. map file_of f.now) files

-- a property that a string gives
abbrev pub gift_in : Given → Gift
gift_in g = record { text = g.text.now; key = g.key.now; value = g.value.now }

-- properties that strings give
abbrev pub gifts_in : List Given → List Gift
gifts_in gifts = map gift_in gifts

-- a key, and what it is given
abbrev pub outcome_in : Outcome → List ℕ × List Gift
outcome_in o = (o.key.items, gifts_in o.given.items)

-- keys, and what they are given
abbrev pub outcomes_in : List Outcome → List (List ℕ × List Gift)
outcomes_in outcomes = map outcome_in outcomes
