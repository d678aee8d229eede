-- What devices get of all keys, and which of the assignments are the rules of one key. A device gets, for each key, the value of the
-- last assignment among those whose pattern matches (hwdb(7)). That keys are looked at one by one is our choice.
use Rattle.std.specs.Prelude.{List, ℕ, Option, None, map, filter, ◌≡◌}
use Rattle.std.specs.Map.{lookup}
use Rattle.std.specs.BTreeMap.{is_at}
use Rattle.hwdb_spec.specs.Assignment.{Assignment, assignment_cmp, in_order, text_cmp}
use Rattle.hwdb_spec.specs.Answers.{effective_of, has_key, last_assignments, last_of_each}
use Rattle.hwdb_spec_commands.specs.SampleDevices.{assigned_texts, keyed_texts}
use Rattle.hwdb_spec_commands.specs.SamplesFound.{KeyedRule}
use Rattle.hwdb_spec_commands.specs.SampleRules.{IsSame, RuleTexts, given}

-- what some assignments give a device: keys and their values
abbrev pub properties : List ℕ → List Assignment → List (List ℕ × List ℕ)
properties device all = effective_of (last_assignments device None all)

-- the value of a key, if there is one
abbrev pub value_at : List ℕ → List (List ℕ × List ℕ) → Option (List ℕ)
value_at key list = lookup (is_at (text_cmp key)) list

-- the last assignment of each pattern and key, in the order in which they count: by priority, line, pattern and key
abbrev pub in_turn : List Assignment → List Assignment
in_turn all = in_order assignment_cmp (last_of_each all)

-- rules are those of a key, in the order in which they count
abbrev pub AreRules : List ℕ → List Assignment → List RuleTexts → Type 0
AreRules key all rules = rules ≡ map assigned_texts (filter (has_key key) (in_turn all))

-- What a device gets of a key is what the rules of the key give it.
abbrev pub RulesGiveValues : Type 0
RulesGiveValues =
    (key : List ℕ) (all : List Assignment) (rules : List RuleTexts) → AreRules key all rules
    → (device : List ℕ) → value_at key (properties device all) ≡ given device rules

-- If the rules of each key give a device the same, it gets the same keys and values.
abbrev pub SameRulesGiveAll : Type 0
SameRulesGiveAll =
    (device : List ℕ) (old new : List Assignment)
    → ((key : List ℕ) (before after : List RuleTexts) → AreRules key old before → AreRules key new after → IsSame before after device)
    → properties device old ≡ properties device new

-- the rules of all keys that some assignments make, in the order in which they count
abbrev pub keyed_rules : List Assignment → List KeyedRule
keyed_rules all = map keyed_texts (in_turn all)
