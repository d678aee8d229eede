-- The samples of two sides: devices made of patterns that the two give something else. A rule is a pattern and the value that it gives.
-- A side has rules in the order in which they count, the last one first of all. Our choice.
use Rattle.std.specs.Prelude.{◌&&◌, ◌++◌, ◌∷◌, Bool, List, None, Option, Some, [], codes, false, filter, find, flat_map, if◌then◌else◌, length, map, nat_lt, not, true, ℕ}
use Rattle.hwdb_spec.specs.Answers.{is_match}
use Rattle.hwdb_spec.specs.Assignment.{in_order, text_cmp}
use Rattle.hwdb_spec.specs.Folders.{same}
use Rattle.hwdb_spec.specs.Patterns.{Token, tokens}
use Rattle.hwdb_spec_commands.specs.FormTable.{asked}
use Rattle.hwdb_spec_commands.specs.FormTexts.{filled, text_among}
use Rattle.hwdb_spec_commands.specs.Overlaps.{apart, covers}
use Rattle.hwdb_spec_commands.specs.SampleRules.{RuleTexts, given}
use Rattle.hwdb_spec_commands.specs.SampleTexts.{text_of}

-- whether two values are the same, or both are none
abbrev pub same_value : Option (List ℕ) → Option (List ℕ) → Bool
same_value None None = true
same_value None (Some other) = false
same_value (Some one) None = false
same_value (Some one) (Some other) = same one other

-- whether two rules have one pattern and one value
abbrev pub same_rule : RuleTexts → RuleTexts → Bool
same_rule one other = same one.0 other.0 && same one.1 other.1

-- whether two lists of rules are the same, in the same order
unfoldable pub same_rules : List RuleTexts → List RuleTexts → Bool
same_rules [] [] = true
same_rules [] (s ∷ others) = false
same_rules (r ∷ rules) [] = false
same_rules (r ∷ rules) (s ∷ others) = same_rule r s && same_rules rules others

-- ---- what rules give the devices that a pattern matches

-- the rules that may match one of them
abbrev pub near : (pattern : List ℕ) → List RuleTexts → List RuleTexts
near pattern rules = filter (λ r. not (apart pattern r.0)) rules

-- a value that all of them have, and rules that may change it
abbrev pub Counted : Type 0
Counted = Option (List ℕ) × List RuleTexts

-- whether a rule with a value changes nothing
abbrev pub is_idle : Counted → List ℕ → Bool
is_idle (base, []) value = same_value base (Some value)
is_idle (base, r ∷ more) value = false

-- what counts after a rule
abbrev pub counted_after : (pattern : List ℕ) → Counted → RuleTexts → Counted
counted_after pattern before rule =
    if covers rule.0 pattern then (Some rule.1, [])
    else (if is_idle before rule.1 then before else (before.0, before.1 ++ rule ∷ []))

-- what counts after some rules, one after another
unfoldable pub counted_from : (pattern : List ℕ) → Counted → List RuleTexts → Counted
counted_from pattern before [] = before
counted_from pattern before (rule ∷ more) = counted_from pattern (counted_after pattern before rule) more

-- what counts of a side
abbrev pub counted : (pattern : List ℕ) → List RuleTexts → Counted
counted pattern rules = counted_from pattern (None, []) rules

-- two sides are seen to give each of them the same
abbrev pub same_counted : Counted → Counted → Bool
same_counted one other = same_value one.0 other.0 && same_rules one.1 other.1

-- whether two sides are seen to give the same to each device that a pattern matches
abbrev pub agree : (old new : List RuleTexts) → (pattern : List ℕ) → Bool
agree old new pattern = same_counted (counted pattern old) (counted pattern new)

-- ---- a sample of a pattern

-- the pattern matches a device, and two sides give it something else
abbrev pub shows : (old new : List RuleTexts) → (pattern device : List ℕ) → Bool
shows old new pattern device = is_match device pattern && not (same_value (given device old) (given device new))

-- a text that there may be, as a list
abbrev pub some_text : Option (List ℕ) → List (List ℕ)
some_text None = []
some_text (Some text) = text ∷ []

-- How many tokens a pattern may have of which a text is looked for that udev may ask. The longest of Debian's has 254. The search takes
-- time in proportion to their number squared.
abbrev pub most_tokens : ℕ
most_tokens = 400

-- whether a pattern has more
abbrev pub is_long : List Token → Bool
is_long ts = nat_lt most_tokens (length ts)

-- texts that udev may not ask: stars are taken out of the pattern, or a 0 stands for each
abbrev pub plain_texts : (pattern : List ℕ) → List (List ℕ)
plain_texts pattern = text_of [] pattern ∷ text_of (codes "0") pattern ∷ []

-- The texts to try. Unless the pattern is long, the first ones are those that udev may ask: the shortest one, and the shortest one of
-- which each star takes a byte or more.
abbrev pub texts_to_try : (pattern : List ℕ) → List (List ℕ)
texts_to_try pattern =
    if is_long (tokens pattern) then plain_texts pattern
    else some_text (text_among asked (tokens pattern)) ++ (some_text (text_among asked (filled (tokens pattern))) ++ plain_texts pattern)

-- the device: the first of these texts that shows a change
abbrev pub sample_of : (old new : List RuleTexts) → (pattern : List ℕ) → Option (List ℕ)
sample_of old new pattern = find (shows old new pattern) (texts_to_try pattern)

-- ---- the patterns to look at

-- what the last rule with a pattern gives
unfoldable pub last_from : (pattern : List ℕ) → Option (List ℕ) → List RuleTexts → Option (List ℕ)
last_from pattern before [] = before
last_from pattern before (r ∷ more) = last_from pattern (if same pattern r.0 then Some r.1 else before) more

-- the other side's last rule with this pattern gives the same
abbrev pub is_kept : (other : List RuleTexts) → RuleTexts → Bool
is_kept other r = same_value (last_from r.0 None other) (Some r.1)

-- rules that the other side has too, and the patterns of the rest
abbrev pub kept : (other rules : List RuleTexts) → List RuleTexts
kept other rules = filter (is_kept other) rules

-- the pattern of a rule
abbrev pub pattern_of : RuleTexts → List ℕ
pattern_of r = r.0

-- the patterns of rules that the other side lacks
abbrev pub lone : (other rules : List RuleTexts) → List (List ℕ)
lone other rules = map pattern_of (filter (λ r. not (is_kept other r)) rules)

-- the patterns of both lists at the places where they differ
abbrev pub differing : RuleTexts → RuleTexts → List (List ℕ)
differing r s = if same_rule r s then [] else r.0 ∷ s.0 ∷ []

-- the patterns at which two lists of rules differ, place by place
unfoldable pub moved : List RuleTexts → List RuleTexts → List (List ℕ)
moved [] others = map pattern_of others
moved (r ∷ rules) [] = map pattern_of (r ∷ rules)
moved (r ∷ rules) (s ∷ others) = differing r s ++ moved rules others

-- the patterns of rules that one side alone has, or that come in another order, ascending
abbrev pub listed : (old new : List RuleTexts) → List (List ℕ)
listed old new = lone new old ++ (lone old new ++ moved (kept new old) (kept old new))

-- the same, each once
abbrev pub changed : (old new : List RuleTexts) → List (List ℕ)
changed old new = in_order text_cmp (listed old new)

-- ---- what is found

-- patterns with a device that shows a change, and patterns of which it isn't known whether there is one
pub record Found : Type 0 where
  pub shown : List (List ℕ × List ℕ)
  pub undecided : List (List ℕ)

-- a pattern with the device that shows a change, if one does
abbrev pub shown_by : (pattern : List ℕ) → Option (List ℕ) → List (List ℕ × List ℕ)
shown_by pattern None = []
shown_by pattern (Some device) = (pattern, device) ∷ []

-- a pattern, if no device shows a change and both sides aren't seen to agree
abbrev pub undecided_by : (pattern : List ℕ) → Option (List ℕ) → (agreed : Bool) → List (List ℕ)
undecided_by pattern None agreed = if agreed then [] else pattern ∷ []
undecided_by pattern (Some device) agreed = []

-- the sample of a pattern, by the rules that may match what it matches
abbrev pub shown_of : (old new : List RuleTexts) → (pattern : List ℕ) → List (List ℕ × List ℕ)
shown_of old new pattern = shown_by pattern (sample_of (near pattern old) (near pattern new) pattern)

-- a pattern of which it isn't known, by the same rules
abbrev pub undecided_of : (old new : List RuleTexts) → (pattern : List ℕ) → List (List ℕ)
undecided_of old new pattern =
    undecided_by pattern (sample_of (near pattern old) (near pattern new) pattern) (agree (near pattern old) (near pattern new) pattern)

-- the samples of the rules of one key
abbrev pub samples_of : (old new : List RuleTexts) → Found
samples_of old new = record {
  shown = flat_map (shown_of old new) (changed old new);
  undecided = flat_map (undecided_of old new) (changed old new);
}

-- ---- all keys

-- a key, and a rule of it
abbrev pub KeyedRule : Type 0
KeyedRule = List ℕ × RuleTexts

-- the key of a rule
abbrev pub key_in : KeyedRule → List ℕ
key_in p = p.0

-- the rules of a key
abbrev pub rules_of : (key : List ℕ) → List KeyedRule → List RuleTexts
rules_of key list = map (λ (p : KeyedRule). p.1) (filter (λ (p : KeyedRule). same key p.0) list)

-- what is found of a key
abbrev pub found_at : (old new : List KeyedRule) → (key : List ℕ) → List ℕ × Found
found_at old new key = (key, samples_of (rules_of key old) (rules_of key new))

-- the samples of each key of both sides, ascending
abbrev pub samples_by_key : (old new : List KeyedRule) → List (List ℕ × Found)
samples_by_key old new = map (found_at old new) (in_order text_cmp (map key_in old ++ map key_in new))
