-- What devices get of one key, from the rules of two sides. Our choice; that the last rule that matches counts is hwdb(7)'s.
use Rattle.std.specs.Prelude.{List, ℕ, [], ◌∷◌, true, if◌then◌else◌, Option, None, Some, ◌≡◌, ◌⊎◌}
use Rattle.hwdb_spec.specs.Answers.{is_match}

-- a pattern, and the value that it gives to a key
abbrev pub RuleTexts : Type 0
RuleTexts = List ℕ × List ℕ

-- what a device has after a rule: the rule's value if its pattern matches, else what it had before
abbrev pub after_rule : List ℕ → Option (List ℕ) → RuleTexts → Option (List ℕ)
after_rule device before rule = if is_match device rule.0 then Some rule.1 else before

-- what a device has after some rules, in their order
unfoldable pub after_rules : List ℕ → Option (List ℕ) → List RuleTexts → Option (List ℕ)
after_rules device before [] = before
after_rules device before (rule ∷ more) = after_rules device (after_rule device before rule) more

-- what some rules give a device: the value of the last one whose pattern matches, if one does
abbrev pub given : List ℕ → List RuleTexts → Option (List ℕ)
given device rules = after_rules device None rules

-- two sides give a device the same
abbrev pub IsSame : (old new : List RuleTexts) → List ℕ → Type 0
IsSame old new device = given device old ≡ given device new

-- two sides give the same to each device that a pattern matches
abbrev pub AgreeOn : (old new : List RuleTexts) → List ℕ → Type 0
AgreeOn old new pattern = (device : List ℕ) → is_match device pattern ≡ true → IsSame old new device

-- a sample is made of a pattern that matches it, and two sides give it something else
pub record Shows (old new : List RuleTexts) (sample : List ℕ × List ℕ) : Type 0 where
  pub matched : is_match sample.1 sample.0 ≡ true
  pub differs : ¬ IsSame old new sample.1

-- one of some samples is made of a pattern
abbrev pub HasSample : List (List ℕ × List ℕ) → List ℕ → Type 0
HasSample [] pattern = ⊥
HasSample (sample ∷ more) pattern = (sample.0 ≡ pattern) ⊎ HasSample more pattern

-- one of some texts is a pattern
abbrev pub HasText : List (List ℕ) → List ℕ → Type 0
HasText [] pattern = ⊥
HasText (text ∷ more) pattern = (text ≡ pattern) ⊎ HasText more pattern

-- one of some rules has a pattern and a value
abbrev pub HasRule : List RuleTexts → List ℕ → List ℕ → Type 0
HasRule [] pattern value = ⊥
HasRule (rule ∷ more) pattern value = ((rule.0 ≡ pattern) × (rule.1 ≡ value)) ⊎ HasRule more pattern value
