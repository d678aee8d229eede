-- Worked rows of all keys: which assignments count, and what devices get. They are worked out by hand, by hwdb(7): of the assignments
-- with one pattern and key the last one counts.
use Rattle.std.specs.Prelude.{List, ℕ, [], ◌∷◌, ◌≡◌, codes, map, None, Some}
use Rattle.hwdb_spec.specs.Assignment.{Assignment}
use Rattle.hwdb_spec_commands.specs.SamplesFound.{KeyedRule, rules_of}
use Rattle.hwdb_samples.specs.Keys.{AreRules, keyed_rules, properties, value_at}

abbrev pub assigned : (priority line : ℕ) (pattern key value : List ℕ) → Assignment
assigned priority line pattern key value =
    record { position = record { priority = priority; line = line; pattern = pattern; key = key }; value = value; path = [] }

-- three lines of one file, and one of a later file, which replaces the first of these
abbrev pub lines : List Assignment
lines =
    assigned 1 1 (codes "a*") (codes "K") (codes "1")
    ∷ assigned 1 2 (codes "ab") (codes "K") (codes "2")
    ∷ assigned 1 3 (codes "a*") (codes "L") (codes "3")
    ∷ assigned 2 1 (codes "a*") (codes "K") (codes "4")
    ∷ []

-- what is left of them
abbrev pub left : List KeyedRule
left = (codes "K", (codes "ab", codes "2")) ∷ (codes "L", (codes "a*", codes "3")) ∷ (codes "K", (codes "a*", codes "4")) ∷ []

abbrev pub TurnRows : Type 0
TurnRows = keyed_rules lines ≡ left

-- what two devices get
abbrev pub PropertyRows : Type 0
PropertyRows =
    map (λ device. properties device lines) (codes "ab" ∷ codes "b" ∷ [])
    ≡ ((codes "K", codes "4") ∷ (codes "L", codes "3") ∷ []) ∷ [] ∷ []

abbrev pub ValueRows : Type 0
ValueRows =
    map (λ key. value_at key (properties (codes "ab") lines)) (codes "K" ∷ codes "L" ∷ codes "M" ∷ [])
    ≡ Some (codes "4") ∷ Some (codes "3") ∷ None ∷ []

-- the rules of a key
abbrev pub KeyRuleRows : Type 0
KeyRuleRows = (rules_of (codes "K") left ≡ (codes "ab", codes "2") ∷ (codes "a*", codes "4") ∷ []) × AreRules (codes "K") lines (rules_of (codes "K") left)
