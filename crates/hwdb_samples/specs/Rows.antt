-- Worked rows: what rules give devices, and what is shown of two sides. They are worked out by hand, by hwdb(7): the last rule whose
-- pattern matches counts.
use Rattle.std.specs.Prelude.{List, [], ◌∷◌, ◌≡◌, codes, false, map, None, Some, true}
use Rattle.hwdb_spec_commands.specs.SamplesFound.{agree, changed, near, samples_by_key, samples_of}
use Rattle.hwdb_spec_commands.specs.Overlaps.{apart, covers}
use Rattle.hwdb_spec_commands.specs.SampleRules.{HasRule, IsSame, RuleTexts, Shows, given}
use Rattle.hwdb_spec_commands.specs.SampleTexts.{text_of}

-- rules of mice: the second one is for two devices of the first, the third one gives nothing but an empty value
abbrev pub mice : List RuleTexts
mice = (codes "mouse:*", codes "1") ∷ (codes "mouse:a[xy]", codes "2") ∷ (codes "mouse:*?z", []) ∷ []

abbrev pub GivenRows : Type 0
GivenRows =
    map (λ device. given device mice)
    (codes "mouse:b" ∷ codes "mouse:ax" ∷ codes "mouse:az" ∷ codes "mouse:z" ∷ codes "mouse:" ∷ codes "key:ax" ∷ [])
    ≡ Some (codes "1") ∷ Some (codes "2") ∷ Some [] ∷ Some (codes "1") ∷ Some (codes "1") ∷ None ∷ []

-- A later rule counts, also if it says less of the device. Without rules nothing is given.
abbrev pub LaterRows : Type 0
LaterRows =
    map (given (codes "ab")) (((codes "ab", codes "1") ∷ (codes "*", codes "2") ∷ []) ∷ ((codes "*", codes "2") ∷ (codes "ab", codes "1") ∷ []) ∷ [] ∷ [])
    ≡ Some (codes "2") ∷ Some (codes "1") ∷ None ∷ []

-- two sides: the new one has a rule more, for one device
abbrev pub old_side : List RuleTexts
old_side = (codes "a*", codes "1") ∷ []

abbrev pub new_side : List RuleTexts
new_side = (codes "a*", codes "1") ∷ (codes "ab", codes "2") ∷ []

-- This device is given something else, others aren't.
abbrev pub SameRows : Type 0
SameRows = (¬ IsSame old_side new_side (codes "ab")) × IsSame old_side new_side (codes "ac") × IsSame old_side new_side (codes "b")

-- One side alone has the rule. The rule of both has its own value.
abbrev pub RuleRows : Type 0
RuleRows =
    HasRule new_side (codes "ab") (codes "2")
    × (¬ HasRule old_side (codes "ab") (codes "2"))
    × (¬ HasRule new_side (codes "ab") (codes "1"))
    × (¬ HasRule new_side (codes "a*") (codes "2"))

-- A sample is the rule's device, made of a pattern that matches it.
abbrev pub ShownRows : Type 0
ShownRows =
    Shows old_side new_side (codes "a?", codes "ab")
    × (¬ Shows old_side new_side (codes "a?", codes "ac"))
    × (¬ Shows old_side new_side (codes "b", codes "ab"))

-- a text for stars; a byte for `?` and for brackets, the first usual one that fits; an open bracket is a byte
abbrev pub TextRows : Type 0
TextRows =
    (map (text_of (codes "0")) (codes "mouse:*:a?[xy][!0]" ∷ codes "a[b" ∷ [] ∷ []) ≡ codes "mouse:0:a0xa" ∷ codes "a[b" ∷ [] ∷ [])
    × (text_of [] (codes "a*b*") ≡ codes "ab")

-- patterns that differ before a wildcard of both
abbrev pub ApartRows : Type 0
ApartRows = map (apart (codes "ab*")) (codes "ac" ∷ codes "abc" ∷ codes "a*" ∷ codes "ab" ∷ codes "b?" ∷ codes "?c" ∷ [] ∷ []) ≡ true ∷ false ∷ false ∷ false ∷ true ∷ false ∷ false ∷ []

-- patterns that match all that others do
abbrev pub CoverRows : Type 0
CoverRows =
    (map (covers (codes "a*")) (codes "a" ∷ codes "ab*" ∷ codes "a?c" ∷ codes "*" ∷ codes "?*" ∷ []) ≡ true ∷ true ∷ true ∷ false ∷ false ∷ [])
    × (map (covers (codes "a[bc]")) (codes "ab" ∷ codes "ad" ∷ codes "a[bc]" ∷ codes "a?" ∷ []) ≡ true ∷ false ∷ true ∷ false ∷ [])
    × (map (covers (codes "*a*c")) (codes "a*bc" ∷ codes "*ac" ∷ codes "?a?c" ∷ codes "ac*" ∷ []) ≡ true ∷ true ∷ true ∷ false ∷ [])
    × (map (covers (codes "?")) (codes "a" ∷ codes "[a-c]" ∷ codes "*" ∷ [] ∷ []) ≡ true ∷ true ∷ false ∷ false ∷ [])

-- the rules that may match a device of a pattern
abbrev pub NearRows : Type 0
NearRows = near (codes "ab*") ((codes "ac", codes "1") ∷ (codes "a?c", codes "2") ∷ (codes "abd", codes "3") ∷ []) ≡ (codes "a?c", codes "2") ∷ (codes "abd", codes "3") ∷ []

-- A rule that matches all devices of the pattern hides those before it. One that gives the same changes nothing. Others count.
abbrev pub AgreeRows : Type 0
AgreeRows =
    (agree ((codes "ab", codes "1") ∷ (codes "a*", codes "3") ∷ []) ((codes "ab", codes "2") ∷ (codes "a*", codes "3") ∷ []) (codes "ab") ≡ true)
    × (agree ((codes "a*", codes "1") ∷ []) ((codes "a*", codes "1") ∷ (codes "?b", codes "1") ∷ []) (codes "a*") ≡ true)
    × (agree ((codes "a*", codes "1") ∷ []) ((codes "a*", codes "1") ∷ (codes "?b", codes "2") ∷ []) (codes "a*") ≡ false)
    × (agree ((codes "a*", codes "1") ∷ []) [] (codes "a*") ≡ false)

-- The patterns of rules that one side alone has, with another value, or in another order, are looked at.
abbrev pub ChangedRows : Type 0
ChangedRows =
    (changed old_side new_side ≡ codes "ab" ∷ [])
    × (changed new_side old_side ≡ codes "ab" ∷ [])
    × (changed ((codes "a", codes "1") ∷ []) ((codes "a", codes "2") ∷ []) ≡ codes "a" ∷ [])
    × (changed ((codes "a*", codes "1") ∷ (codes "?b", codes "2") ∷ []) ((codes "?b", codes "2") ∷ (codes "a*", codes "1") ∷ []) ≡ codes "?b" ∷ codes "a*" ∷ [])
    × (changed new_side new_side ≡ [])

-- what is found: a device of a new pattern; nothing if a later rule hides the change; a device with a 0 if one without is hidden; and
-- a pattern that is undecided, if both are. udev asks no text that these patterns match.
abbrev pub FoundRows : Type 0
FoundRows =
    (samples_of old_side new_side ≡ record { shown = (codes "ab", codes "ab") ∷ []; undecided = [] })
    × (samples_of ((codes "ab", codes "1") ∷ (codes "a*", codes "3") ∷ []) ((codes "ab", codes "2") ∷ (codes "a*", codes "3") ∷ []) ≡ record { shown = []; undecided = [] })
    × (samples_of ((codes "k*", codes "1") ∷ (codes "k", codes "2") ∷ []) ((codes "k*", codes "3") ∷ (codes "k", codes "2") ∷ []) ≡ record { shown = (codes "k*", codes "k0") ∷ []; undecided = [] })
    × (samples_of ((codes "k*", codes "1") ∷ (codes "k", codes "2") ∷ (codes "k0", codes "2") ∷ []) ((codes "k*", codes "3") ∷ (codes "k", codes "2") ∷ (codes "k0", codes "2") ∷ [])
    ≡ record { shown = []; undecided = codes "k*" ∷ [] })

-- A device is such as udev asks, if there is one: the shortest of the pattern's form (ACPI ends names by a colon, which the pattern lacks).
-- If a later rule hides the change there, it is the shortest of which each star takes a byte.
abbrev pub AskedRows : Type 0
AskedRows =
    (samples_of ((codes "acpi:LNX*", codes "1") ∷ []) ((codes "acpi:LNX*", codes "2") ∷ []) ≡ record { shown = (codes "acpi:LNX*", codes "acpi:LNX:") ∷ []; undecided = [] })
    × (samples_of ((codes "tpm2:*", codes "1") ∷ (codes "tpm2:", codes "3") ∷ []) ((codes "tpm2:*", codes "2") ∷ (codes "tpm2:", codes "3") ∷ [])
    ≡ record { shown = (codes "tpm2:*", codes "tpm2:0") ∷ []; undecided = [] })

-- what is found of two keys, ascending
abbrev pub KeyedRows : Type 0
KeyedRows =
    samples_by_key ((codes "L", (codes "a", codes "1")) ∷ (codes "K", (codes "a*", codes "1")) ∷ []) ((codes "K", (codes "a*", codes "1")) ∷ (codes "K", (codes "ab", codes "2")) ∷ (codes "L", (codes "a", codes "1")) ∷ [])
    ≡ (codes "K", record { shown = (codes "ab", codes "ab") ∷ []; undecided = [] }) ∷ (codes "L", record { shown = []; undecided = [] }) ∷ []
