-- What samples say of two sides.
use Rattle.std.specs.Prelude.{List, ℕ, Some, [], false, true, ◌≡◌, ◌⊎◌}
use Rattle.std.specs.List.{AllByRecursion}
use Rattle.hwdb_spec.specs.Assignment.{Assignment}
use Rattle.hwdb_spec.specs.Forms.{HasOneOf}
use Rattle.hwdb_spec.specs.Patterns.{tokens}
use Rattle.hwdb_spec_commands.specs.FormTable.{asked}
use Rattle.hwdb_spec_commands.specs.FormTexts.{filled, text_among}
use Rattle.hwdb_spec_commands.specs.SamplesFound.{Found, is_long, sample_of, samples_by_key, samples_of, shows}
use Rattle.hwdb_samples.specs.Keys.{keyed_rules, properties}
use Rattle.hwdb_spec_commands.specs.SampleRules.{AgreeOn, HasRule, HasSample, HasText, IsSame, RuleTexts, Shows}

-- A pattern is settled: two sides give each device that it matches the same, or a sample of it shows that they don't, or it is told
-- as undecided.
abbrev pub IsSettled : (old new : List RuleTexts) → Found → List ℕ → Type 0
IsSettled old new found pattern = AgreeOn old new pattern ⊎ (HasSample found.shown pattern ⊎ HasText found.undecided pattern)

-- Each sample is a device that its pattern matches, and that two sides give something else.
abbrev pub SamplesShow : Type 0
SamplesShow = (old new : List RuleTexts) → AllByRecursion (Shows old new) (samples_of old new).shown

-- If nothing is shown and nothing is undecided, two sides give each device the same.
abbrev pub NothingIsSame : Type 0
NothingIsSame =
    (old new : List RuleTexts) → (samples_of old new).shown ≡ [] → (samples_of old new).undecided ≡ [] → (device : List ℕ) → IsSame old new device

-- The pattern of each rule that one side alone has is settled.
abbrev pub RemovedAreSettled : Type 0
RemovedAreSettled =
    (old new : List RuleTexts) (pattern value : List ℕ) → HasRule old pattern value → HasRule new pattern value ⊎ IsSettled old new (samples_of old new) pattern

abbrev pub AddedAreSettled : Type 0
AddedAreSettled =
    (old new : List RuleTexts) (pattern value : List ℕ) → HasRule new pattern value → HasRule old pattern value ⊎ IsSettled old new (samples_of old new) pattern

-- A sample of a pattern that isn't long is a text that udev may ask, if the shortest one of these that the pattern matches shows the
-- change. A star that takes nothing may hide a change, so the shortest one counts of which each star takes a byte, too.
abbrev pub SamplesFit : Type 0
SamplesFit =
    (old new : List RuleTexts) (pattern text : List ℕ)
    → is_long (tokens pattern) ≡ false
    → (text_among asked (tokens pattern) ≡ Some text) ⊎ (text_among asked (filled (tokens pattern)) ≡ Some text)
    → shows old new pattern text ≡ true
    → (device : List ℕ) × (sample_of old new pattern ≡ Some device) × HasOneOf asked device

-- The first of the texts to try is the sample, if the pattern isn't long and the text shows the change.
abbrev pub ShortestIsSample : Type 0
ShortestIsSample =
    (old new : List RuleTexts) (pattern text : List ℕ)
    → is_long (tokens pattern) ≡ false → text_among asked (tokens pattern) ≡ Some text → shows old new pattern text ≡ true → sample_of old new pattern ≡ Some text

-- nothing is shown of a key, and nothing is undecided
abbrev pub IsNothing : List ℕ × Found → Type 0
IsNothing s = (s.1.shown ≡ []) × (s.1.undecided ≡ [])

-- If nothing is shown of any key and nothing is undecided, both sides give each device the same keys and values.
abbrev pub NothingIsSameOfAll : Type 0
NothingIsSameOfAll =
    (old new : List Assignment) → AllByRecursion IsNothing (samples_by_key (keyed_rules old) (keyed_rules new)) → (device : List ℕ) → properties device old ≡ properties device new
