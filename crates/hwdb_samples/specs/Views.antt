-- What the code's values mean.
use Rattle.std.specs.Prelude.{List, ℕ, Option, None, Some, map}
use Rattle.std.specs.Borrow.{Bor}
use Rattle.std.specs.Prelude.{Vec}
use Rattle.std.specs.declared.alloc.Global.{Global}
use Rattle.hwdb_spec_commands.specs.SamplesFound.{Counted as Counts, Found, KeyedRule}
use Rattle.hwdb_spec_commands.specs.SampleRules.{RuleTexts}
use Rattle.hwdb_forms.specs.TextViews.{text_view}
use Rattle.hwdb_samples.specs.declared.agreement.Counted.{Counted}
use Rattle.hwdb_samples.specs.declared.groups.KeySamples.{KeySamples}
use Rattle.hwdb_samples.specs.declared.groups.Property.{Property}
use Rattle.hwdb_samples.specs.declared.rules.Rule.{Rule}
use Rattle.hwdb_samples.specs.declared.samples.Sample.{Sample}
use Rattle.hwdb_samples.specs.declared.samples.Samples.{Samples}

-- a text, and some
abbrev pub own_text : Bor (List ℕ) → List ℕ
own_text text = text.now

-- a text that may be there
abbrev pub value_of : Option (Bor (List ℕ)) → Option (List ℕ)
value_of None = None
value_of (Some text) = Some text.now

-- a rule
abbrev pub rule_texts : Rule → RuleTexts
rule_texts rule = (rule.pattern.now, rule.value.now)

-- a rule of a key
abbrev pub property_texts : Property → KeyedRule
property_texts p = (p.key.now, rule_texts p.rule)

-- what counts
abbrev pub counted_shown : Counted → Counts
counted_shown c = (value_of c.base, map rule_texts c.rest.items)

-- a sample
abbrev pub sample_texts : Sample → List ℕ × List ℕ
sample_texts s = (s.pattern.now, s.device.items)

-- what is found of a key, and which key it is
abbrev pub found_shown : Samples → Found
found_shown s = record { shown = map sample_texts s.shown.items; undecided = map own_text s.undecided.items }

abbrev pub key_shown : KeySamples → List ℕ × Found
key_shown s = (s.key.now, found_shown s.found)

-- a device, if there is one
abbrev pub device_in : Option (Vec ℕ Global) → Option (List ℕ)
device_in device = text_view device
