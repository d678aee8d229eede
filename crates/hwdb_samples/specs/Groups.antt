-- Rules of two sides by key, as the code collects them.
use Rattle.std.specs.Prelude.{List, ℕ, [], ◌∷◌, ◌++◌, ◌≡◌, Bool, Option, None, Some, filter, map, option_map}
use Rattle.std.specs.Borrow.{Bor}
use Rattle.std.specs.declared.cmp.Ordering.{Ordering}
use Rattle.std.specs.BTreeMap.{get_by}
use Rattle.std.specs.List.Sorted.{IsStrictlySortedBy}
use Rattle.std.specs.Map.{keys_of}
use Rattle.hwdb_spec.specs.Assignment.{text_cmp}
use Rattle.hwdb_spec.specs.Folders.{same}
use Rattle.hwdb_spec_commands.specs.SamplesFound.{samples_of}
use Rattle.hwdb_samples.specs.Views.{found_shown, rule_texts}
use Rattle.hwdb_samples.specs.declared.groups.Property.{Property}
use Rattle.hwdb_samples.specs.declared.samples.Samples.{Samples}
use Rattle.hwdb_samples.specs.declared.rules.Rule.{Rule}
use Rattle.hwdb_samples.specs.declared.groups.Groups.{Groups}
use Rattle.hwdb_samples.specs.declared.groups.KeySamples.{KeySamples}
use Rattle.hwdb_samples.specs.declared.groups.Sides.{Sides}
use Rattle.hwdb_samples.specs.declared.groups.Side.{Side}
use Rattle.hwdb_samples.specs.declared.groups.Side.TheVariants.{Old, New}

-- the order of keys
abbrev pub key_order : Bor (List ℕ) → Bor (List ℕ) → Ordering
key_order a b = text_cmp a.now b.now

-- whether a property has a key, and its rule
abbrev pub is_of : List ℕ → Property → Bool
is_of key p = same key p.key.now

abbrev pub rule_in : Property → Rule
rule_in p = p.rule

-- the rules of a key
abbrev pub rules_at : List ℕ → List Property → List Rule
rules_at key list = map rule_in (filter (is_of key) list)

-- what is found of the rules of a key
abbrev pub IsFound : (old new : List Rule) → Samples → Type 0
IsFound old new found = found_shown found ≡ samples_of (map rule_texts old) (map rule_texts new)

-- the rules of both sides
abbrev pub Both : Type 0
Both = List Rule × List Rule

abbrev pub both_in : Sides → Both
both_in s = (s.before.items, s.after.items)

-- a side has some rules more
abbrev pub with_rules : Side → List Rule → Both → Both
with_rules Old more both = (both.0 ++ more, both.1)
with_rules New more both = (both.0, both.1 ++ more)

-- what a key has
abbrev pub both_at : Groups → List ℕ → Option Both
both_at m key = option_map both_in (get_by (λ k. text_cmp key k.now) m.sides)

abbrev pub or_none : Option Both → Both
or_none None = ([], [])
or_none (Some both) = both

-- a key has its rules; nothing if it has none
abbrev pub some_both : Both → Option Both
some_both ([], []) = None
some_both ([], r ∷ new) = Some ([], r ∷ new)
some_both (r ∷ old, new) = Some (r ∷ old, new)

-- what is found of each key in turn
abbrev pub AreFound : List (Bor (List ℕ) × Sides) → List KeySamples → Type 0
AreFound [] [] = Unit {0}
AreFound [] (s ∷ ss) = ⊥
AreFound (e ∷ es) [] = ⊥
AreFound (e ∷ es) (s ∷ ss) = (s.key.now ≡ e.0.now) × IsFound e.1.before.items e.1.after.items s.found × AreFound es ss

-- what is found of all keys, ascending
pub record AreAllFound (m : Groups) (list : List KeySamples) : Type 0 where
  pub found : AreFound m.sides.entries list
  pub ascends : IsStrictlySortedBy key_order (keys_of m.sides.entries)
