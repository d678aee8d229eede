-- What the proofs of this crate speak of.
use Rattle.std.specs.Prelude.{List, ℕ, Bool, true, false, ◌≡◌, ◌≤◌, None, IsTrue, drop, length, map, get_or, option_map}
use Rattle.std.specs.Borrow.{Bor}
use Rattle.std.specs.BTreeMap.{BTreeMap, get_by}
use Rattle.std.specs.BTreeSet.{BTreeSet}
use Rattle.hwdb_spec.specs.Answers.{is_match}
use Rattle.hwdb_spec.specs.Assignment.{in_order, text_cmp}
use Rattle.hwdb_spec.specs.Patterns.{Token, Matches, token_at, admits_byte}
use Rattle.hwdb_spec.specs.Forms.{is_star}
use Rattle.hwdb_spec_commands.specs.SamplesFound.{last_from}
use Rattle.hwdb_spec_commands.specs.Overlaps.{within}
use Rattle.hwdb_spec_commands.specs.SampleRules.{RuleTexts}
use Rattle.hwdb_samples.specs.Views.{own_text}

-- no device is matched by both patterns
abbrev pub AreApart : List ℕ → List ℕ → Type 0
AreApart p q = (device : List ℕ) → is_match device p ≡ true → is_match device q ≡ false

-- a pattern matches each device that another one matches
abbrev pub Covers : (over under : List ℕ) → Type 0
Covers over under = (device : List ℕ) → is_match device under ≡ true → is_match device over ≡ true

-- what the tokens `ps` match the tokens `qs` match
abbrev pub Within : (ps qs : List Token) → Type 0
Within ps qs = (device : List ℕ) → Matches ps device → Matches qs device

abbrev pub token_of : Bor (List ℕ) → Token
token_of text = token_at text.now

-- for each place of `ps`, whether its rest is within `qs`
abbrev pub IsRow : List Bool → (ps qs : List Token) → Type 0
IsRow row ps qs = (k : ℕ) → k ≤ length ps → get_or row k false ≡ within qs (drop k ps)

-- a byte that is a token for itself
pub record IsPlain (b : ℕ) : Type 0 where
  pub no_star : b ≡ 42 → ⊥
  pub no_mark : b ≡ 63 → ⊥
  pub no_bracket : b ≡ 91 → ⊥

-- a token takes each byte that another one takes, and both are no stars
pub record TakesAll (over under : Token) : Type 0 where
  pub over_star : is_star over ≡ false
  pub under_star : is_star under ≡ false
  pub takes : (b : ℕ) → IsTrue (admits_byte under b) → IsTrue (admits_byte over b)

-- what the last rule with each pattern gives
abbrev pub IsLasts : List RuleTexts → BTreeMap (Bor (List ℕ)) (Bor (List ℕ)) → Type 0
IsLasts rules lasts = (pattern : List ℕ) → option_map (λ (v : Bor (List ℕ)). v.now) (get_by (λ (k : Bor (List ℕ)). text_cmp pattern k.now) lasts) ≡ last_from pattern None rules

-- a set has these texts
abbrev pub IsSetOf : List (List ℕ) → BTreeSet (Bor (List ℕ)) → Type 0
IsSetOf texts set = map own_text set.keys ≡ in_order text_cmp texts
