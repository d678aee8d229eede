-- Which conditions of a line hold, after `udev_rule_apply_token_to_event`, `token_match_attr` and `udev_rule_apply_parent_token_to_event` of
-- udev-rules.c (systemd 257).
use Rattle.std.specs.Prelude.{List, [], ◌∷◌, Bool, true, false, if◌then◌else◌, ℕ, ◌==◌, ◌+◌, nat_lt, take, length, slice_index, ◌-◌, codes, not, Option, Some, None, unwrap_or}
use Rattle.std.specs.List.{list_any}
use Rattle.std.specs.Str.{bytes_eq}
use Rattle.hwdb_spec.specs.Lines.{byte, begins_with, has, is_blank, is_none}
use Rattle.hwdb_rulefiles.specs.RuleText.{is_white}
use Rattle.hwdb_rulefiles.specs.RuleTokens.{Token}
use Rattle.hwdb_rulefiles.specs.declared.pairs.Operator.{Operator}
use Rattle.hwdb_rulefiles.specs.declared.pairs.Operator.TheVariants.{NoMatch}
use Rattle.hwdb_rulefiles.specs.declared.tokens.TokenKind.{TokenKind}
use Rattle.hwdb_rulefiles.specs.declared.tokens.TokenKind.TheVariants as Kinds
use Rattle.hwdb_rulerun.specs.Matching
use Rattle.hwdb_rulerun.specs.Sights.{Device, World}

-- what a token makes of a comparison: `!=` turns it
abbrev pub by_operator : Operator → Bool → Bool
by_operator NoMatch b = not b
by_operator o b = b

-- a text that isn't there is compared as an empty one (`strempty`)
abbrev pub text_of : Option (List ℕ) → List ℕ
text_of None = []
text_of (Some text) = text

-- a text is compared with the token's value
abbrev pub compared : World → Token → (text : List ℕ) → Bool
compared w t text = by_operator t.operator (unwrap_or (Matching.told t.folds t.value text) (w.fnmatch t.folds t.value text))

-- the three names of all subsystems of one kind
abbrev pub is_any_subsystem : List ℕ → Bool
is_any_subsystem text = if bytes_eq text (codes "subsystem") then true else (if bytes_eq text (codes "bus") then true else bytes_eq text (codes "class"))

-- SUBSYSTEM takes each of the three for each other
abbrev pub subsystem_compared : World → Token → (text : List ℕ) → Bool
subsystem_compared w t text = if is_any_subsystem t.value then by_operator t.operator (is_any_subsystem text) else compared w t text

-- how long a text is without the blanks at its end, of which the rest after its first byte has this length
abbrev pub kept_more : ℕ → (rest : ℕ) → ℕ
kept_more b rest = if rest == 0 then (if is_white b then 0 else 1) else rest + 1

abbrev pub kept_len : List ℕ → ℕ
kept_len [] = 0
kept_len (b ∷ rest) = kept_more b (kept_len rest)

-- whether a value ends in no blank
abbrev pub ends_full : List ℕ → Bool
ends_full value = if is_none value then false else not (is_blank (slice_index value (length value - 1)))

-- blanks at an attribute's end don't count, if the value has none there
abbrev pub trimmed : (value text : List ℕ) → List ℕ
trimmed value text = if ends_full value then take (kept_len text) text else text

-- how many bytes udev takes of an attribute (UDEV_NAME_SIZE)
abbrev pub attribute_size : ℕ
attribute_size = 511

-- an attribute that isn't there fails, whatever the operator; a longer one isn't followed
abbrev pub attribute_compared : World → Token → (index : ℕ) → Option (List ℕ) → Bool
attribute_compared w t index None = false
attribute_compared w t index (Some text) = if nat_lt attribute_size (length text) then w.passes t index else compared w t (trimmed t.value text)

-- whether an attribute is named as it is: without $ or %, which stand for other texts, and no [subsystem/name] before it
abbrev pub is_plain : List ℕ → Bool
is_plain name = if begins_with (byte "[") name then false else (if has (byte "$") name then false else not (has (byte "%") name))

abbrev pub attribute_holds : World → Token → (index : ℕ) → Device → Bool
attribute_holds w t index d = if is_plain t.attribute then attribute_compared w t index (d.attribute t.attribute) else w.passes t index

-- whether a token holds of the device with this index
abbrev pub holds_of : World → Token → (index : ℕ) → Device → TokenKind → Bool
holds_of w t index d Kinds.MatchKernel = compared w t d.name
holds_of w t index d Kinds.ParentsKernel = compared w t d.name
holds_of w t index d Kinds.MatchSubsystem = subsystem_compared w t (text_of d.subsystem)
holds_of w t index d Kinds.ParentsSubsystem = compared w t (text_of d.subsystem)
holds_of w t index d Kinds.MatchDriver = compared w t (text_of d.driver)
holds_of w t index d Kinds.ParentsDriver = compared w t (text_of d.driver)
holds_of w t index d Kinds.MatchAttr = attribute_holds w t index d
holds_of w t index d Kinds.ParentsAttr = attribute_holds w t index d
holds_of w t index d kind = w.passes t index

-- whether a token holds that isn't about parents
abbrev pub holds : World → Token → TokenKind → Bool
holds w t Kinds.MatchAction = compared w t w.action
holds w t Kinds.MatchDevpath = compared w t w.path
holds w t Kinds.MatchEnv = compared w t (text_of (w.property t.attribute))
holds w t kind = holds_of w t 0 w.own kind

-- conditions that are about parents
abbrev pub is_parents : TokenKind → Bool
is_parents Kinds.ParentsKernel = true
is_parents Kinds.ParentsSubsystem = true
is_parents Kinds.ParentsDriver = true
is_parents Kinds.ParentsAttr = true
is_parents Kinds.ParentsTag = true
is_parents kind = false

-- conditions that aren't, and that come before anything is run
abbrev pub is_own : TokenKind → Bool
is_own Kinds.MatchAction = true
is_own Kinds.MatchDevpath = true
is_own Kinds.MatchKernel = true
is_own Kinds.MatchDevlink = true
is_own Kinds.MatchName = true
is_own Kinds.MatchEnv = true
is_own Kinds.MatchConst = true
is_own Kinds.MatchTag = true
is_own Kinds.MatchSubsystem = true
is_own Kinds.MatchDriver = true
is_own Kinds.MatchAttr = true
is_own Kinds.MatchSysctl = true
is_own Kinds.MatchTest = true
is_own kind = false

-- whether all conditions hold that aren't about parents
abbrev pub all_own : World → List Token → Bool
all_own w [] = true
all_own w (t ∷ more) = if is_own t.kind then (if holds w t t.kind then all_own w more else false) else all_own w more

-- whether all conditions about parents hold of the device with this index
abbrev pub all_of : World → List Token → (index : ℕ) → Device → Bool
all_of w [] index d = true
all_of w (t ∷ more) index d = if is_parents t.kind then (if holds_of w t index d t.kind then all_of w more index d else false) else all_of w more index d

-- whether they hold of one of the devices, of which the first has this index
abbrev pub some_parent : World → List Token → (index : ℕ) → List Device → Bool
some_parent w tokens index [] = false
some_parent w tokens index (d ∷ more) = if all_of w tokens index d then true else some_parent w tokens (index + 1) more

abbrev pub has_parents : List Token → Bool
has_parents tokens = list_any (λ t. is_parents t.kind) tokens

-- Whether a line's conditions hold, before it runs anything: all of its own, and those about parents of one device, which is the device
-- itself or one of its parents.
abbrev pub line_holds : World → List Token → Bool
line_holds w tokens = if all_own w tokens then (if has_parents tokens then some_parent w tokens 0 (w.own ∷ w.parents) else true) else false
