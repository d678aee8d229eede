-- The parent that a line chose, after `udev_rule_apply_parent_token_to_event` of udev-rules.c (systemd 257): the first of the device and its
-- parents of which all conditions about parents hold. It stays for the lines after it. And what is known of it.
use Rattle.std.specs.Prelude.{List, [], ◌∷◌, Bool, true, false, if◌then◌else◌, ℕ, ◌+◌, take, ◌≡◌, Option, Some, None}
use Rattle.std.specs.List.{list_any, position_or_len}
use Rattle.hwdb_rulefiles.specs.RuleTokens.{Token}
use Rattle.hwdb_rulefiles.specs.RuleLines.{RuleLine, acts}
use Rattle.hwdb_rulefiles.specs.declared.tokens.TokenKind.{TokenKind}
use Rattle.hwdb_rulefiles.specs.declared.tokens.TokenKind.TheVariants as Kinds
use Rattle.hwdb_rulerun.specs.Conditions.{all_of, has_parents, is_parents, line_holds}
use Rattle.hwdb_rulerun.specs.Sights.{Device, Seen, Sight, World, IsSeen}
use Rattle.hwdb_rulerun.specs.Telling as told
use Rattle.hwdb_rulerun.specs.Telling.{line_told}

-- the first of some devices, of which the first has this index
abbrev pub first_of : World → List Token → (index : ℕ) → List Device → Option Device
first_of w tokens index [] = None
first_of w tokens index (d ∷ more) = if all_of w tokens index d then Some d else first_of w tokens (index + 1) more

-- the tokens before those about parents
abbrev pub first_tokens : List Token → List Token
first_tokens tokens = take (position_or_len (λ t. is_parents t.kind) tokens) tokens

-- the parent that a line's tokens see when they are run
abbrev pub parent_in : World → List Token → (before : Option Device) → Option Device
parent_in w tokens before = if has_parents tokens then first_of w tokens 0 (w.own ∷ w.parents) else before

-- the parent after a line, which chooses none if a condition before those about parents fails
abbrev pub parent_after : World → List Token → (before : Option Device) → Option Device
parent_after w tokens before = if line_holds w (first_tokens tokens) then parent_in w tokens before else before

-- What changes something of any device. The owner, the group, the mode and the links are a node's, and NAME is a network interface's:
-- a line that changes these alone is tried on no other device, and chooses no parent there (`udev_rule_apply_line_to_event`).
abbrev pub acts_always : TokenKind → Bool
acts_always Kinds.Owner = false
acts_always Kinds.Group = false
acts_always Kinds.Mode = false
acts_always Kinds.Devlink = false
acts_always Kinds.Name = false
acts_always Kinds.StaticNode = false
acts_always kind = acts kind

abbrev pub jumps : (goto : Option (List ℕ)) → Bool
jumps None = false
jumps (Some name) = true

-- whether a line is tried on any device
abbrev pub is_for_all : RuleLine → Bool
is_for_all l = if jumps l.goto then true else list_any (λ t. acts_always t.kind) l.tokens

-- what is known of the parent that a line chose: nothing, that it chose none, or which one
pub data Chosen : Type 0 where
  Anyone : Chosen
  Nobody : Chosen
  One : Seen → Chosen

-- one of some devices, of whose first one this is told
abbrev pub one_of : Option Bool → Seen → (others : Chosen) → Chosen
one_of None s others = Anyone
one_of (Some true) s others = One s
one_of (Some false) s others = others

abbrev pub first_told : List Token → List Seen → Chosen
first_told tokens [] = Nobody
first_told tokens (s ∷ more) = one_of (told.all_of s tokens) s (first_told tokens more)

abbrev pub parent_told : Sight → List Token → (before : Chosen) → Chosen
parent_told s tokens before = if has_parents tokens then first_told tokens (s.own ∷ s.parents) else before

-- the parent after a line that is tried, or may be tried, by whether its conditions before those about parents hold
abbrev pub by_reached : (sure : Bool) → (reached : Option Bool) → (new before : Chosen) → Chosen
by_reached sure None new before = Anyone
by_reached sure (Some false) new before = before
by_reached sure (Some true) new before = if sure then new else Anyone

abbrev pub parent_after_told : (sure : Bool) → Sight → List Token → (before : Chosen) → Chosen
parent_after_told sure s tokens before =
    if has_parents tokens then by_reached sure (line_told s (first_tokens tokens)) (parent_told s tokens before) before else before

-- what is known of a parent is so
abbrev pub IsChosen : Chosen → Option Device → Type 0
IsChosen Anyone truth = Unit {0}
IsChosen Nobody truth = truth ≡ None
IsChosen (One s) None = ⊥
IsChosen (One s) (Some d) = IsSeen s d
