-- What is told of a line is so, whatever isn't known, and no lookup is missed.
use Rattle.std.specs.Prelude.{List, Bool, ℕ, ◌≡◌, Option, Some, None}
use Rattle.hwdb_rulefiles.specs.RuleTokens.{Token}
use Rattle.hwdb_rulerun.specs.Sights.{Device, Seen, Sight, World, IsSeen, IsSight}
use Rattle.hwdb_rulerun.specs.Conditions.{line_holds, all_of}
use Rattle.hwdb_rulerun.specs.Telling as tell
use Rattle.hwdb_rulerun.specs.Telling.{line_told}
use Rattle.hwdb_rulerun.specs.Asking.{asked, told, Covers}

-- a yes or a no is so; to tell nothing says nothing
abbrev pub Says : Option Bool → Bool → Type 0
Says None truth = Unit {0}
Says (Some told) truth = truth ≡ told

-- what is told of a line's conditions is so in each world of which all that is known is so
abbrev pub ToldIsSo : Type 0
ToldIsSo = (s : Sight) (w : World) (tokens : List Token) → IsSight s w → Says (line_told s tokens) (line_holds w tokens)

-- what is told of all conditions about parents and one device is so
abbrev pub ParentsAreSo : Type 0
ParentsAreSo =
    (s : Seen) (w : World) (tokens : List Token) (index : ℕ) (d : Device) → IsSeen s d
    → Says (tell.all_of s tokens) (all_of w tokens index d)

-- No lookup that a line asks is missed, in no world of which all that is known is so. And each that is certain is asked in each of them.
abbrev pub LookupsAreCovered : Type 0
LookupsAreCovered = (s : Sight) (w : World) (tokens : List Token) → IsSight s w → Covers (told s tokens) (asked w tokens)
