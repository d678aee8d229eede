-- No lookup is missed, and what is certain is asked.
use Rattle.std.specs.Prelude.{List, [], ◌∷◌, Bool, true, false, ℕ, ◌≡◌, ◌⊎◌, Option, Some, None}
use Rattle.hwdb_rulefiles.specs.RuleTokens.{Token}
use Rattle.hwdb_rulefiles.specs.RuleLines.{RuleLine}
use Rattle.hwdb_rulerun.specs.Laws.{Says}
use Rattle.hwdb_rulerun.specs.Sights.{AreSeen, Device, Is, IsSeen, Unknown, entry_of}
use Rattle.hwdb_ruleevents.specs.Changes.{Properties, Change, Agrees, Becomes, said_in}
use Rattle.hwdb_ruleevents.specs.Effects.{Effect, Knowledge, effect_of, is_env}
use Rattle.hwdb_ruleevents.specs.Events.{Event, Turn, Ask, moment, run_files, text_at, with_parent}
use Rattle.hwdb_ruleevents.specs.Parents.{IsChosen}
use Rattle.hwdb_ruleevents.specs.Telling.{Told, tell_files}

-- what is known of the effect of a token is so
pub record IsEffect (effect : Effect) (truth : Bool) (before after : Properties) : Type 0 where
  pub succeeds : Says effect.succeeds truth
  pub changes : (name : List ℕ) → Becomes (said_in effect.changes name) (before name) (after name)

-- a text that is told is so
abbrev pub IsText : Option (List ℕ) → List ℕ → Type 0
IsText None text = Unit {0}
IsText (Some told) text = text ≡ told

-- what is known of the effect of a token of an event is so
abbrev pub IsEffectOf : Knowledge → Event → (at : Turn) → Properties → List Change → Token → (text : Option (List ℕ)) → Type 0
IsEffectOf k e n p cs t text = IsEffect (effect_of k cs t text) (e.passes (moment e n) p t 0) p (e.sets (moment e n) p t)

-- what is known of the effects of tokens is so, by what is known of properties and of texts; the effect of ENV is followed
abbrev pub AreEffects : Knowledge → Event → Type 0
AreEffects k e =
    (n : Turn) (p : Properties) (cs : List Change) (t : Token) (text : Option (List ℕ))
    → is_env t.kind ≡ false → Agrees cs p → IsText text (text_at e n p t) → IsEffectOf k e n p cs t text

-- All that is known is so: of the device, of the parent that a line chose, of other devices, and of each token that is run, whatever parent a line
-- chose.
pub record IsKnown (k : Knowledge) (e : Event) : Type 0 where
  pub action : e.world.action ≡ k.sight.action
  pub path : e.world.path ≡ k.sight.path
  pub own : IsSeen k.sight.own e.world.own
  pub parents : AreSeen k.sight.parents e.world.parents
  pub parent : IsChosen k.parent e.parent
  pub others : (argument : List ℕ) → Is (entry_of argument Unknown k.others) (e.other argument)
  pub effects : (d : Option Device) → AreEffects k (with_parent e d)

-- a lookup is as it is told
pub record Fits (t : Told) (x : Ask) : Type 0 where
  pub at : x.at ≡ t.at
  pub token : x.token ≡ t.token
  pub text : IsText t.text x.text
  pub alias : Is t.alias x.alias

-- What is told covers what is asked: in their order, each that is asked is told, and each that is certain is asked.
abbrev pub Covers : List Told → List Ask → Type 0
Covers [] [] = Unit {0}
Covers [] (x ∷ xs) = ⊥
Covers (t ∷ ts) [] = (t.certain ≡ false) × Covers ts []
Covers (t ∷ ts) (x ∷ xs) = (Fits t x × Covers ts xs) ⊎ ((t.certain ≡ false) × Covers ts (x ∷ xs))

-- No lookup that the rules ask is missed, in no event of which all that is known is so. And each that is certain is asked in each of them.
abbrev pub EventsAreCovered : Type 0
EventsAreCovered =
    (k : Knowledge) (e : Event) (cs : List Change) (p : Properties) (files : List (List RuleLine)) → IsKnown k e → Agrees cs p
    → Covers (tell_files k 0 cs files) (run_files e 0 p files)

-- as many lookups as are told, and each is as it is told
abbrev pub AreAll : List Told → List Ask → Type 0
AreAll [] [] = Unit {0}
AreAll [] (x ∷ xs) = ⊥
AreAll (t ∷ ts) [] = ⊥
AreAll (t ∷ ts) (x ∷ xs) = Fits t x × AreAll ts xs

abbrev pub AreCertain : List Told → Type 0
AreCertain [] = Unit {0}
AreCertain (t ∷ ts) = (t.certain ≡ true) × AreCertain ts

-- If all that is told is certain, it is what the rules ask.
abbrev pub EventsAreExact : Type 0
EventsAreExact =
    (k : Knowledge) (e : Event) (cs : List Change) (p : Properties) (files : List (List RuleLine)) → IsKnown k e → Agrees cs p
    → AreCertain (tell_files k 0 cs files) → AreAll (tell_files k 0 cs files) (run_files e 0 p files)
