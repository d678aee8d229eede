-- If a line doesn't hold, or nothing is told of it, something decides over that.
use Rattle.std.proofs.Common.{◌≡◌, Bool, true, false, List, [], ◌∷◌, refl, sym, ◌∙◌, ap, Option, Some, None, ◌⊎◌, inl, inr, ◌||◌}
use Rattle.std.specs.Prelude.{if◌then◌else◌, filter, not}
use Rattle.hwdb_rulefiles.specs.RuleTokens.{Token}
use Rattle.hwdb_rulerun.specs.Conditions.{is_own, is_parents, has_parents}
use Rattle.hwdb_rulerun.specs.Sights.{Sight}
use Rattle.hwdb_rulerun.specs.Telling.{and_then, told, all_own, some_parent}
use Rattle.hwdb_rulerun.specs.Causes.{CauseIsThere, IsThere, first_some, is_meant, is_told_so, looked_for, own_cause, parents_cause}

one_of : (fails : Bool) (a b : Option Bool) → and_then a b ≡ looked_for fails → (a ≡ looked_for fails) ⊎ (b ≡ looked_for fails)
one_of true (Some false) b h = inl refl
one_of true (Some true) b h = inr h
one_of true None None h = absurd (cc)
one_of true None (Some true) h = absurd (cc)
one_of true None (Some false) h = inr refl
one_of false None b h = inl refl
one_of false (Some true) b h = inr h
one_of false (Some false) b h = absurd (cc)

meant : (fails : Bool) (a : Option Bool) → a ≡ looked_for fails → is_meant fails a ≡ true
meant true None h = absurd (cc)
meant true (Some true) h = absurd (cc)
meant true (Some false) h = refl
meant false None h = refl
meant false (Some b) h = absurd (cc)

here : (c : Bool) (t : Token) (more : List Token) → c ≡ true → IsThere (if c then t ∷ [] else more)
here true t more h = tt
here false t more h = absurd (cc)

later : (c : Bool) (t : Token) (more : List Token) → IsThere more → IsThere (if c then t ∷ [] else more)
later true t more h = tt
later false t more h = h

own_there : (fails : Bool) (s : Sight) (tokens : List Token) → all_own s tokens ≡ looked_for fails → IsThere (own_cause fails s tokens)
own_there true s [] h = absurd (cc)
own_there false s [] h = absurd (cc)
own_there fails s (t ∷ more) h = by (is_own t.kind) h (own_there fails s more)
  where
    by : (c : Bool) → (if c then and_then (told s t t.kind) (all_own s more) else all_own s more) ≡ looked_for fails
        → (all_own s more ≡ looked_for fails → IsThere (own_cause fails s more))
        → IsThere (if (if c then is_meant fails (told s t t.kind) else false) then t ∷ [] else own_cause fails s more)
    by false h ih = ih h
    by true h ih =
        elim (one_of fails (told s t t.kind) (all_own s more) h) [
          | inl e ↦ here (is_meant fails (told s t t.kind)) t (own_cause fails s more) (meant fails (told s t t.kind) e)
          | inr e ↦ later (is_meant fails (told s t t.kind)) t (own_cause fails s more) (ih e)
        ]

parents_there : (tokens : List Token) → has_parents tokens ≡ true → IsThere (parents_cause tokens)
parents_there [] h = absurd (cc)
parents_there (t ∷ more) h = by (is_parents t.kind) h (parents_there more)
  where
    by : (c : Bool) → (c || has_parents more) ≡ true → (has_parents more ≡ true → IsThere (parents_cause more))
        → IsThere (if c then t ∷ parents_cause more else parents_cause more)
    by true h ih = tt
    by false h ih = ih h

first_there : (a b : List Token) → IsThere a → IsThere (first_some a b)
first_there [] b h = absurd h
first_there (t ∷ more) b h = tt

second_there : (a b : List Token) → IsThere b → IsThere (first_some a b)
second_there [] b h = h
second_there (t ∷ more) b h = tt

has_some : (fails c : Bool) (p : Option Bool) → (if c then p else Some true) ≡ looked_for fails → c ≡ true
has_some fails true p h = refl
has_some true false p h = absurd (cc)
has_some false false p h = absurd (cc)

pub cause_is_there : CauseIsThere
cause_is_there fails s tokens h =
    elim (one_of fails (all_own s tokens) (if has_parents tokens then some_parent s tokens else Some true) h) [
      | inl e ↦ first_there (own_cause fails s tokens) (parents_cause tokens) (own_there fails s tokens e)
      | inr e ↦ second_there (own_cause fails s tokens) (parents_cause tokens) (parents_there tokens (has_some fails (has_parents tokens) (some_parent s tokens) e))
    ]
