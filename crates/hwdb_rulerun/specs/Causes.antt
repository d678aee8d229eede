-- What decides over the conditions of a line that doesn't hold, or of which nothing is told. Our choice.
use Rattle.std.specs.Prelude.{List, [], ◌∷◌, Bool, true, false, if◌then◌else◌, ◌≡◌, Option, Some, None, filter, not}
use Rattle.hwdb_rulefiles.specs.RuleTokens.{Token}
use Rattle.hwdb_rulerun.specs.Conditions.{is_own, is_parents}
use Rattle.hwdb_rulerun.specs.Sights.{Sight}
use Rattle.hwdb_rulerun.specs.Telling.{told, line_told}

-- whether an answer is no, if that is looked for, or else no answer
abbrev pub is_meant : (fails : Bool) → Option Bool → Bool
is_meant fails None = not fails
is_meant fails (Some true) = false
is_meant fails (Some false) = fails

-- whether a condition that isn't about parents is told so
abbrev pub is_told_so : (fails : Bool) → Sight → Token → Bool
is_told_so fails s t = if is_own t.kind then is_meant fails (told s t t.kind) else false

-- the first of a line's own conditions that is told so
abbrev pub own_cause : (fails : Bool) → Sight → List Token → List Token
own_cause fails s [] = []
own_cause fails s (t ∷ more) = if is_told_so fails s t then t ∷ [] else own_cause fails s more

-- all conditions about parents: one device has to meet all of them
abbrev pub parents_cause : List Token → List Token
parents_cause tokens = filter (λ t. is_parents t.kind) tokens

-- the first of two lists that isn't empty
abbrev pub first_some : {A : Type 0} → List A → List A → List A
first_some [] others = others
first_some (x ∷ xs) others = x ∷ xs

-- The conditions that decide over a line, if it doesn't hold, or else if nothing is told of it: the first of its own ones that is told so, or
-- all about parents.
abbrev pub cause : (fails : Bool) → Sight → List Token → List Token
cause fails s tokens = first_some (own_cause fails s tokens) (parents_cause tokens)

-- the answer that is looked for
abbrev pub looked_for : (fails : Bool) → Option Bool
looked_for fails = if fails then Some false else None

-- there is one of these
abbrev pub IsThere : {A : Type 0} → List A → Type 0
IsThere [] = ⊥
IsThere (x ∷ xs) = Unit {0}

-- If a line doesn't hold, or nothing is told of it, something decides over that.
abbrev pub CauseIsThere : Type 0
CauseIsThere = (fails : Bool) (s : Sight) (tokens : List Token) → line_told s tokens ≡ looked_for fails → IsThere (cause fails s tokens)
