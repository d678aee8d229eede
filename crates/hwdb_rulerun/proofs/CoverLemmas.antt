-- What is told covers what is asked.
use Rattle.std.proofs.Common.{◌≡◌, Bool, true, false, List, [], ◌∷◌, ◌++◌, refl, ap, ◌∙◌, Option, Some, None, inl}
use Rattle.std.specs.Prelude.{if◌then◌else◌}
use Rattle.hwdb_rulefiles.specs.RuleTokens.{Token}
use Rattle.hwdb_rulerun.specs.Sights.{World}
use Rattle.hwdb_rulerun.specs.Conditions.{line_holds}
use Rattle.hwdb_rulerun.specs.Telling.{line_told}
use Rattle.hwdb_rulerun.specs.Asking.{Told, Covers, asked_runs, told_by, told_runs, is_lookup, runs, goes_on, after}
use Rattle.hwdb_rulerun.specs.Laws.{Says, LookupsAreCovered}
use Rattle.hwdb_rulerun.proofs.ToldLemmas.{told_is_so}

-- nothing that isn't certain has to be asked
none_in : (c certain : Bool) (t : Token) (ts : List Told) → certain ≡ false → Covers ts []
    → Covers ((if c then record { token = t; certain = certain } ∷ [] else []) ++ ts) []
none_in true certain t ts e h = (e, h)
none_in false certain t ts e h = h

uncertain : (r : Bool) → (if r then false else false) ≡ false
uncertain true = refl
uncertain false = refl

none_so : (tokens : List Token) (certain : Bool) → certain ≡ false → Covers (told_runs certain tokens) []
none_so [] certain e = tt
none_so (t ∷ more) certain e =
    none_in (is_lookup t) certain t (told_runs (after certain t) more) e
    (none_so more (after certain t) (ap (λ (x : Bool). if runs t.kind then false else x) e ∙ uncertain (runs t.kind)))

both_in : (c certain : Bool) (t : Token) (ts : List Told) (xs : List Token) → Covers ts xs
    → Covers ((if c then record { token = t; certain = certain } ∷ [] else []) ++ ts) ((if c then t ∷ [] else []) ++ xs)
both_in true certain t ts xs h = inl (refl, h)
both_in false certain t ts xs h = h

-- the line goes on after a token, or it doesn't
rest_so : (r passes certain : Bool) (w : World) (more : List Token) → ((c : Bool) → Covers (told_runs c more) (asked_runs w more))
    → Covers (told_runs (if r then false else certain) more) (if (if r then passes else true) then asked_runs w more else [])
rest_so true true certain w more ih = ih false
rest_so true false certain w more ih = none_so more false refl
rest_so false passes certain w more ih = ih certain

runs_so : (tokens : List Token) (certain : Bool) (w : World) → Covers (told_runs certain tokens) (asked_runs w tokens)
runs_so [] certain w = tt
runs_so (t ∷ more) certain w =
    both_in (is_lookup t) certain t (told_runs (after certain t) more) (if goes_on w t then asked_runs w more else [])
    (rest_so (runs t.kind) (w.passes t 0) certain w more (λ c. runs_so more c w))

by_so : (o : Option Bool) (holds : Bool) (tokens : List Token) (w : World) → Says o holds
    → Covers (told_by o tokens) (if holds then asked_runs w tokens else [])
by_so None true tokens w h = runs_so tokens false w
by_so None false tokens w h = none_so tokens false refl
by_so (Some true) true tokens w h = runs_so tokens true w
by_so (Some true) false tokens w h = absurd (cc)
by_so (Some false) true tokens w h = absurd (cc)
by_so (Some false) false tokens w h = tt

pub lookups_are_covered : LookupsAreCovered
lookups_are_covered s w tokens h = by_so (line_told s tokens) (line_holds w tokens) tokens w (told_is_so s w tokens h)
