-- What is said of a property, one change after the other.
use Rattle.std.proofs.Common.{◌≡◌, ◌∙◌, ◌++◌, ◌∷◌, [], List, true, map, refl, sym, ap, Option, Some, None}
use Rattle.std.proofs.lemmas.List.{map-append}
use Rattle.hwdb_rulefiles.specs.RuleKeys.{or_else}
use Rattle.hwdb_rulerun.specs.Sights.{Known}
use Rattle.hwdb_ruleevents.specs.Changes.{Change, by_sure}
use Rattle.hwdb_ruleevents.specs.declared.changes.Held.{Held}

pub both_said : (a b c : Option Known) → or_else (or_else a b) c ≡ or_else a (or_else b c)
both_said None b c = refl
both_said (Some x) b c = refl

pub no_other : (a : Option Known) → or_else a None ≡ a
no_other None = refl
no_other (Some x) = refl

all_sure : (cs : List Change) → by_sure true cs ≡ cs
all_sure [] = refl
all_sure (c ∷ more) = ap (λ (x : List Change). c ∷ x) (all_sure more)

-- changes that are sure, after others
pub all_put : (f : Held → Change) (old new next : List Held) → next ≡ old ++ new → map f next ≡ map f old ++ by_sure true (map f new)
all_put f old new next e =
    ap (map f) e ∙ map-append f old new ∙ ap (λ (x : List Change). map f old ++ x) (sym (all_sure (map f new)))
