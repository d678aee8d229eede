-- What is told is so.
use Rattle.std.proofs.Common.{◌≡◌, ℕ, ◌+◌, Bool, true, false, List, [], ◌∷◌, length, refl, sym, ap, subst, Option, Some, None}
use Rattle.std.specs.Prelude.{if◌then◌else◌, unwrap_or, nat_lt}
use Rattle.hwdb_rulefiles.specs.RuleTokens.{Token}
use Rattle.hwdb_rulefiles.specs.declared.pairs.Operator.{Operator}
use Rattle.hwdb_rulefiles.specs.declared.tokens.TokenKind.{TokenKind}
use Rattle.hwdb_rulefiles.specs.declared.tokens.TokenKind.TheVariants as Kinds
use Rattle.hwdb_rulerun.specs.Matching as text
use Rattle.hwdb_rulerun.specs.Conditions as real
use Rattle.hwdb_rulerun.specs.Telling as tell
use Rattle.hwdb_rulerun.specs.Sights.{Known, Unknown, Missing, Text, Seen, Sight, Device, World, Is, IsSeen, AreSeen, IsSight, attribute_of, property_of}
use Rattle.hwdb_rulerun.specs.Laws.{ParentsAreSo, Says, ToldIsSo}

both : (a b : Option Bool) (p q : Bool) → Says a p → Says b q → Says (tell.and_then a b) (if p then q else false)
both (Some true) b p q h k = subst (λ (x : Bool). Says b (if x then q else false)) (sym h) k
both (Some false) b p q h k = ap (λ (x : Bool). if x then q else false) h
both None (Some false) p q h k = none p q k
  where
    none : (p q : Bool) → q ≡ false → (if p then q else false) ≡ false
    none true q k = k
    none false q k = refl
both None (Some true) p q h k = tt
both None None p q h k = tt

either : (a b : Option Bool) (p q : Bool) → Says a p → Says b q → Says (tell.or_then a b) (if p then true else q)
either (Some true) b p q h k = ap (λ (x : Bool). if x then true else q) h
either (Some false) b p q h k = subst (λ (x : Bool). Says b (if x then true else q)) (sym h) k
either None (Some true) p q h k = one p q k
  where
    one : (p q : Bool) → q ≡ true → (if p then true else q) ≡ true
    one true q k = refl
    one false q k = k
either None (Some false) p q h k = tt
either None None p q h k = tt

by_operator_so : (o : Operator) (t : Option Bool) (other : Bool) → Says (tell.by_operator_told o t) (real.by_operator o (unwrap_or t other))
by_operator_so o None other = tt
by_operator_so o (Some b) other = refl

compared_so : (w : World) (t : Token) (own : List ℕ) → Says (tell.compared t own) (real.compared w t own)
compared_so w t own = by_operator_so t.operator (text.told t.folds t.value own) (w.fnmatch t.folds t.value own)

known_so : (w : World) (t : Token) (k : Known) (truth : Option (List ℕ)) → Is k truth → Says (tell.known_compared t k) (real.compared w t (real.text_of truth))
known_so w t Unknown truth h = tt
known_so w t Missing truth h = subst (λ (x : Option (List ℕ)). Says (tell.compared t []) (real.compared w t (real.text_of x))) (sym h) (compared_so w t [])
known_so w t (Text own) truth h = subst (λ (x : Option (List ℕ)). Says (tell.compared t own) (real.compared w t (real.text_of x))) (sym h) (compared_so w t own)

subsystem_so : (w : World) (t : Token) (own : List ℕ) → Says (tell.subsystem_compared t own) (real.subsystem_compared w t own)
subsystem_so w t own = by (real.is_any_subsystem t.value)
  where
    by : (c : Bool)
        → Says (if c then Some (real.by_operator t.operator (real.is_any_subsystem own)) else tell.compared t own)
        (if c then real.by_operator t.operator (real.is_any_subsystem own) else real.compared w t own)
    by true = refl
    by false = compared_so w t own

known_subsystem_so : (w : World) (t : Token) (k : Known) (truth : Option (List ℕ)) → Is k truth
    → Says (tell.known_subsystem t k) (real.subsystem_compared w t (real.text_of truth))
known_subsystem_so w t Unknown truth h = tt
known_subsystem_so w t Missing truth h =
    subst (λ (x : Option (List ℕ)). Says (tell.subsystem_compared t []) (real.subsystem_compared w t (real.text_of x))) (sym h) (subsystem_so w t [])
known_subsystem_so w t (Text own) truth h =
    subst (λ (x : Option (List ℕ)). Says (tell.subsystem_compared t own) (real.subsystem_compared w t (real.text_of x))) (sym h) (subsystem_so w t own)

long_so : (w : World) (t : Token) (index : ℕ) (own : List ℕ) (c : Bool)
    → Says (if c then None else tell.compared t (real.trimmed t.value own)) (if c then w.passes t index else real.compared w t (real.trimmed t.value own))
long_so w t index own true = tt
long_so w t index own false = compared_so w t (real.trimmed t.value own)

attribute_so : (w : World) (t : Token) (index : ℕ) (k : Known) (truth : Option (List ℕ)) → Is k truth
    → Says (tell.attribute_compared t k) (real.attribute_compared w t index truth)
attribute_so w t index Unknown truth h = tt
attribute_so w t index Missing truth h = ap (real.attribute_compared w t index) h
attribute_so w t index (Text own) truth h =
    subst (λ (x : Option (List ℕ)). Says (tell.attribute_compared t (Text own)) (real.attribute_compared w t index x)) (sym h)
    (long_so w t index own (nat_lt real.attribute_size (length own)))

attribute_told_so : (w : World) (t : Token) (index : ℕ) (s : Seen) (d : Device) → IsSeen s d
    → Says (tell.attribute_told t s) (real.attribute_holds w t index d)
attribute_told_so w t index s d h = by (real.is_plain t.attribute)
  where
    by : (c : Bool)
        → Says (if c then tell.attribute_compared t (attribute_of s t.attribute) else None)
        (if c then real.attribute_compared w t index (d.attribute t.attribute) else w.passes t index)
    by true = attribute_so w t index (attribute_of s t.attribute) (d.attribute t.attribute) (h.attributes t.attribute)
    by false = tt

name_so : (w : World) (t : Token) (s : Seen) (d : Device) → IsSeen s d → Says (tell.compared t s.name) (real.compared w t d.name)
name_so w t s d h = subst (λ (x : List ℕ). Says (tell.compared t s.name) (real.compared w t x)) (sym h.name) (compared_so w t s.name)

told_of_so : (w : World) (t : Token) (index : ℕ) (s : Seen) (d : Device) (k : TokenKind) → IsSeen s d
    → Says (tell.told_of t s k) (real.holds_of w t index d k)
told_of_so w t index s d Kinds.MatchKernel h = name_so w t s d h
told_of_so w t index s d Kinds.ParentsKernel h = name_so w t s d h
told_of_so w t index s d Kinds.MatchSubsystem h = known_subsystem_so w t s.subsystem d.subsystem h.subsystem
told_of_so w t index s d Kinds.ParentsSubsystem h = known_so w t s.subsystem d.subsystem h.subsystem
told_of_so w t index s d Kinds.MatchDriver h = known_so w t s.driver d.driver h.driver
told_of_so w t index s d Kinds.ParentsDriver h = known_so w t s.driver d.driver h.driver
told_of_so w t index s d Kinds.MatchAttr h = attribute_told_so w t index s d h
told_of_so w t index s d Kinds.ParentsAttr h = attribute_told_so w t index s d h
told_of_so w t index s d k h = tt

same_so : (w : World) (t : Token) (own truth : List ℕ) → truth ≡ own → Says (tell.compared t own) (real.compared w t truth)
same_so w t own truth e = subst (λ (x : List ℕ). Says (tell.compared t own) (real.compared w t x)) (sym e) (compared_so w t own)

told_so : (s : Sight) (w : World) (t : Token) (k : TokenKind) → IsSight s w → Says (tell.told s t k) (real.holds w t k)
told_so s w t Kinds.MatchAction h = same_so w t s.action w.action h.action
told_so s w t Kinds.MatchDevpath h = same_so w t s.path w.path h.path
told_so s w t Kinds.MatchEnv h = known_so w t (property_of s t.attribute) (w.property t.attribute) (h.properties t.attribute)
told_so s w t k h = told_of_so w t 0 s.own w.own k h.own

all_own_so : (s : Sight) (w : World) (tokens : List Token) → IsSight s w → Says (tell.all_own s tokens) (real.all_own w tokens)
all_own_so s w [] h = refl
all_own_so s w (t ∷ more) h = by (real.is_own t.kind) (all_own_so s w more h)
  where
    by : (c : Bool) → Says (tell.all_own s more) (real.all_own w more)
        → Says (if c then tell.and_then (tell.told s t t.kind) (tell.all_own s more) else tell.all_own s more)
        (if c then (if real.holds w t t.kind then real.all_own w more else false) else real.all_own w more)
    by true ih = both (tell.told s t t.kind) (tell.all_own s more) (real.holds w t t.kind) (real.all_own w more) (told_so s w t t.kind h) ih
    by false ih = ih

all_of_so : (w : World) (tokens : List Token) (index : ℕ) (s : Seen) (d : Device) → IsSeen s d → Says (tell.all_of s tokens) (real.all_of w tokens index d)
all_of_so w [] index s d h = refl
all_of_so w (t ∷ more) index s d h = by (real.is_parents t.kind) (all_of_so w more index s d h)
  where
    by : (c : Bool) → Says (tell.all_of s more) (real.all_of w more index d)
        → Says (if c then tell.and_then (tell.told_of t s t.kind) (tell.all_of s more) else tell.all_of s more)
        (if c then (if real.holds_of w t index d t.kind then real.all_of w more index d else false) else real.all_of w more index d)
    by true ih =
        both (tell.told_of t s t.kind) (tell.all_of s more) (real.holds_of w t index d t.kind) (real.all_of w more index d) (told_of_so w t index s d t.kind h) ih
    by false ih = ih

as_it_is : (b : Bool) → b ≡ (if b then true else false)
as_it_is true = refl
as_it_is false = refl

nested : (p q r : Bool) → (if (if p then true else q) then true else r) ≡ (if p then true else (if q then true else r))
nested true q r = refl
nested false q r = refl

some_so : (w : World) (tokens : List Token) (index : ℕ) (before : Option Bool) (p : Bool) (ss : List Seen) (ds : List Device) → Says before p → AreSeen ss ds
    → Says (tell.some_from before tokens ss) (if p then true else real.some_parent w tokens index ds)
some_so w tokens index before p [] [] k h = subst (λ (x : Bool). Says before x) (as_it_is p) k
some_so w tokens index before p [] (d ∷ ds) k h = absurd h
some_so w tokens index before p (s ∷ ss) [] k h = absurd h
some_so w tokens index before p (s ∷ ss) (d ∷ ds) k h =
    let a : Option Bool = tell.or_then before (tell.all_of s tokens) in
    let q : Bool = real.all_of w tokens index d in
    let r : Bool = real.some_parent w tokens (index + 1) ds in
    subst (λ (x : Bool). Says (tell.some_from a tokens ss) x) (nested p q r)
    (some_so w tokens (index + 1) a (if p then true else q) ss ds (either before (tell.all_of s tokens) p q k (all_of_so w tokens index s d h.0)) h.1)

pub told_is_so : ToldIsSo
told_is_so s w tokens h =
    both (tell.all_own s tokens) _ (real.all_own w tokens) _ (all_own_so s w tokens h) (by (real.has_parents tokens))
  where
    by : (c : Bool) → Says (if c then tell.some_parent s tokens else Some true) (if c then real.some_parent w tokens 0 (w.own ∷ w.parents) else true)
    by true =
        some_so w tokens (0 + 1) (tell.all_of s.own tokens) (real.all_of w tokens 0 w.own) s.parents w.parents (all_of_so w tokens 0 s.own w.own h.own) h.parents
    by false = refl

pub parents_are_so : ParentsAreSo
parents_are_so s w tokens index d h = all_of_so w tokens index s d h
