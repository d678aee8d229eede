-- What is told covers what is asked.
use Rattle.std.proofs.Common.{◌≡◌, ℕ, ◌+◌, Bool, true, false, List, [], ◌∷◌, ◌++◌, map, refl, sym, ap, subst, ◌∙◌, Option, Some, None, ◌⊎◌, inl, inr, ◌||◌}
use Rattle.std.specs.Prelude.{if◌then◌else◌, codes, is_some, unwrap_or, nat_eq, filter, not}
use Rattle.std.specs.List.{starts_with, list_any}
use Rattle.std.specs.Str.{bytes_eq}
use Rattle.hwdb_spec.specs.Lines.{is_none}
use Rattle.hwdb_rulefiles.specs.RuleKeys.{or_else}
use Rattle.hwdb_rulefiles.specs.RuleTokens.{Token, is_word}
use Rattle.hwdb_rulefiles.specs.RuleLines.{RuleLine}
use Rattle.hwdb_rulefiles.specs.declared.pairs.Operator.{Operator}
use Rattle.hwdb_rulefiles.specs.declared.tokens.TokenKind.{TokenKind}
use Rattle.hwdb_rulefiles.specs.declared.tokens.TokenKind.TheVariants as Kinds
use Rattle.hwdb_rulerun.specs.Asking.{runs, is_lookup}
use Rattle.hwdb_rulerun.specs.Conditions.{by_operator, line_holds}
use Rattle.hwdb_rulerun.specs.Laws.{Says}
use Rattle.hwdb_rulefiles.specs.Escapes.{onto}
use Rattle.hwdb_rulerun.specs.Conditions.{all_of, has_parents, text_of as text_in}
use Rattle.hwdb_rulerun.specs.Sights.{Known, Unknown, Missing, Text, AreSeen, Device, Is, IsSight, Seen, Sight, World, attribute_of, entry_of}
use Rattle.hwdb_rulerun.specs.Telling.{and_then, by_operator_told, line_told}
use Rattle.std.proofs.lemmas.Slice.Eq.{bytes_eq-Decides}
use Rattle.hwdb_rulerun.specs.Laws.{ParentsAreSo, ToldIsSo}
use Rattle.hwdb_rulerun.specs.Telling.{all_of as all_of_told}
use Rattle.hwdb_ruleevents.specs.Parents.{Chosen, Anyone, Nobody, One, IsChosen, by_reached, first_of, first_told, first_tokens, is_for_all, one_of, parent_after, parent_after_told, parent_in, parent_told}
use Rattle.hwdb_ruleevents.specs.Changes.{Properties, Change, Put, Open, Agrees, Becomes, said, said_in, value_in, by_sure, perhaps}
use Rattle.hwdb_ruleevents.specs.Effects as known
use Rattle.hwdb_ruleevents.specs.Effects.{Effect, Knowledge}
use Rattle.hwdb_ruleevents.specs.Pieces.{Piece, Byte, Stands, pieces}
use Rattle.hwdb_ruleevents.specs.Texts as texts
use Rattle.hwdb_ruleevents.specs.Texts.{Meaning, text_told}
use Rattle.hwdb_ruleevents.specs.declared.pieces.Variable.{Variable}
use Rattle.hwdb_ruleevents.specs.declared.pieces.Variable.TheVariants as Variables
use Rattle.hwdb_ruleevents.specs.Events as real
use Rattle.hwdb_ruleevents.specs.Events.{Event, Turn, turn, Ask, Done}
use Rattle.hwdb_ruleevents.specs.Telling as tell
use Rattle.hwdb_ruleevents.specs.Telling.{Told, Tale, Ways}
use Rattle.hwdb_ruleevents.proofs.ChangeLemmas.{both_said, no_other}
use Rattle.hwdb_ruleevents.proofs.JumpLemmas.{IsAt, IsLater, Later, some_wait, arrived_so, later_so, jumped_so, waits_on, at_label}
use Rattle.hwdb_ruleevents.specs.Laws.{IsEffect, IsKnown, IsText, Covers, EventsAreCovered, AreAll, AreCertain, EventsAreExact}

-- properties after changes

said_after : (old new : List Change) (name : List ℕ) → said_in (old ++ new) name ≡ or_else (said_in new name) (said_in old name)
said_after [] new name = sym (no_other (said_in new name))
said_after (c ∷ more) new name =
    ap (λ (x : Option Known). or_else x (said c name)) (said_after more new name) ∙ both_said (said_in new name) (said_in more name) (said c name)

-- something is said, but not what
abbrev unsaid : Option Known → Option Known
unsaid None = None
unsaid (Some value) = Some Unknown

perhaps_said : (cs : List Change) (name : List ℕ) → said_in (by_sure false cs) name ≡ unsaid (said_in cs name)
perhaps_said [] name = refl
perhaps_said (c ∷ more) name =
    ap (λ (x : Option Known). or_else x (said (perhaps c) name)) (perhaps_said more name)
    ∙ ap (or_else (unsaid (said_in more name))) (one c)
    ∙ both (said_in more name) (said c name)
  where
    put : (c : Bool) (value : Known) → (if c then Some Unknown else None) ≡ unsaid (if c then Some value else None)
    put true value = refl
    put false value = refl

    one : (c : Change) → said (perhaps c) name ≡ unsaid (said c name)
    one (Put own value) = put (bytes_eq own name) value
    one (Open start) = put (starts_with nat_eq name start) Unknown

    both : (a b : Option Known) → or_else (unsaid a) (unsaid b) ≡ unsaid (or_else a b)
    both None b = refl
    both (Some x) b = refl

put_so : (new old : Option Known) (before after : Option (List ℕ)) → Is (unwrap_or old Missing) before → Becomes new before after
    → Is (unwrap_or (or_else new old) Missing) after
put_so None old before after h b = subst (λ (x : Option (List ℕ)). Is (unwrap_or old Missing) x) (sym b) h
put_so (Some value) old before after h b = b

perhaps_so : (new old : Option Known) (before now : Option (List ℕ)) → Is (unwrap_or old Missing) before → (now ≡ before) ⊎ Becomes new before now
    → Is (unwrap_or (or_else (unsaid new) old) Missing) now
perhaps_so None old before now h b =
    elim b [
      | inl e ↦ subst (λ (x : Option (List ℕ)). Is (unwrap_or old Missing) x) (sym e) h
      | inr e ↦ subst (λ (x : Option (List ℕ)). Is (unwrap_or old Missing) x) (sym e) h
    ]
perhaps_so (Some value) old before now h b = tt

is_after : (old new : List Change) (name : List ℕ) (truth : Option (List ℕ))
    → Is (unwrap_or (or_else (said_in new name) (said_in old name)) Missing) truth → Is (value_in (old ++ new) name) truth
is_after old new name truth h = subst (λ (x : Option Known). Is (unwrap_or x Missing) truth) (sym (said_after old new name)) h

is_perhaps : (old new : List Change) (name : List ℕ) (truth : Option (List ℕ))
    → Is (unwrap_or (or_else (unsaid (said_in new name)) (said_in old name)) Missing) truth → Is (value_in (old ++ by_sure false new) name) truth
is_perhaps old new name truth h =
    is_after old (by_sure false new) name truth
    (subst (λ (x : Option Known). Is (unwrap_or (or_else x (said_in old name)) Missing) truth) (sym (perhaps_said new name)) h)

all_sure : (cs : List Change) → by_sure true cs ≡ cs
all_sure [] = refl
all_sure (c ∷ more) = ap (λ (x : List Change). c ∷ x) (all_sure more)

changes_so : (sure : Bool) (cs old : List Change) (p q : Properties) → Agrees old p → ((name : List ℕ) → Becomes (said_in cs name) (p name) (q name))
    → Agrees (old ++ by_sure sure cs) q
changes_so true cs old p q h b =
    λ name. subst (λ (x : List Change). Is (value_in (old ++ x) name) (q name)) (sym (all_sure cs))
    (is_after old cs name (q name) (put_so (said_in cs name) (said_in old name) (p name) (q name) (h name) (b name)))
changes_so false cs old p q h b =
    λ name. is_perhaps old cs name (q name) (perhaps_so (said_in cs name) (said_in old name) (p name) (q name) (h name) (inr (b name)))

unchanged_so : (sure : Bool) (cs old : List Change) (p : Properties) → sure ≡ false → Agrees old p → Agrees (old ++ by_sure sure cs) p
unchanged_so true cs old p e h = absurd (cc)
unchanged_so false cs old p e h =
    λ name. is_perhaps old cs name (p name) (perhaps_so (said_in cs name) (said_in old name) (p name) (p name) (h name) (inl refl))

-- effects of tokens

any_name : (name : List ℕ) → starts_with nat_eq name [] ≡ true
any_name [] = refl
any_name (b ∷ rest) = refl

opened : (name : List ℕ) (before after : Option (List ℕ)) → Becomes (said_in (Open [] ∷ []) name) before after
opened name before after = by (starts_with nat_eq name []) (any_name name)
  where
    by : (c : Bool) → c ≡ true → Becomes (if c then Some Unknown else None) before after
    by true e = tt
    by false e = absurd (cc)

-- texts

-- a text that is told is followed, and is so
abbrev IsFollowed : (told truth : Option (List ℕ)) → Type 0
IsFollowed None truth = Unit {0}
IsFollowed (Some text) truth = truth ≡ Some text

onto_so : (told truth : Option (List ℕ)) (front : List ℕ) → IsFollowed told truth → IsFollowed (onto front told) (onto front truth)
onto_so None truth front h = tt
onto_so (Some text) truth front h = ap (onto front) h

joined_so : (told truth more rest : Option (List ℕ)) → IsFollowed told truth → IsFollowed more rest → IsFollowed (texts.joined told more) (texts.joined truth rest)
joined_so None truth more rest h k = tt
joined_so (Some text) truth more rest h k =
    subst (λ (x : Option (List ℕ)). IsFollowed (onto text more) (texts.joined x rest)) (sym h) (onto_so more rest text k)

abbrev AreFollowed : (told truth : Meaning) → Type 0
AreFollowed told truth = (variable : Variable) (argument : List ℕ) → IsFollowed (told variable argument) (truth variable argument)

piece_so : (told truth : Meaning) (p : Piece) → AreFollowed told truth → IsFollowed (texts.piece_text told p) (texts.piece_text truth p)
piece_so told truth (Byte b) h = refl
piece_so told truth (Stands variable argument) h = h variable argument

pieces_so : (told truth : Meaning) (ps : List Piece) → AreFollowed told truth → IsFollowed (texts.text_of told ps) (texts.text_of truth ps)
pieces_so told truth [] h = refl
pieces_so told truth (p ∷ more) h =
    joined_so (texts.piece_text told p) (texts.piece_text truth p) (texts.text_of told more) (texts.text_of truth more) (piece_so told truth p h)
    (pieces_so told truth more h)

within_so : (room : ℕ) (told truth : Option (List ℕ)) → IsFollowed told truth → IsFollowed (texts.within room told) (texts.within room truth)
within_so room None truth h = tt
within_so room (Some text) truth h = subst (λ (x : Option (List ℕ)). IsFollowed (texts.within room (Some text)) (texts.within room x)) (sym h) (same (texts.within room (Some text)))
  where
    same : (x : Option (List ℕ)) → IsFollowed x x
    same None = tt
    same (Some y) = refl

value_text_so : (told truth : Meaning) (kind : TokenKind) (value : List ℕ) → AreFollowed told truth
    → IsFollowed (texts.value_text told kind value) (texts.value_text truth kind value)
value_text_so told truth kind value h = by (texts.is_verbatim kind)
  where
    by : (c : Bool)
        → IsFollowed (if c then Some value else texts.within (texts.room kind) (texts.text_of told (pieces value)))
        (if c then Some value else texts.within (texts.room kind) (texts.text_of truth (pieces value)))
    by true = refl
    by false = within_so (texts.room kind) _ _ (pieces_so told truth (pieces value) h)

property_so : (known : Known) (truth : Option (List ℕ)) → Is known truth → IsFollowed (texts.known_text known) (Some (text_in truth))
property_so Unknown truth h = tt
property_so Missing truth h = ap (λ (x : Option (List ℕ)). Some (text_in x)) h
property_so (Text text) truth h = ap (λ (x : Option (List ℕ)). Some (text_in x)) h

other_so : (known : Known) (truth : Option (List ℕ)) → Is known truth → IsFollowed (texts.other_told known) (Some (texts.other_text truth))
other_so Unknown truth h = tt
other_so Missing truth h = ap (λ (x : Option (List ℕ)). Some (texts.other_text x)) h
other_so (Text text) truth h = ap (λ (x : Option (List ℕ)). Some (texts.other_text x)) h

own_so : (known : Known) (truth told other : Option (List ℕ)) → Is known truth → IsFollowed told other
    → IsFollowed (texts.own_told known told) (real.own_text truth other)
own_so Unknown truth told other h f = tt
own_so Missing truth told other h f = subst (λ (x : Option (List ℕ)). IsFollowed told (real.own_text x other)) (sym h) f
own_so (Text text) truth told other h f =
    subst (λ (x : Option (List ℕ)). IsFollowed (texts.attribute_text text) (real.own_text x other)) (sym h) (same (texts.attribute_text text))
  where
    same : (x : Option (List ℕ)) → IsFollowed x x
    same None = tt
    same (Some y) = refl

parent_attribute_so : (c : Chosen) (d : Option Device) (name : List ℕ) → IsChosen c d
    → IsFollowed (texts.parent_attribute_told c name) (real.parent_attribute d name)
parent_attribute_so Anyone d name h = tt
parent_attribute_so Nobody d name h = ap (λ (x : Option Device). real.parent_attribute x name) h
parent_attribute_so (One s) None name h = absurd h
parent_attribute_so (One s) (Some d) name h = own_so (attribute_of s name) (d.attribute name) (Some []) (Some []) (h.attributes name) refl

parent_name_so : (c : Chosen) (d : Option Device) → IsChosen c d → IsFollowed (texts.parent_name_told c) (Some (real.parent_name d))
parent_name_so Anyone d h = tt
parent_name_so Nobody d h = ap (λ (x : Option Device). Some (real.parent_name x)) h
parent_name_so (One s) None h = absurd h
parent_name_so (One s) (Some d) h = ap Some h.name

parent_driver_so : (c : Chosen) (d : Option Device) → IsChosen c d → IsFollowed (texts.parent_driver_told c) (Some (real.parent_driver d))
parent_driver_so Anyone d h = tt
parent_driver_so Nobody d h = ap (λ (x : Option Device). Some (real.parent_driver x)) h
parent_driver_so (One s) None h = absurd h
parent_driver_so (One s) (Some d) h = property_so s.driver d.driver h.driver

attribute_so : (k : Knowledge) (e : Event) (argument : List ℕ) → IsKnown k e
    → IsFollowed (texts.attribute_told k argument) (real.attribute_meaning e argument)
attribute_so k e argument h = by (texts.names_other argument)
  where
    by : (c : Bool)
        → IsFollowed (if c then texts.other_told (entry_of argument Unknown k.others) else texts.own_told (attribute_of k.sight.own argument) (texts.parent_attribute_told k.parent argument))
        (if c then Some (texts.other_text (e.other argument)) else real.own_text (e.world.own.attribute argument) (real.parent_attribute e.parent argument))
    by true = other_so (entry_of argument Unknown k.others) (e.other argument) (h.others argument)
    by false =
        own_so (attribute_of k.sight.own argument) (e.world.own.attribute argument) (texts.parent_attribute_told k.parent argument)
        (real.parent_attribute e.parent argument) (h.own.attributes argument) (parent_attribute_so k.parent e.parent argument h.parent)

meaning_so : (k : Knowledge) (e : Event) (cs : List Change) (p : Properties) → IsKnown k e → Agrees cs p
    → AreFollowed (texts.meaning_told k cs) (real.meaning e p)
meaning_so k e cs p h a Variables.Kernel argument = ap Some h.own.name
meaning_so k e cs p h a Variables.Number argument = ap (λ (x : List ℕ). Some (texts.number x)) h.own.name
meaning_so k e cs p h a Variables.Devpath argument = ap Some h.path
meaning_so k e cs p h a Variables.Env argument = property_so (value_in cs argument) (p argument) (a argument)
meaning_so k e cs p h a Variables.Attr argument = attribute_so k e argument h
meaning_so k e cs p h a Variables.Id argument = parent_name_so k.parent e.parent h.parent
meaning_so k e cs p h a Variables.Driver argument = parent_driver_so k.parent e.parent h.parent
meaning_so k e cs p h a Variables.Root argument = refl
meaning_so k e cs p h a Variables.Sys argument = refl
meaning_so k e cs p h a variable argument = tt

text_so : (k : Knowledge) (e : Event) (cs : List Change) (p : Properties) (t : Token) → IsKnown k e → Agrees cs p
    → IsFollowed (text_told k cs t) (real.followed e p t)
text_so k e cs p t h a = value_text_so (texts.meaning_told k cs) (real.meaning e p) t.kind t.value (meaning_so k e cs p h a)

is_text : (told truth : Option (List ℕ)) (other : List ℕ) → IsFollowed told truth → IsText told (unwrap_or truth other)
is_text None truth other h = tt
is_text (Some text) truth other h = ap (λ (x : Option (List ℕ)). unwrap_or x other) h

known_so : (v : Option (List ℕ)) → Is (known.known_value v) v
known_so None = refl
known_so (Some text) = refl

kept_so : (v other : Option (List ℕ)) → Is (known.kept v) (if known.is_value_as_is v then v else other)
kept_so v other = by (known.is_value_as_is v)
  where
    by : (c : Bool) → Is (if c then known.known_value v else Unknown) (if c then v else other)
    by true = known_so v
    by false = tt

added_so : (old : Known) (truth other : Option (List ℕ)) (text : List ℕ) → Is old truth
    → Is (known.added_told old text) (if known.is_value_as_is (known.added truth text) then known.added truth text else other)
added_so Unknown truth other text h = tt
added_so Missing truth other text h =
    subst (λ (x : Option (List ℕ)). Is (known.kept (known.some_text text)) (if known.is_value_as_is (known.added x text) then known.added x text else other))
    (sym h) (kept_so (known.some_text text) other)
added_so (Text own) truth other text h = tt

set_so : (o : Operator) (text : Option (List ℕ)) (actual : List ℕ) (old : Known) (truth other : Option (List ℕ)) → IsText text actual → Is old truth
    → Is (known.set_told o text old)
    (let v = (if known.is_add o then known.added truth actual else known.some_text actual) in if known.is_value_as_is v then v else other)
set_so o None actual old truth other s h = tt
set_so o (Some text) actual old truth other s h =
    subst (λ (x : List ℕ). Is (known.set_told o (Some text) old)
    (let v = (if known.is_add o then known.added truth x else known.some_text x) in if known.is_value_as_is v then v else other)) (sym s) (by (known.is_add o))
  where
    by : (c : Bool)
        → Is (if c then known.added_told old text else known.kept (known.some_text text))
        (let v = (if c then known.added truth text else known.some_text text) in if known.is_value_as_is v then v else other)
    by true = added_so old truth other text h
    by false = kept_so (known.some_text text) other

assigned_so : (o : Operator) (value : List ℕ) (text : Option (List ℕ)) (actual : List ℕ) (old : Known) (truth other : Option (List ℕ)) → IsText text actual
    → Is old truth
    → Is (known.assigned_told o value text old)
    (let v = known.assigned o value actual truth in if is_none value then v else (if known.is_value_as_is v then v else other))
assigned_so o value text actual old truth other s h = by (is_none value)
  where
    none : (c : Bool) → Is (if c then old else Missing) (if c then truth else None)
    none true = h
    none false = refl

    by : (c : Bool)
        → Is (if c then (if known.is_add o then old else Missing) else known.set_told o text old)
        (let v =
        (if c then (if known.is_add o then truth else None) else (if known.is_add o then known.added truth actual else known.some_text actual)) in
        if c then v else (if known.is_value_as_is v then v else other))
    by true = none (known.is_add o)
    by false = set_so o text actual old truth other s h

text_is : (k : Knowledge) (e : Event) (n : Turn) (cs : List Change) (p : Properties) (t : Token) → IsKnown k e → Agrees cs p
    → IsText (text_told k cs t) (real.text_at e n p t)
text_is k e n cs p t h a = is_text (text_told k cs t) (real.followed e p t) (e.text (real.moment e n) p t) (text_so k e cs p t h a)

named_so : (name : List ℕ) (value : Known) (truth : Option (List ℕ)) → Is value truth → Is (known.known_as name value) truth
named_so name value truth h = by (known.is_name name)
  where
    by : (c : Bool) → Is (if c then value else Unknown) truth
    by true = h
    by false = tt

value_so : (k : Knowledge) (e : Event) (n : Turn) (p : Properties) (t : Token) (cs : List Change) → IsKnown k e → Agrees cs p
    → Is (tell.new_known cs t (text_told k cs t)) (real.new_value e n p t)
value_so k e n p t cs h a =
    named_so t.attribute _ (real.new_value e n p t) (assigned_so t.operator t.value (text_told k cs t) (real.text_at e n p t) (value_in cs t.attribute) (p t.attribute) (e.sets (real.moment e n) p t t.attribute)
    (text_is k e n cs p t h a) (a t.attribute))

env_so : (own name : List ℕ) (value : Known) (new before : Option (List ℕ)) → Is value new
    → Becomes (said_in (Put own value ∷ []) name) before (if bytes_eq own name then new else before)
env_so own name value new before h = by (bytes_eq own name)
  where
    by : (c : Bool) → Becomes (if c then Some value else None) before (if c then new else before)
    by true = h
    by false = refl

effect_so : (k : Knowledge) (e : Event) (n : Turn) (p : Properties) (t : Token) (cs : List Change) → IsKnown k e → Agrees cs p
    → IsEffect (tell.effect_told k cs t) (e.passes (real.moment e n) p t 0) p (real.after e n p t)
effect_so k e n p t cs h a = by (known.is_env t.kind) refl
  where
    by : (c : Bool) → known.is_env t.kind ≡ c
        → IsEffect (if c then tell.env_effect cs t (text_told k cs t) else known.effect_of k cs t (text_told k cs t)) (e.passes (real.moment e n) p t 0) p
        (if c then real.with_value p t.attribute (real.new_value e n p t) else e.sets (real.moment e n) p t)
    by true i = record {
      succeeds = tt;
      changes = λ name. env_so t.attribute name _ (real.new_value e n p t) (p name) (value_so k e n p t cs h a);
    }
    by false i =
        h.effects e.parent n p cs t (text_told k cs t) i a (text_is k e n cs p t h a)

turned_so : (o : Operator) (told : Option Bool) (succeeds : Bool) → Says told succeeds → Says (by_operator_told o told) (by_operator o succeeds)
turned_so o None succeeds h = tt
turned_so o (Some told) succeeds h = ap (by_operator o) h

plain_none : (kind : TokenKind) → (known.plain_of kind).succeeds ≡ None
plain_none Kinds.Tag = refl
plain_none Kinds.Devlink = refl
plain_none kind = refl

other_none : (kind : TokenKind) → (known.other_effect kind None).succeeds ≡ None
other_none kind = by (known.imports kind)
  where
    by : (c : Bool) → (if c then known.anything else known.plain_of kind).succeeds ≡ None
    by true = refl
    by false = plain_none kind

-- nothing is known of what is run if its text isn't
effect_none : (k : Knowledge) (cs : List Change) (t : Token) → (known.effect_of k cs t None).succeeds ≡ None
effect_none k cs t = by (known.is_command t.kind)
  where
    by : (c : Bool) → (if c then known.by_text None (k.commands t None cs) else known.other_effect t.kind None).succeeds ≡ None
    by true = refl
    by false = other_none t.kind

unread_none : (k : Knowledge) (cs : List Change) (t : Token) → text_told k cs t ≡ None → (tell.effect_told k cs t).succeeds ≡ None
unread_none k cs t e = by (known.is_env t.kind)
  where
    by : (c : Bool) → (if c then tell.env_effect cs t (text_told k cs t) else known.effect_of k cs t (text_told k cs t)).succeeds ≡ None
    by true = refl
    by false = ap (λ (x : Option (List ℕ)). (known.effect_of k cs t x).succeeds) e ∙ effect_none k cs t

cut_so : (o : Operator) (text truth : Option (List ℕ)) (told : Option Bool) (cuts succeeds : Bool) → IsFollowed text truth → (text ≡ None → told ≡ None)
    → Says told succeeds → Says (by_operator_told o told) (if (if is_some truth then false else cuts) then false else by_operator o succeeds)
cut_so o (Some text) truth told cuts succeeds f n h =
    subst (λ (x : Option (List ℕ)). Says (by_operator_told o told) (if (if is_some x then false else cuts) then false else by_operator o succeeds)) (sym f)
    (turned_so o told succeeds h)
cut_so o None truth told cuts succeeds f n h =
    subst (λ (x : Option Bool). Says (by_operator_told o x) (if (if is_some truth then false else cuts) then false else by_operator o succeeds)) (sym (n refl)) tt

passes_so : (k : Knowledge) (e : Event) (n : Turn) (p : Properties) (t : Token) (cs : List Change) → IsKnown k e → Agrees cs p
    → Says (tell.passes_told t (tell.effect_told k cs t)) (real.goes_on e n p t)
passes_so k e n p t cs h a = by (runs t.kind)
  where
    by : (c : Bool)
        → Says (if c then by_operator_told t.operator (tell.effect_told k cs t).succeeds else Some true) (if c then real.goes_on_after e n p t else true)
    by true =
        cut_so t.operator (text_told k cs t) (real.followed e p t) (tell.effect_told k cs t).succeeds (e.cuts (real.moment e n) p t) (e.passes (real.moment e n) p t 0)
        (text_so k e cs p t h a) (unread_none k cs t) (effect_so k e n p t cs h a).succeeds
    by false = refl

-- lookups

skip_one : (t : Told) (ts : List Told) (xs : List Ask) → t.certain ≡ false → Covers ts xs → Covers (t ∷ ts) xs
skip_one t ts [] e h = (e, h)
skip_one t ts (x ∷ xs) e h = inr (e, h)

covers_both : (ts us : List Told) (xs ys : List Ask) → Covers ts xs → Covers us ys → Covers (ts ++ us) (xs ++ ys)
covers_both [] us [] ys h k = k
covers_both [] us (x ∷ xs) ys h k = absurd h
covers_both (t ∷ ts) us [] ys h k = skip_one t (ts ++ us) ys h.0 (covers_both ts us [] ys h.1 k)
covers_both (t ∷ ts) us (x ∷ xs) ys h k =
    elim h [ inl a ↦ inl (a.0, covers_both ts us xs ys a.1 k) | inr b ↦ inr (b.0, covers_both ts us (x ∷ xs) ys b.1 k) ]

ask_so : (sure cuts : Bool) (n : Turn) (t : Token) (o truth : Option (List ℕ)) (unread : List ℕ) (known : Known) (alias : Option (List ℕ)) (ts : List Told) (xs : List Ask)
    → IsFollowed o truth → Is known alias → Covers ts xs
    → Covers (record { at = n; token = t; text = o; alias = known; certain = tell.is_certain sure o } ∷ ts)
    ((if (if is_some truth then false else cuts) then [] else record { at = n; token = t; text = unwrap_or truth unread; alias = alias } ∷ []) ++ xs)
ask_so sure cuts n t (Some text) truth unread known alias ts xs f i h =
    subst (λ (x : Option (List ℕ)). Covers (record { at = n; token = t; text = Some text; alias = known; certain = sure } ∷ ts)
    ((if (if is_some x then false else cuts) then [] else record { at = n; token = t; text = unwrap_or x unread; alias = alias } ∷ []) ++ xs)) (sym f)
    (inl (record { at = refl; token = refl; text = refl; alias = i }, h))
ask_so sure cuts n t None truth unread known alias ts xs f i h = by (if is_some truth then false else cuts)
  where
    by : (c : Bool)
        → Covers (record { at = n; token = t; text = None; alias = known; certain = false } ∷ ts)
        ((if c then [] else record { at = n; token = t; text = unwrap_or truth unread; alias = alias } ∷ []) ++ xs)
    by true = skip_one _ ts xs refl h
    by false = inl (record { at = refl; token = refl; text = tt; alias = i }, h)

asks_so : (k : Knowledge) (sure : Bool) (e : Event) (n : Turn) (cs : List Change) (p : Properties) (t : Token) (ts : List Told) (xs : List Ask) → IsKnown k e
    → Agrees cs p → Covers ts xs → Covers (tell.told_in k cs sure n t ++ ts) (real.ask_in e n p t ++ xs)
asks_so k sure e n cs p t ts xs i a h = by (is_lookup t)
  where
    by : (c : Bool)
        → Covers ((if c then record { at = n; token = t; text = text_told k cs t; alias = tell.alias_told cs; certain = tell.is_certain sure (text_told k cs t) } ∷ [] else []) ++ ts)
        ((if c then real.asked_in e n p t else []) ++ xs)
    by true = ask_so sure (e.cuts (real.moment e n) p t) n t (text_told k cs t) (real.followed e p t) (e.text (real.moment e n) p t) (tell.alias_told cs) (p (codes "MODALIAS")) ts xs (text_so k e cs p t i a) (a (codes "MODALIAS")) h
    by false = h

uncertain : (sure : Bool) (o : Option (List ℕ)) → sure ≡ false → tell.is_certain sure o ≡ false
uncertain sure None e = refl
uncertain sure (Some text) e = e

none_so : (k : Knowledge) (cs : List Change) (sure : Bool) (n : Turn) (t : Token) (ts : List Told) → sure ≡ false → Covers ts []
    → Covers (tell.told_in k cs sure n t ++ ts) []
none_so k cs sure n t ts e h = by (is_lookup t)
  where
    by : (c : Bool)
        → Covers ((if c then record { at = n; token = t; text = text_told k cs t; alias = tell.alias_told cs; certain = tell.is_certain sure (text_told k cs t) } ∷ [] else []) ++ ts) []
    by true = (uncertain sure (text_told k cs t) e, h)
    by false = h

-- tokens

-- a tale is so of what was done
record Tells (tale : Tale) (d : Done) : Type 0 where
  told : Covers tale.told d.asks
  passed : Says tale.passed d.passed
  changes : Agrees tale.changes d.properties

-- a tale is so if nothing was done
record Skips (tale : Tale) (p : Properties) : Type 0 where
  told : Covers tale.told []
  changes : Agrees tale.changes p

unsure : (sure : Bool) (passes : Option Bool) → sure ≡ false → tell.is_sure sure passes ≡ false
unsure sure None e = refl
unsure sure (Some b) e = e

skip_tokens : (k : Knowledge) (sure : Bool) (n : Turn) (cs : List Change) (p : Properties) (tokens : List Token) → sure ≡ false → Agrees cs p
    → Skips (tell.tell_tokens k sure n cs tokens) p
skip_tokens k sure n cs p [] e h = record { told = tt; changes = h }
skip_tokens k sure n cs p (t ∷ more) e h =
    let effect = tell.effect_told k cs t in
    let passes = tell.passes_told t effect in
    let next = cs ++ by_sure sure effect.changes in
    let a = unchanged_so sure effect.changes cs p e h in
    by (tell.is_no passes) passes next a (skip_tokens k (tell.is_sure sure passes) n next p more (unsure sure passes e) a)
  where
    by : (c : Bool) (passes : Option Bool) (next : List Change) → Agrees next p → Skips (tell.tell_tokens k (tell.is_sure sure passes) n next more) p
        → Skips (tell.told_before (tell.told_in k cs sure n t) passes (if c then tell.ended false next else tell.tell_tokens k (tell.is_sure sure passes) n next more)) p
    by true passes next a ih = record { told = none_so k cs sure n t [] e tt; changes = a }
    by false passes next a ih = record {
      told = none_so k cs sure n t (tell.tell_tokens k (tell.is_sure sure passes) n next more).told e ih.told;
      changes = ih.changes;
    }

and_none : (a : Option Bool) (q : Bool) → Says a q → Says (and_then None a) q
and_none None q h = tt
and_none (Some true) q h = tt
and_none (Some false) q h = h

not_passed : (a : Option Bool) → Says (and_then None a) false
not_passed None = tt
not_passed (Some true) = tt
not_passed (Some false) = refl

-- what comes after a condition, or after something that was run
join_so : (k : Knowledge) (e : Event) (sure : Bool) (n : Turn) (cs : List Change) (p : Properties) (tokens : List Token) (passes : Option Bool) (goes : Bool)
    → Says passes goes → Agrees cs p
    → ((certain : Bool) → Tells (tell.tell_tokens k certain n cs tokens) (real.run_tokens e n p tokens))
    → Tells (tell.told_before [] passes (if tell.is_no passes then tell.ended false cs else tell.tell_tokens k (tell.is_sure sure passes) n cs tokens))
    (if goes then real.run_tokens e n p tokens else real.stopped false p)
join_so k e sure n cs p tokens None true s a ih =
    let h = ih false in
    record { told = h.told; passed = and_none (tell.tell_tokens k false n cs tokens).passed _ h.passed; changes = h.changes }
join_so k e sure n cs p tokens None false s a ih =
    let h = skip_tokens k false n cs p tokens refl a in
    record { told = h.told; passed = not_passed (tell.tell_tokens k false n cs tokens).passed; changes = h.changes }
join_so k e sure n cs p tokens (Some true) true s a ih =
    let h = ih sure in
    record { told = h.told; passed = h.passed; changes = h.changes }
join_so k e sure n cs p tokens (Some true) false s a ih = absurd (cc)
join_so k e sure n cs p tokens (Some false) true s a ih = absurd (cc)
join_so k e sure n cs p tokens (Some false) false s a ih = record { told = tt; passed = refl; changes = a }

run_tokens_so : (k : Knowledge) (e : Event) (sure : Bool) (n : Turn) (cs : List Change) (p : Properties) (tokens : List Token) → IsKnown k e → Agrees cs p
    → Tells (tell.tell_tokens k sure n cs tokens) (real.run_tokens e n p tokens)
run_tokens_so k e sure n cs p [] h a = record { told = tt; passed = refl; changes = a }
run_tokens_so k e sure n cs p (t ∷ more) h a =
    let effect = tell.effect_told k cs t in
    let passes = tell.passes_told t effect in
    let next = cs ++ by_sure sure effect.changes in
    let q = real.after e n p t in
    let b = changes_so sure effect.changes cs p q a (effect_so k e n p t cs h a).changes in
    let j =
    join_so k e sure n next q more passes (real.goes_on e n p t) (passes_so k e n p t cs h a) b
    (λ certain. run_tokens_so k e certain n next q more h b) in
    record {
      told = asks_so k sure e n cs p t _ _ h a j.told;
      passed = j.passed;
      changes = j.changes;
    }

-- lines

listed_so : (cs : List Change) (p : Properties) (tokens : List Token) (name : List ℕ) → Agrees cs p
    → Is (entry_of name Unknown (map (tell.entry_for cs) tokens)) (p name)
listed_so cs p [] name h = tt
listed_so cs p (t ∷ more) name h = by (bytes_eq t.attribute name) refl (listed_so cs p more name h)
  where
    by : (c : Bool) → bytes_eq t.attribute name ≡ c → Is (entry_of name Unknown (map (tell.entry_for cs) more)) (p name)
        → Is (if c then value_in cs t.attribute else entry_of name Unknown (map (tell.entry_for cs) more)) (p name)
    by true e ih = subst (λ (x : List ℕ). Is (value_in cs t.attribute) (p x)) ((bytes_eq-Decides t.attribute name).0 e) (h t.attribute)
    by false e ih = ih

sight_so : (k : Knowledge) (e : Event) (n : Turn) (cs : List Change) (p : Properties) (tokens : List Token) → IsKnown k e → Agrees cs p
    → IsSight (tell.sight_at k.sight cs tokens) (real.world_at e n p)
sight_so k e n cs p tokens h a = record {
  action = h.action;
  path = h.path;
  own = h.own;
  parents = h.parents;
  properties = λ name. listed_so cs p tokens name a;
}

-- the parent that a line chose

first_so : ParentsAreSo → (w : World) (tokens : List Token) (index : ℕ) (ss : List Seen) (ds : List Device) → AreSeen ss ds
    → IsChosen (first_told tokens ss) (first_of w tokens index ds)
first_so so w tokens index [] [] h = refl
first_so so w tokens index [] (d ∷ ds) h = absurd h
first_so so w tokens index (s ∷ ss) [] h = absurd h
first_so so w tokens index (s ∷ ss) (d ∷ ds) h =
    by (all_of_told s tokens) (all_of w tokens index d) (so s w tokens index d h.0) (first_so so w tokens (index + 1) ss ds h.1)
  where
    by : (a : Option Bool) (b : Bool) → Says a b → IsChosen (first_told tokens ss) (first_of w tokens (index + 1) ds)
        → IsChosen (one_of a s (first_told tokens ss)) (if b then Some d else first_of w tokens (index + 1) ds)
    by None b e ih = tt
    by (Some true) true e ih = h.0
    by (Some true) false e ih = absurd (cc)
    by (Some false) true e ih = absurd (cc)
    by (Some false) false e ih = ih

parent_in_so : ParentsAreSo → (s : Sight) (w : World) (tokens : List Token) (before : Chosen) (d : Option Device) → IsSight s w → IsChosen before d
    → IsChosen (parent_told s tokens before) (parent_in w tokens d)
parent_in_so so s w tokens before d h c = by (has_parents tokens)
  where
    by : (b : Bool)
        → IsChosen (if b then first_told tokens (s.own ∷ s.parents) else before) (if b then first_of w tokens 0 (w.own ∷ w.parents) else d)
    by true = first_so so w tokens 0 (s.own ∷ s.parents) (w.own ∷ w.parents) (h.own, h.parents)
    by false = c

no_parents : (w : World) (tokens : List Token) (d : Option Device) → has_parents tokens ≡ false → parent_in w tokens d ≡ d
no_parents w tokens d e = ap (λ (x : Bool). if x then first_of w tokens 0 (w.own ∷ w.parents) else d) e

after_by : (sure c : Bool) (r : Option Bool) (b : Bool) (new before : Chosen) (d q : Option Device) → Says r b → IsChosen new q → IsChosen before d
    → (c ≡ false → q ≡ d) → IsChosen (if c then by_reached sure r new before else before) (if b then q else d)
after_by sure true None b new before d q e n c z = tt
after_by sure true (Some false) true new before d q e n c z = absurd (cc)
after_by sure true (Some false) false new before d q e n c z = c
after_by true true (Some true) true new before d q e n c z = n
after_by false true (Some true) true new before d q e n c z = tt
after_by sure true (Some true) false new before d q e n c z = absurd (cc)
after_by sure false r true new before d q e n c z = subst (λ (x : Option Device). IsChosen before x) (sym (z refl)) c
after_by sure false r false new before d q e n c z = c

after_so : ToldIsSo → ParentsAreSo → (sure : Bool) (s : Sight) (w : World) (tokens : List Token) (before : Chosen) (d : Option Device) → IsSight s w
    → IsChosen before d → IsChosen (parent_after_told sure s tokens before) (parent_after w tokens d)
after_so so of sure s w tokens before d h c =
    after_by sure (has_parents tokens) (line_told s (first_tokens tokens)) (line_holds w (first_tokens tokens)) (parent_told s tokens before) before d
    (parent_in w tokens d) (so s w (first_tokens tokens) h) (parent_in_so of s w tokens before d h c) c (no_parents w tokens d)

skipped_by : (sure c : Bool) (r : Option Bool) (new before : Chosen) (d : Option Device) → sure ≡ false → IsChosen before d
    → IsChosen (if c then by_reached sure r new before else before) d
skipped_by sure true None new before d e c = tt
skipped_by sure true (Some false) new before d e c = c
skipped_by true true (Some true) new before d e c = absurd (cc)
skipped_by false true (Some true) new before d e c = tt
skipped_by sure false r new before d e c = c

known_with : (k : Knowledge) (e : Event) (c : Chosen) (d : Option Device) → IsKnown k e → IsChosen c d → IsKnown (known.with_chosen k c) (real.with_parent e d)
known_with k e c d h i = record {
  action = h.action;
  path = h.path;
  own = h.own;
  parents = h.parents;
  parent = i;
  others = h.others;
  effects = h.effects;
}

known_in_so : ParentsAreSo → (k : Knowledge) (e : Event) (n : Turn) (cs : List Change) (p : Properties) (l : RuleLine) → IsKnown k e → Agrees cs p
    → IsKnown (tell.known_in k cs l) (real.event_in e n p l)
known_in_so so k e n cs p l h a =
    known_with k e _ _ h
    (parent_in_so so (tell.sight_at k.sight cs l.tokens) (real.world_at e n p) l.tokens k.parent e.parent (sight_so k e n cs p l.tokens h a) h.parent)

known_after_so : ToldIsSo → ParentsAreSo → (sure : Bool) (k : Knowledge) (e : Event) (n : Turn) (cs : List Change) (p : Properties) (l : RuleLine)
    → IsKnown k e → Agrees cs p → IsKnown (tell.known_after sure k cs l) (real.event_after e n p l)
known_after_so so of sure k e n cs p l h a = known_with k e _ _ h (by (is_for_all l))
  where
    after : (c : Bool)
        → IsChosen (parent_after_told c (tell.sight_at k.sight cs l.tokens) l.tokens k.parent) (parent_after (real.world_at e n p) l.tokens e.parent)
    after c = after_so so of c (tell.sight_at k.sight cs l.tokens) (real.world_at e n p) l.tokens k.parent e.parent (sight_so k e n cs p l.tokens h a) h.parent

    tried : (c : Bool)
        → IsChosen (parent_after_told false (tell.sight_at k.sight cs l.tokens) l.tokens k.parent)
        (if c then parent_after (real.world_at e n p) l.tokens e.parent else e.parent)
    tried true = after false
    tried false =
        skipped_by false (has_parents l.tokens) (line_told (tell.sight_at k.sight cs l.tokens) (first_tokens l.tokens))
        (parent_told (tell.sight_at k.sight cs l.tokens) l.tokens k.parent) k.parent e.parent refl h.parent

    by : (c : Bool)
        → IsChosen (parent_after_told (if c then sure else false) (tell.sight_at k.sight cs l.tokens) l.tokens k.parent)
        (if (if c then true else e.tries (real.moment e n) l) then parent_after (real.world_at e n p) l.tokens e.parent else e.parent)
    by true = after sure
    by false = tried (e.tries (real.moment e n) l)

known_skipped : (sure : Bool) (k : Knowledge) (e : Event) (cs : List Change) (l : RuleLine) → sure ≡ false → IsKnown k e
    → IsKnown (tell.known_after sure k cs l) e
known_skipped sure k e cs l s h =
    known_with k e _ e.parent h
    (skipped_by (if is_for_all l then sure else false) (has_parents l.tokens) (line_told (tell.sight_at k.sight cs l.tokens) (first_tokens l.tokens))
    (parent_told (tell.sight_at k.sight cs l.tokens) l.tokens k.parent) k.parent e.parent (never (is_for_all l)) h.parent)
  where
    never : (c : Bool) → (if c then sure else false) ≡ false
    never true = s
    never false = refl

line_so : ToldIsSo → ParentsAreSo → (k : Knowledge) (e : Event) (sure : Bool) (n : Turn) (cs : List Change) (p : Properties) (l : RuleLine) → IsKnown k e → Agrees cs p
    → Tells (tell.tell_line k sure n cs l) (real.run_line e n p l)
line_so so of k e sure n cs p l h a =
    join_so (tell.known_in k cs l) (real.event_in e n p l) sure n cs p l.tokens (line_told (tell.sight_at k.sight cs l.tokens) l.tokens) (line_holds (real.world_at e n p) l.tokens)
    (so (tell.sight_at k.sight cs l.tokens) (real.world_at e n p) l.tokens (sight_so k e n cs p l.tokens h a)) a
    (λ certain. run_tokens_so (tell.known_in k cs l) (real.event_in e n p l) certain n cs p l.tokens (known_in_so of k e n cs p l h a) a)

skip_by : (k : Knowledge) (sure : Bool) (n : Turn) (cs : List Change) (p : Properties) (tokens : List Token) (holds : Option Bool) → sure ≡ false
    → Agrees cs p → Skips (tell.tell_by holds k sure n cs tokens) p
skip_by k sure n cs p tokens holds e a = by (tell.is_no holds) (skip_tokens k (tell.is_sure sure holds) n cs p tokens (unsure sure holds e) a)
  where
    by : (c : Bool) → Skips (tell.tell_tokens k (tell.is_sure sure holds) n cs tokens) p
        → Skips (tell.told_before [] holds (if c then tell.ended false cs else tell.tell_tokens k (tell.is_sure sure holds) n cs tokens)) p
    by true h = record { told = tt; changes = a }
    by false h = record { told = h.told; changes = h.changes }

skip_line : (k : Knowledge) (sure : Bool) (n : Turn) (cs : List Change) (p : Properties) (l : RuleLine) → sure ≡ false → Agrees cs p
    → Skips (tell.tell_line k sure n cs l) p
skip_line k sure n cs p l e a = skip_by (tell.known_in k cs l) sure n cs p l.tokens (line_told (tell.sight_at k.sight cs l.tokens) l.tokens) e a

-- what is told of lines is so
record Follows (s : tell.Story) (r : real.Ran) : Type 0 where
  told : Covers s.told r.asks
  changes : Agrees s.changes r.properties
  parent : IsChosen s.parent r.parent

tried_so : (tale : Tale) (done : Done) (rest other : tell.Story) (ran : real.Ran) (c : Bool) → c ≡ true → Tells tale done → Follows rest ran
    → Follows (if c then tell.story_before tale.told rest else other) (real.ran_before done.asks ran)
tried_so tale done rest other ran true e t f = record { told = covers_both tale.told rest.told done.asks ran.asks t.told f.told; changes = f.changes; parent = f.parent }
tried_so tale done rest other ran false e t f = absurd (cc)

left_so : (tale : Tale) (p : Properties) (rest other : tell.Story) (ran : real.Ran) (c : Bool) → Skips tale p → Follows rest ran → Follows other ran
    → Follows (if c then tell.story_before tale.told rest else other) ran
left_so tale p rest other ran true t f g = record { told = covers_both tale.told rest.told [] ran.asks t.told f.told; changes = f.changes; parent = f.parent }
left_so tale p rest other ran false t f g = g

lines_so : ToldIsSo → ParentsAreSo → (k : Knowledge) (e : Event) (file n : ℕ) (cs : List Change) (p : Properties) (w : Ways) (until : Option (List ℕ))
    (lines : List RuleLine) → IsKnown k e → Agrees cs p → IsAt w until
    → Follows (tell.tell_lines k file n cs w lines) (real.run_lines e file n p until lines)
lines_so so of k e file n cs p w until [] h a i = record { told = tt; changes = a; parent = h.parent }
lines_so so of k e file n cs p w until (l ∷ more) h a i =
    by (real.is_reached until l.label) refl
    (λ m f ds q v u g b j. lines_so so of m f file (n + 1) ds q v u more g b j)
  where
    by : (c : Bool) → real.is_reached until l.label ≡ c
        → ((m : Knowledge) (f : Event) (ds : List Change) (q : Properties) (v : Ways) (u : Option (List ℕ)) → IsKnown m f → Agrees ds q → IsAt v u
        → Follows (tell.tell_lines m file (n + 1) ds v more) (real.run_lines f file (n + 1) q u more))
        → Follows (tell.tell_lines k file n cs w (l ∷ more))
        (if c
        then real.ran_before (real.run_line e (turn file n) p l).asks
        (real.run_lines (real.event_after e (turn file n) p l) file (n + 1) (real.run_line e (turn file n) p l).properties
        (real.jump (real.run_line e (turn file n) p l).passed l.goto) more)
        else real.run_lines e file (n + 1) p until more)
    by true c ih =
        let at : Ways = tell.arrived l.label w in
        let tale : Tale = tell.tell_line k (is_none at.waiting) (turn file n) cs l in
        let done : Done = real.run_line e (turn file n) p l in
        let here = arrived_so w until l.label i c in
        let t = line_so so of k e (is_none at.waiting) (turn file n) cs p l h a in
        tried_so tale done _ _ _ at.here here t
        (ih (tell.known_after (is_none at.waiting) k cs l) (real.event_after e (turn file n) p l) tale.changes done.properties
        (tell.jumped tale.passed l.goto at) (real.jump done.passed l.goto)
        (known_after_so so of (is_none at.waiting) k e (turn file n) cs p l h a) t.changes
        (jumped_so at tale.passed done.passed l.goto here t.passed))
    by false c ih =
        let at : Ways = tell.arrived l.label w in
        let tale : Tale = tell.tell_line k (is_none at.waiting) (turn file n) cs l in
        elim (later_so w until l.label i c) [
          | Later name u j ↦
              let unsure = some_wait name at.waiting j in
              let t = skip_line k (is_none at.waiting) (turn file n) cs p l unsure a in
              let next : Ways = tell.jumped tale.passed l.goto at in
              left_so tale p _ _ _ at.here t
              (ih (tell.known_after (is_none at.waiting) k cs l) e tale.changes p next until (known_skipped (is_none at.waiting) k e cs l unsure h) t.changes
              (at_label next until name u (waits_on at tale.passed l.goto name j)))
              (ih k e cs p at until h a (at_label at until name u j))
        ]

files_so : ToldIsSo → ParentsAreSo → (k : Knowledge) (e : Event) (n : ℕ) (cs : List Change) (p : Properties) (files : List (List RuleLine)) → IsKnown k e
    → Agrees cs p → Covers (tell.tell_files k n cs files) (real.run_files e n p files)
files_so so of k e n cs p [] h a = tt
files_so so of k e n cs p (lines ∷ more) h a =
    let f = lines_so so of k e n 0 cs p tell.start None lines h a refl in
    let told = tell.tell_lines k n 0 cs tell.start lines in
    let ran = real.run_lines e n 0 p None lines in
    covers_both _ _ _ _ f.told
    (files_so so of (known.with_chosen k told.parent) (real.with_parent e ran.parent) (n + 1) told.changes ran.properties more (known_with k e _ _ h f.parent) f.changes)

pub events_are_covered : ToldIsSo → ParentsAreSo → EventsAreCovered
events_are_covered so of k e cs p files h a = files_so so of k e 0 cs p files h a

all_so : (ts : List Told) (xs : List Ask) → AreCertain ts → Covers ts xs → AreAll ts xs
all_so [] [] c h = tt
all_so [] (x ∷ xs) c h = absurd h
all_so (t ∷ ts) [] c h = both_so t c.0 h.0
  where
    both_so : (t : Told) → t.certain ≡ true → t.certain ≡ false → ⊥
    both_so t c d = absurd (cc)
all_so (t ∷ ts) (x ∷ xs) c h = elim h [ inl a ↦ (a.0, all_so ts xs c.1 a.1) | inr b ↦ absurd (cc) ]

pub events_are_exact : ToldIsSo → ParentsAreSo → EventsAreExact
events_are_exact so of k e cs p files h a c = all_so (tell.tell_files k 0 cs files) (real.run_files e 0 p files) c (events_are_covered so of k e cs p files h a)
