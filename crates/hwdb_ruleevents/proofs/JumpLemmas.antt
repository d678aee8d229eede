-- Jumps: where udev is, and which ways are told.
use Rattle.std.proofs.Common.{◌≡◌, Bool, true, false, List, ℕ, [], ◌∷◌, ◌++◌, refl, sym, ap, subst, ◌∙◌, Option, Some, None, ◌⊎◌, inl, inr, ◌||◌}
use Rattle.std.specs.Prelude.{if◌then◌else◌, filter, not}
use Rattle.std.specs.List.{list_any}
use Rattle.hwdb_spec.specs.Lines.{is_none}
use Rattle.hwdb_rulefiles.specs.RuleTokens.{is_word}
use Rattle.hwdb_rulerun.specs.Laws.{Says}
use Rattle.hwdb_ruleevents.specs.Events as real
use Rattle.hwdb_ruleevents.specs.Telling as tell
use Rattle.hwdb_ruleevents.specs.Telling.{Ways}

-- a way waits for a label
abbrev pub Waits : (name : List ℕ) → List (List ℕ) → Type 0
Waits name [] = ⊥
Waits name (own ∷ more) = (own ≡ name) ⊎ Waits name more

-- where udev is
abbrev pub IsAt : Ways → Option (List ℕ) → Type 0
IsAt w None = w.here ≡ true
IsAt w (Some name) = Waits name w.waiting

pub any_waits : (name : List ℕ) (label : Option (List ℕ)) (names : List (List ℕ)) → Waits name names → is_word label name ≡ true
    → list_any (is_word label) names ≡ true
any_waits name label [] h e = absurd h
any_waits name label (own ∷ more) h e =
    elim h
    [ inl i ↦ first (is_word label own) (ap (is_word label) i ∙ e) | inr i ↦ second (is_word label own) (any_waits name label more i e) ]
  where
    first : (c : Bool) → c ≡ true → (c || list_any (is_word label) more) ≡ true
    first true i = refl
    first false i = absurd (cc)

    second : (c : Bool) → list_any (is_word label) more ≡ true → (c || list_any (is_word label) more) ≡ true
    second true i = refl
    second false i = i

pub still_waits : (name : List ℕ) (label : Option (List ℕ)) (names : List (List ℕ)) → Waits name names → is_word label name ≡ false
    → Waits name (filter (λ own. not (is_word label own)) names)
still_waits name label [] h e = absurd h
still_waits name label (own ∷ more) h e = by (is_word label own) refl h (λ j. still_waits name label more j e)
  where
    by : (c : Bool) → is_word label own ≡ c → (own ≡ name) ⊎ Waits name more
        → (Waits name more → Waits name (filter (λ x. not (is_word label x)) more))
        → Waits name (if not c then own ∷ filter (λ x. not (is_word label x)) more else filter (λ x. not (is_word label x)) more)
    by true i h ih = elim h [ inl j ↦ absurd (cc) | inr j ↦ ih j ]
    by false i h ih = elim h [ inl j ↦ inl j | inr j ↦ inr (ih j) ]

pub some_wait : (name : List ℕ) (names : List (List ℕ)) → Waits name names → is_none names ≡ false
some_wait name [] h = absurd h
some_wait name (own ∷ more) h = refl

pub is_here : (c d : Bool) → (c ≡ true) ⊎ (d ≡ true) → (if c then true else d) ≡ true
is_here true d h = refl
is_here false d h = elim h [ inl e ↦ absurd (cc) | inr e ↦ e ]

pub arrived_so : (w : Ways) (until label : Option (List ℕ)) → IsAt w until → real.is_reached until label ≡ true → (tell.arrived label w).here ≡ true
arrived_so w None label h e = is_here w.here (list_any (is_word label) w.waiting) (inl h)
arrived_so w (Some name) label h e = is_here w.here (list_any (is_word label) w.waiting) (inr (any_waits name label w.waiting h e))

-- udev waits for a later line
pub data IsLater (until : Option (List ℕ)) (w : Ways) : Type 0 where
  Later : (name : List ℕ) → until ≡ Some name → Waits name w.waiting → IsLater until w

pub later_so : (w : Ways) (until label : Option (List ℕ)) → IsAt w until → real.is_reached until label ≡ false → IsLater until (tell.arrived label w)
later_so w None label h e = absurd (cc)
later_so w (Some name) label h e = Later name refl (still_waits name label w.waiting h e)

pub last_waits : (name : List ℕ) (names : List (List ℕ)) → Waits name (names ++ (name ∷ []))
last_waits name [] = inl refl
last_waits name (own ∷ more) = inr (last_waits name more)

pub waits_too : (name other : List ℕ) (names : List (List ℕ)) → Waits name names → Waits name (names ++ (other ∷ []))
waits_too name other [] h = absurd h
waits_too name other (own ∷ more) h = elim h [ inl e ↦ inl e | inr e ↦ inr (waits_too name other more e) ]

pub jumped_so : (w : Ways) (told : Option Bool) (passed : Bool) (goto : Option (List ℕ)) → w.here ≡ true → Says told passed
    → IsAt (tell.jumped told goto w) (real.jump passed goto)
jumped_so w told true None h s = h
jumped_so w told false None h s = h
jumped_so w None true (Some name) h s = last_waits name w.waiting
jumped_so w None false (Some name) h s = h
jumped_so w (Some true) true (Some name) h s = last_waits name w.waiting
jumped_so w (Some true) false (Some name) h s = absurd (cc)
jumped_so w (Some false) true (Some name) h s = absurd (cc)
jumped_so w (Some false) false (Some name) h s = h

pub waits_on : (w : Ways) (told : Option Bool) (goto : Option (List ℕ)) (name : List ℕ) → Waits name w.waiting → Waits name (tell.jumped told goto w).waiting
waits_on w told None name h = h
waits_on w None (Some other) name h = waits_too name other w.waiting h
waits_on w (Some true) (Some other) name h = waits_too name other w.waiting h
waits_on w (Some false) (Some other) name h = h

pub at_label : (w : Ways) (until : Option (List ℕ)) (name : List ℕ) → until ≡ Some name → Waits name w.waiting → IsAt w until
at_label w until name e h = subst (IsAt w) (sym e) h
