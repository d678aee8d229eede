-- Steps of a filling.
use Rattle.std.proofs.Common.{◌≡◌, ◌∙◌, ap, sym, refl, subst, ℕ, zero, suc, ◌-◌, ◌≤◌, Bool, true, false, List, [], ◌∷◌, ◌++◌, take, drop, filter, length, arith, Option, Some, None, IsTrue, ◌↔◌}
use Rattle.std.proofs.lemmas.List.{take_rest}
use Rattle.hwdb_spec.specs.Patterns.{tokens, Matches}
use Rattle.hwdb_pattern.specs.Laws.{MatchesIsTested, LiveIsTested}
use Rattle.hwdb_spec.specs.Tree.{IsLive, is_live}
use Rattle.hwdb_query.specs.Internal.Members.{one_assignment, assignment_shown, wanted}
use Rattle.hwdb_reader.specs.Views.{Shown}
use Rattle.hwdb_pattern.specs.Views.{StandsFor, Reached}
use Rattle.hwdb_spec.specs.Assignment.{Position, Assignment, assignment_cmp, put}
use Rattle.hwdb_spec.specs.Answers.{is_after, is_behind, is_wanted, is_match}
use Rattle.hwdb_query.specs.Internal.Lists.{keep_all}
use Rattle.hwdb_query.proofs.PutLemmas.{filter_in, filter_out}

pub cut_whole : (from : ℕ) (path prefix : List ℕ) → from ≤ length path → take from path ++ drop from (path ++ prefix) ≡ path ++ prefix
cut_whole zero path prefix h = refl
cut_whole (suc from) [] prefix h = absurd (omega arith)
cut_whole (suc from) (b ∷ path) prefix h = ap (λ l. b ∷ l) (cut_whole from path prefix (omega arith))

pub cut_front : (whole more : List ℕ) → take (length whole) (whole ++ more) ≡ whole
cut_front [] more = refl
cut_front (b ∷ whole) more = ap (λ l. b ∷ l) (cut_front whole more)

-- the reach that was fed is the state of the whole path
pub stands_whole : (above here : Reached) (from : ℕ) (path prefix whole seen piece : List ℕ) → from ≤ length path → whole ≡ path ++ prefix → seen ≡ whole
    → piece ≡ take (length seen - from) (drop from seen) → StandsFor above (take from path)
    → ((p : List ℕ) → StandsFor above p → StandsFor here (p ++ piece)) → StandsFor here whole
stands_whole above here from path prefix whole seen piece n w s p stands fed =
    let all : take from path ++ piece ≡ whole =
    ap (λ r. take from path ++ r) (p ∙ take_rest seen from ∙ ap (drop from) (s ∙ w)) ∙ cut_whole from path prefix n ∙ sym w in
    subst (StandsFor here) all (fed (take from path) stands)

-- the test of a path that is live
pub live_is : LiveIsTested → (device path : List ℕ) (b : Bool) → b ≡ true → (IsTrue b ↔ IsLive path device) → is_live path device ≡ true
live_is tested device path b e h = (tested path device).1 (h.0 e)

pub dead_is : (device path : List ℕ) (b : Bool) → b ≡ false → (IsTrue b ↔ IsLive path device) → IsLive path device → ⊥
dead_is device path b e h live = let t : b ≡ true = h.1 live in cc

pub match_is : MatchesIsTested → (device pattern : List ℕ) (b : Bool) → b ≡ true → (IsTrue b ↔ Matches (tokens pattern) device) → is_match device pattern ≡ true
match_is tested device pattern b e h = (tested (tokens pattern) device).1 (h.0 e)

pub mismatch_is : MatchesIsTested → (device pattern : List ℕ) (b : Bool) → b ≡ false → (IsTrue b ↔ Matches (tokens pattern) device) → is_match device pattern ≡ false
mismatch_is tested device pattern b e h = go (is_match device pattern) (λ t. h.1 ((tested (tokens pattern) device).0 t))
  where
    go : (c : Bool) → (c ≡ true → b ≡ true) → c ≡ false
    go true k = let t : b ≡ true = k refl in cc
    go false k = refl

pub own_matched : (device : List ℕ) (after : Option Position) (pattern : List ℕ) (t : List Assignment) → filter (is_wanted device) t ≡ t → wanted device after t ≡ filter (is_behind after) t
unfolding wanted
own_matched device after pattern t h = ap (filter (is_behind after)) h

pub own_none : (device : List ℕ) (after : Option Position) (t : List Assignment) → filter (is_wanted device) t ≡ [] → wanted device after t ≡ []
unfolding wanted
own_none device after t h = ap (filter (is_behind after)) h

pub keep_none : (most : ℕ) (xs old : List Assignment) → xs ≡ [] → old ≡ keep_all assignment_cmp most xs old
unfolding keep_all
keep_none most xs old h = sym (ap (λ l. keep_all assignment_cmp most l old) h)

-- one value is offered
pub offered_none : (most : ℕ) (after : Option Position) (pattern : List ℕ) (s : Shown) (old : List Assignment) → s.key ≡ None
    → old ≡ keep_all assignment_cmp most (filter (is_behind after) (assignment_shown pattern s)) old
unfolding assignment_shown
offered_none most after pattern s old h = keep_none most _ old (ap (λ o. filter (is_behind after) (one_assignment pattern s o)) h)

pub offered_some : (most : ℕ) (after : Option Position) (pattern key : List ℕ) (s : Shown) (x : Assignment) (old new : List Assignment) → s.key ≡ Some key
    → x ≡ record { position = record { priority = s.priority; line = s.line; pattern = pattern; key = key }; value = s.value; path = s.path }
    → is_after after x.position ≡ true → new ≡ take most (put assignment_cmp x old)
    → new ≡ keep_all assignment_cmp most (filter (is_behind after) (assignment_shown pattern s)) old
unfolding assignment_shown keep_all
offered_some most after pattern key s x old new h e p n =
    n ∙ sym (ap (λ o. keep_all assignment_cmp most (filter (is_behind after) (one_assignment pattern s o)) old) h
    ∙ ap (λ (y : Assignment). keep_all assignment_cmp most (filter (is_behind after) (y ∷ [])) old) (sym e)
    ∙ ap (λ l. keep_all assignment_cmp most l old) (filter_in (is_behind after) x [] p))

pub offered_early : (most : ℕ) (after : Option Position) (pattern key : List ℕ) (s : Shown) (old : List Assignment) → s.key ≡ Some key
    → is_after after (record { priority = s.priority; line = s.line; pattern = pattern; key = key }) ≡ false
    → old ≡ keep_all assignment_cmp most (filter (is_behind after) (assignment_shown pattern s)) old
unfolding assignment_shown
offered_early most after pattern key s old h p =
    keep_none most _ old (ap (λ o. filter (is_behind after) (one_assignment pattern s o)) h ∙ filter_out (is_behind after) _ [] p)

pub unwanted : (device : List ℕ) (after : Option Position) → wanted device after [] ≡ []
unfolding wanted
unwanted device after = refl
