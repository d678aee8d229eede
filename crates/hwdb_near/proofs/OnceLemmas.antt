-- Each of some assignments once, from the last to the first; none of them replaces itself.
use Rattle.std.proofs.Common.{◌≡◌, ◌∙◌, ap, sym, refl, subst, ℕ, ◌+◌, ◌<◌, Bool, true, false, not, List, [], ◌∷◌, ◌++◌, drop, length, map, get_or, reverse, cond, arith, Option, None, Some}
use Rattle.std.specs.List.{AllByRecursion, list_any}
use Rattle.std.specs.Prelude.{◌||◌}
use Rattle.std.specs.BTreeSet.{contains_by}
use Rattle.std.specs.Option.{option_or}
use Rattle.std.specs.Cmp.{IsTotalOrder, nat_cmp_total, on_total, then_total}
use Rattle.std.specs.Cmp.Lexicographic.{nat_list_cmp_total}
use Rattle.std.specs.Ordering.{is_eq}
use Rattle.std.proofs.lemmas.List.{drop_all, drop_more, map-append, reverse-append}
use Rattle.std.proofs.lemmas.List.Elements.{All-from_recursion}
use Rattle.hwdb_spec.specs.Answers.{is_same_place}
use Rattle.hwdb_spec.specs.Assignment.{Assignment, assignment_cmp, position_cmp}
use Rattle.hwdb_spec.specs.Lemmas.Orders.{turned}
use Rattle.hwdb_spec_commands.specs.Once.{is_same_assignment, once}
use Rattle.hwdb_spec_commands.specs.Replacements.{Replacement, last_like, replaced_by, replacements}
use Rattle.hwdb_near.specs.Internal.Once.{AreOnce, Place, Seen, TakesOnce, by_position, has_place, place_of}
use Rattle.hwdb_near.specs.Laws.{NoneReplacesItself}
use Rattle.hwdb_near.specs.Views.{assignment_of}
use Rattle.hwdb_near.specs.declared.wanted.FileAssignment.{FileAssignment}
use Rattle.hwdb_near.proofs.ReplacedLemmas.{like_more}

-- ---- one assignment more

last_first : (kept : List FileAssignment) (w : FileAssignment) → reverse (map assignment_of (kept ++ w ∷ [])) ≡ assignment_of w ∷ reverse (map assignment_of kept)
last_first kept w = ap reverse (map-append assignment_of kept (w ∷ [])) ∙ reverse-append (map assignment_of kept) (assignment_of w ∷ [])

by_position_total : IsTotalOrder by_position
by_position_total =
    then_total (on_total (λ (p : Place). p.0) nat_cmp_total)
    (then_total (on_total (λ (p : Place). p.1.0) nat_cmp_total)
    (then_total (on_total (λ (p : Place). p.1.1.0.now) nat_list_cmp_total) (on_total (λ (p : Place). p.1.1.1.now) nat_list_cmp_total)))

place_turned : (p q : Place) → is_eq (by_position p q) ≡ is_eq (by_position q p)
place_turned p q = sym (turned (by_position p q)) ∙ sym (ap is_eq (by_position_total.antisymm q p))

same_at : (a b : Assignment) → is_eq (by_position (place_of a) (place_of b)) ≡ is_same_assignment a b
unfolding assignment_cmp position_cmp
same_at a b = refl

one_or : (c a b : Bool) → a ≡ b → cond c true a ≡ (c || b)
one_or true a b e = refl
one_or false a b e = e

-- the set has the place of one assignment more
placed : (seen seen_now : Seen) (w : FileAssignment) → ((q : Place) → contains_by (by_position q) seen_now ≡ cond (is_eq (by_position (place_of (assignment_of w)) q)) true (contains_by (by_position q) seen))
    → (all : List Assignment) → ((a : Assignment) → has_place seen a ≡ list_any (is_same_assignment a) all) → (a : Assignment) → has_place seen_now a ≡ list_any (is_same_assignment a) (assignment_of w ∷ all)
placed seen seen_now w put all places a =
    put (place_of a)
    ∙ ap (λ (t : Bool). cond t true (has_place seen a)) (place_turned (place_of (assignment_of w)) (place_of a) ∙ same_at a (assignment_of w))
    ∙ one_or (is_same_assignment a (assignment_of w)) (has_place seen a) (list_any (is_same_assignment a) all) (places a)

is_absent : (n b : Bool) → n ≡ not b → n ≡ true → b ≡ false
is_absent n true e t = absurd (cc)
is_absent n false e t = refl

is_there : (n b : Bool) → n ≡ not b → n ≡ false → b ≡ true
is_there n true e t = refl
is_there n false e t = absurd (cc)

-- the one that comes is new
pub once_new : (seen seen_now : Seen) (kept kept_now : List FileAssignment) (w : FileAssignment) (n : Bool) → n ≡ not (has_place seen (assignment_of w)) → n ≡ true
    → ((q : Place) → contains_by (by_position q) seen_now ≡ cond (is_eq (by_position (place_of (assignment_of w)) q)) true (contains_by (by_position q) seen))
    → kept_now ≡ kept ++ w ∷ [] → TakesOnce seen kept w seen_now kept_now
unfolding once
once_new seen seen_now kept kept_now w n is new put pushed all are = record {
  places = placed seen seen_now w put all are.places;
  each =
      ap (λ (l : List FileAssignment). reverse (map assignment_of l)) pushed ∙ last_first kept w ∙ ap (λ (l : List Assignment). assignment_of w ∷ l) are.each
      ∙ ap (λ (t : Bool). cond t (once all) (assignment_of w ∷ once all)) (sym (is_absent n (has_place seen (assignment_of w)) is new) ∙ are.places (assignment_of w));
}

-- it was there
pub once_again : (seen seen_now : Seen) (kept : List FileAssignment) (w : FileAssignment) (n : Bool) → n ≡ not (has_place seen (assignment_of w)) → n ≡ false
    → ((q : Place) → contains_by (by_position q) seen_now ≡ cond (is_eq (by_position (place_of (assignment_of w)) q)) true (contains_by (by_position q) seen))
    → TakesOnce seen kept w seen_now kept
unfolding once
once_again seen seen_now kept w n is there put all are = record {
  places = placed seen seen_now w put all are.places;
  each = are.each ∙ ap (λ (t : Bool). cond t (once all) (assignment_of w ∷ once all)) (sym (is_there n (has_place seen (assignment_of w)) is there) ∙ are.places (assignment_of w));
}

-- none so far
pub once_none : (seen : Seen) (kept : List FileAssignment) (all : List FileAssignment) → seen.keys ≡ [] → kept ≡ [] → AreOnce (map assignment_of (drop (length all) all)) seen kept
unfolding once
once_none seen kept all none empty =
    subst (λ (l : List FileAssignment). AreOnce (map assignment_of l) seen kept) (sym (drop_all (length all) all (omega arith)))
    record {
      places = λ a. ap (λ (k : List Place). list_any (λ q. is_eq (by_position (place_of a) q)) k) none;
      each = ap (λ (l : List FileAssignment). reverse (map assignment_of l)) empty;
    }

-- one step on
pub once_step : (all : List FileAssignment) (i : ℕ) (d w : FileAssignment) (seen seen_now : Seen) (kept kept_now : List FileAssignment) → i < length all → w ≡ get_or all i d
    → AreOnce (map assignment_of (drop (i + 1) all)) seen kept → TakesOnce seen kept w seen_now kept_now → AreOnce (map assignment_of (drop i all)) seen_now kept_now
once_step all i d w seen seen_now kept kept_now h is are takes =
    subst (λ (l : List FileAssignment). AreOnce (map assignment_of l) seen_now kept_now) (sym (drop_more all i d h))
    (subst (λ (x : FileAssignment). AreOnce (assignment_of x ∷ map assignment_of (drop (i + 1) all)) seen_now kept_now) is (takes (map assignment_of (drop (i + 1) all)) are))

-- ---- none replaces itself

first_not : (a b : Bool) → (a || b) ≡ false → a ≡ false
first_not true b e = cc
first_not false b e = refl

rest_not : (a b : Bool) → (a || b) ≡ false → b ≡ false
rest_not true b e = cc
rest_not false b e = e

-- what none of some assignments is none of them is, each once
none_once : (q : Assignment → Bool) (all : List Assignment) → list_any q all ≡ false → list_any q (once all) ≡ false
unfolding once
none_once q [] h = refl
none_once q (x ∷ all) h =
    let again = none_once q all (rest_not (q x) (list_any q all) h) in
    elim (list_any (is_same_assignment x) all) as (λ t. list_any q (cond t (once all) (x ∷ once all)) ≡ false) [
      | true ↦ again
      | false ↦ ap (λ (t : Bool). t || list_any q (once all)) (first_not (q x) (list_any q all) h) ∙ again
    ]

some_is : {A : Type 0} (x y : A) → Some x ≡ Some y → x ≡ y
some_is x y e = cc

none_some : (y : Assignment) → None ≡ Some y → ⊥
none_some y e = cc

-- the last with a place isn't one that none is
last_by : (q : Assignment → Bool) (x b : Assignment) (o : Option Assignment) (t : Bool) → q x ≡ false → ((y : Assignment) → o ≡ Some y → q y ≡ false)
    → option_or o (cond t (Some x) None) ≡ Some b → q b ≡ false
last_by q x b (Some y) t not again e = ap q (sym (some_is y b e)) ∙ again y refl
last_by q x b None true not again e = ap q (sym (some_is x b e)) ∙ not
last_by q x b None false not again e = absurd (none_some b e)

last_is_none : (q : Assignment → Bool) (a : Assignment) (all : List Assignment) → list_any q all ≡ false → (b : Assignment) → last_like a all ≡ Some b → q b ≡ false
last_is_none q a [] h b e = absurd (none_some b e)
last_is_none q a (x ∷ all) h b e =
    last_by q x b (last_like a all) (is_same_place a x) (first_not (q x) (list_any q all) h) (last_is_none q a all (rest_not (q x) (list_any q all) h)) (sym (like_more a x all) ∙ e)

abbrev Differs : Replacement → Type 0
Differs r = is_same_assignment r.old r.new ≡ false

own : (a : Assignment) (all : List Assignment) → list_any (is_same_assignment a) all ≡ false → (o : Option Assignment) → last_like a all ≡ o → (more : List Replacement) → AllByRecursion Differs more
    → AllByRecursion Differs (replaced_by a o ++ more)
own a all h None e more rest = rest
own a all h (Some b) e more rest = (last_is_none (is_same_assignment a) a all h b e, rest)

one_more : (a : Assignment) (all : List Assignment) (t : Bool) → list_any (is_same_assignment a) all ≡ t → AllByRecursion Differs (replacements (once all))
    → AllByRecursion Differs (replacements (cond t (once all) (a ∷ once all)))
unfolding replacements
one_more a all true e rest = rest
one_more a all false e rest = own a (once all) (none_once (is_same_assignment a) all e) (last_like a (once all)) refl (replacements (once all)) rest

differ : (all : List Assignment) → AllByRecursion Differs (replacements (once all))
unfolding once replacements
differ [] = tt
differ (a ∷ all) = one_more a all (list_any (is_same_assignment a) all) refl (differ all)

pub none_replaces_itself : NoneReplacesItself
none_replaces_itself all = All-from_recursion Differs (replacements (once all)) (differ all)
