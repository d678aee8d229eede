-- What is collected one list after another.
use Rattle.std.proofs.Common.{◌≡◌, ◌∙◌, ap, sym, refl, subst, ℕ, zero, suc, ◌≤◌, ◌<◌, arith, get_or, map, List, [], ◌∷◌, ◌++◌, take, drop, length, slice_get, option_map, filter, Some, None, true, false}
use Rattle.std.specs.List.{AllByRecursion}
use Rattle.std.specs.declared.cmp.Ordering.TheVariants.{Less}
use Rattle.std.proofs.lemmas.List.Elements.{filter-append}
use Rattle.hwdb_spec.specs.Tree.{Value}
use Rattle.hwdb_query.specs.Internal.Members.{one_assignment, assignment_shown, wanted, own_members}
use Rattle.hwdb_reader.specs.Views.{Shown, shown}
use Rattle.std.specs.Ordering.{is_lt, ordering_reverse}
use Rattle.hwdb_spec.specs.Assignment.{Position, Assignment, position_cmp, assignment_cmp, put, put_all, in_order}
use Rattle.std.specs.List.Sorted.{IsStrictlySortedBy}
use Rattle.hwdb_spec.specs.Answers.{is_after, is_behind, is_wanted}
use Rattle.hwdb_query.specs.Internal.Lists.{keep_all}
use Rattle.hwdb_query.specs.Internal.Hits.{after_position}
use Rattle.hwdb_query.specs.Internal.Collected.{PageCollects, LastCollects, Shows}
use Rattle.hwdb_query.specs.declared.next_page.NextPage.{NextPage}
use Rattle.hwdb_query.specs.declared.answer.StoredAssignment.{StoredAssignment}
use Rattle.hwdb_query.specs.Views.{assignment_of_answer}
use Rattle.hwdb_query.specs.declared.last_hits.LastHits.{LastHits}
use Rattle.hwdb_query.proofs.PutLemmas.{keep_all_append, ascends_put, ascends_all, filter_in, filter_out}
use Rattle.hwdb_query.proofs.PartLemmas.{own_one}
use Rattle.hwdb_query.specs.Lemmas.Parts.{own_next, own_after}
use Rattle.hwdb_query.proofs.StepLemmas.{keep_none, offered_some, offered_early}
use Rattle.hwdb_spec.specs.Lemmas.Places.{assignment_total, position_total}

-- what a value assigns at a pattern
abbrev pub assignment_at : (pattern key : List ℕ) → Shown → Assignment
assignment_at pattern key s = record { position = record { priority = s.priority; line = s.line; pattern = pattern; key = key }; value = s.value; path = s.path }

all_take : (P : Assignment → Type 0) (n : ℕ) (l : List Assignment) → AllByRecursion P l → AllByRecursion P (take n l)
all_take P zero l all = tt
all_take P (suc n) [] all = tt
all_take P (suc n) (x ∷ l) all = (all.0, all_take P n l all.1)

ascends_take : (n : ℕ) (l : List Assignment) → IsStrictlySortedBy assignment_cmp l → IsStrictlySortedBy assignment_cmp (take n l)
unfolding IsStrictlySortedBy
ascends_take zero l up = tt
ascends_take (suc n) [] up = tt
ascends_take (suc n) (x ∷ l) up = (all_take (λ y. assignment_cmp x y ≡ Less) n l up.0, ascends_take n l up.1)

pub ascends_kept : (n : ℕ) (x : Assignment) (l : List Assignment) → IsStrictlySortedBy assignment_cmp l → IsStrictlySortedBy assignment_cmp (take n (put assignment_cmp x l))
ascends_kept n x l up = ascends_take n (put assignment_cmp x l) (ascends_put assignment_cmp assignment_total x l up)

pub page_none : (a : NextPage) → PageCollects a [] a
page_none a = record {
  after = refl;
  most = refl;
  ascends = λ up. up;
  kept = λ up. keep_none a.held.most (filter (is_behind (after_position a.after)) []) a.held.hits refl;
}

pub page_more : (a b c : NextPage) (xs ys : List Assignment) → PageCollects a xs b → PageCollects b ys c → PageCollects a (xs ++ ys) c
page_more a b c xs ys p q =
    let most = a.held.most in
    let behind = is_behind (after_position a.after) in
    record {
      after = q.after ∙ p.after;
      most = q.most ∙ p.most;
      ascends = λ up. q.ascends (p.ascends up);
      kept = λ up.
          q.kept (p.ascends up) ∙ ap (λ m. keep_all assignment_cmp m (filter (is_behind (after_position b.after)) ys) b.held.hits) p.most
          ∙ ap (λ s. keep_all assignment_cmp most (filter (is_behind (after_position s)) ys) b.held.hits) p.after
          ∙ ap (keep_all assignment_cmp most (filter behind ys)) (p.kept up)
          ∙ sym (keep_all_append assignment_cmp most (filter behind xs) (filter behind ys) a.held.hits)
          ∙ ap (λ l. keep_all assignment_cmp most l a.held.hits) (sym (filter-append behind xs ys));
    }

put_both : (xs ys l : List Assignment) → put_all assignment_cmp (xs ++ ys) l ≡ put_all assignment_cmp ys (put_all assignment_cmp xs l)
unfolding put_all
put_both [] ys l = refl
put_both (x ∷ xs) ys l = put_both xs ys (put assignment_cmp x l)

pub last_none : (a : LastHits) → LastCollects a [] a
unfolding put_all LastCollects
last_none a hits up shows = shows

pub last_more : (a b c : LastHits) (xs ys : List Assignment) → LastCollects a xs b → LastCollects b ys c → LastCollects a (xs ++ ys) c
unfolding LastCollects
last_more a b c xs ys p q hits up shows =
    subst (Shows c.hits) (sym (put_both xs ys hits)) (q (put_all assignment_cmp xs hits) (ascends_all assignment_cmp assignment_total xs hits up) (p hits up shows))

-- the answer at a place, and those after it
pub answer_next : (found : List StoredAssignment) (i : ℕ) (a : StoredAssignment) → i < length found → a ≡ get_or found i a
    → map assignment_of_answer (drop i found) ≡ assignment_of_answer a ∷ map assignment_of_answer (drop (suc i) found)
answer_next [] i a lt is = absurd (omega (arith, lt))
answer_next (x ∷ found) zero a lt is = ap (λ y. assignment_of_answer y ∷ map assignment_of_answer found) (sym is)
answer_next (x ∷ found) (suc i) a lt is = answer_next found i a (omega (arith, lt)) is

pub answers_over : (found : List StoredAssignment) (i : ℕ) → length found ≤ i → map assignment_of_answer (drop i found) ≡ []
answers_over [] zero le = refl
answers_over [] (suc i) le = refl
answers_over (x ∷ found) zero le = absurd (omega (arith, le))
answers_over (x ∷ found) (suc i) le = answers_over found i (omega (arith, le))

-- the values of a node are offered one after another
pub last_values_next : (a b c : LastHits) (pattern : List ℕ) (values : List Value) (i : ℕ) (s : Shown) → option_map shown (slice_get values i) ≡ Some s
    → LastCollects a (assignment_shown pattern s) b → LastCollects b (own_members pattern (drop (suc i) values)) c → LastCollects a (own_members pattern (drop i values)) c
last_values_next a b c pattern values i s at here rest =
    subst (λ xs. LastCollects a xs c) (sym (own_next pattern values i s at)) (last_more a b c (assignment_shown pattern s) (own_members pattern (drop (suc i) values)) here rest)

pub last_values_over : (a : LastHits) (pattern : List ℕ) (values : List Value) (i : ℕ) → length values ≤ i → LastCollects a (own_members pattern (drop i values)) a
last_values_over a pattern values i le = subst (λ xs. LastCollects a xs a) (sym (own_after pattern values i le)) (last_none a)

pub page_values_over : (a : NextPage) (pattern : List ℕ) (values : List Value) (i : ℕ) → length values ≤ i → PageCollects a (own_members pattern (drop i values)) a
page_values_over a pattern values i le = subst (λ xs. PageCollects a xs a) (sym (own_after pattern values i le)) (page_none a)

-- one value is offered
pub last_offered_none : (a : LastHits) (pattern : List ℕ) (s : Shown) → s.key ≡ None → LastCollects a (assignment_shown pattern s) a
unfolding assignment_shown
last_offered_none a pattern s none = subst (λ o. LastCollects a (one_assignment pattern s o) a) (sym none) (last_none a)

pub last_offered : (a b : LastHits) (pattern key : List ℕ) (s : Shown) → s.key ≡ Some key
    → ((hits : List Assignment) → IsStrictlySortedBy assignment_cmp hits → Shows a.hits hits → Shows b.hits (put assignment_cmp (assignment_at pattern key s) hits)) → LastCollects a (assignment_shown pattern s) b
unfolding assignment_shown put_all LastCollects
last_offered a b pattern key s some step = subst (λ o. LastCollects a (one_assignment pattern s o) b) (sym some) step

pub page_offered_none : (a : NextPage) (pattern : List ℕ) (s : Shown) → s.key ≡ None → PageCollects a (assignment_shown pattern s) a
unfolding assignment_shown
page_offered_none a pattern s none = subst (λ o. PageCollects a (one_assignment pattern s o) a) (sym none) (page_none a)

pub page_offered_early : (a : NextPage) (pattern key : List ℕ) (s : Shown) → s.key ≡ Some key → is_after (after_position a.after) (assignment_at pattern key s).position ≡ false
    → PageCollects a (assignment_shown pattern s) a
page_offered_early a pattern key s some early =
    record { after = refl; most = refl; ascends = λ up. up; kept = λ up. offered_early a.held.most (after_position a.after) pattern key s a.held.hits some early }

pub page_offered : (a b : NextPage) (pattern key : List ℕ) (s : Shown) → s.key ≡ Some key → is_after (after_position a.after) (assignment_at pattern key s).position ≡ true
    → b.after ≡ a.after → b.held.most ≡ a.held.most → (IsStrictlySortedBy assignment_cmp a.held.hits → b.held.hits ≡ take a.held.most (put assignment_cmp (assignment_at pattern key s) a.held.hits))
    → PageCollects a (assignment_shown pattern s) b
page_offered a b pattern key s some late after most kept =
    let x = assignment_at pattern key s in
    record {
      after = after;
      most = most;
      ascends = λ up. subst (IsStrictlySortedBy assignment_cmp) (sym (kept up)) (ascends_kept a.held.most x a.held.hits up);
      kept = λ up. offered_some a.held.most (after_position a.after) pattern key s x a.held.hits b.held.hits some refl late (kept up);
    }

none_ascends : let none : List Assignment = [] in IsStrictlySortedBy assignment_cmp none
unfolding IsStrictlySortedBy
none_ascends = tt

-- a page that was empty, after all
pub page_at_end : (a : NextPage) (members : List Assignment) (device : List ℕ) (b : NextPage) → a.held.hits ≡ [] → PageCollects a (filter (is_wanted device) members) b
    → (b.held.most ≡ a.held.most) × (b.held.hits ≡ keep_all assignment_cmp a.held.most (wanted device (after_position a.after) members) [])
unfolding wanted
page_at_end a members device b none taken =
    let up : IsStrictlySortedBy assignment_cmp a.held.hits = subst (IsStrictlySortedBy assignment_cmp) (sym none) none_ascends in (
      taken.most,
      taken.kept up ∙ ap (keep_all assignment_cmp a.held.most (filter (is_behind (after_position a.after)) (filter (is_wanted device) members))) none,
    )

-- what showed nothing shows the last of all
pub last_at_end : (a : LastHits) (xs : List Assignment) (b : LastHits) → Shows a.hits [] → LastCollects a xs b → Shows b.hits (in_order assignment_cmp xs)
unfolding LastCollects
last_at_end a xs b none taken = taken [] none_ascends none

-- a value without a hit that is kept
one_skipped : (a : NextPage) (pattern : List ℕ) (s : Shown) → ((key : List ℕ) → PageCollects a (assignment_at pattern key s ∷ []) a) → PageCollects a (assignment_shown pattern s) a
unfolding assignment_shown
one_skipped a pattern s skipped = elim s.key as (λ o. PageCollects a (one_assignment pattern s o) a) [ None ↦ page_none a | Some key ↦ skipped key ]

pub page_one_taken : (a b : NextPage) (pattern : List ℕ) (values : List Value) (i : ℕ) (s : Shown) → option_map shown (slice_get values i) ≡ Some s → PageCollects a (assignment_shown pattern s) b
    → PageCollects a (own_members pattern (take 1 (drop i values))) b
page_one_taken a b pattern values i s at taken = subst (λ xs. PageCollects a xs b) (sym (own_one pattern values i s at)) taken

pub page_one_skipped : (a : NextPage) (pattern : List ℕ) (values : List Value) (i p l : ℕ) → option_map (λ v. v.priority) (slice_get values i) ≡ Some p → option_map (λ v. v.line) (slice_get values i) ≡ Some l
    → ((x : Assignment) → (x.position.priority ≡ p) × (x.position.line ≡ l) → PageCollects a (x ∷ []) a) → PageCollects a (own_members pattern (take 1 (drop i values))) a
page_one_skipped a pattern [] i p l at on skipped = absurd (cc)
page_one_skipped a pattern (v ∷ values) zero p l at on skipped =
    let same_p : v.priority ≡ p = cc in
    let same_l : v.line ≡ l = cc in
    page_more a a a (assignment_shown pattern (shown v)) [] (one_skipped a pattern (shown v) (λ key. skipped (assignment_at pattern key (shown v)) (same_p, same_l))) (page_none a)
page_one_skipped a pattern (v ∷ values) (suc i) p l at on skipped = page_one_skipped a pattern values i p l at on skipped

-- no hit of an origin is kept: it comes before the position, or after a full page
pub skipped_before : (a : NextPage) (after : Position) (x : Assignment) → after_position a.after ≡ Some after → position_cmp x.position after ≡ Less → PageCollects a (x ∷ []) a
unfolding is_after
skipped_before a after x given less =
    let early : is_after (after_position a.after) x.position ≡ false = ap (λ o. is_after o x.position) given ∙ ap is_lt (position_total.antisymm after x.position ∙ ap ordering_reverse less) in
    record {
      after = refl;
      most = refl;
      ascends = λ up. up;
      kept = λ up. keep_none a.held.most (filter (is_behind (after_position a.after)) (x ∷ [])) a.held.hits (filter_out (is_behind (after_position a.after)) x [] early);
    }

pub skipped_behind : (a : NextPage) (x : Assignment) → (IsStrictlySortedBy assignment_cmp a.held.hits → take a.held.most (put assignment_cmp x a.held.hits) ≡ a.held.hits) → PageCollects a (x ∷ []) a
unfolding keep_all
skipped_behind a x stays =
    record {
      after = refl;
      most = refl;
      ascends = λ up. up;
      kept = λ up. elim (is_after (after_position a.after) x.position) as (λ b. is_after (after_position a.after) x.position ≡ b → a.held.hits ≡ keep_all assignment_cmp a.held.most (filter (is_behind (after_position a.after)) (x ∷ [])) a.held.hits) [
        | true ↦ λ e. sym (ap (λ l. keep_all assignment_cmp a.held.most l a.held.hits) (filter_in (is_behind (after_position a.after)) x [] e) ∙ stays up)
        | false ↦ λ e. keep_none a.held.most (filter (is_behind (after_position a.after)) (x ∷ [])) a.held.hits (filter_out (is_behind (after_position a.after)) x [] e)
      ] refl;
    }
