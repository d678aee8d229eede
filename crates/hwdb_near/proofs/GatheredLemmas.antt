-- Patterns of assignments, gathered from the last to the first.
use Rattle.std.proofs.Common.{◌≡◌, ◌∙◌, ap, sym, ℕ, ◌+◌, ◌<◌, Bool, true, false, List, [], ◌∷◌, ◌++◌, drop, length, map, get_or, reverse, cond, arith}
use Rattle.std.proofs.lemmas.List.{drop_all, drop_more, map-append, reverse-append}
use Rattle.hwdb_spec.specs.Folders.{same}
use Rattle.hwdb_spec_commands.specs.Near.{PatternAt}
use Rattle.hwdb_spec_commands.specs.NearAsked.{gather, gathered, is_before, pattern_of}
use Rattle.hwdb_query.specs.Views.{assignment_of_answer}
use Rattle.hwdb_query.specs.declared.answer.StoredAssignment.{StoredAssignment}
use Rattle.hwdb_near.specs.Views.{pattern_at}
use Rattle.hwdb_near.specs.declared.found.PatternAt.{PatternAt as Found}

-- what comes last is the first from the other side
last_first : (kept : List Found) (last : Found) → reverse (map pattern_at (kept ++ last ∷ [])) ≡ pattern_at last ∷ reverse (map pattern_at kept)
last_first kept last = ap reverse (map-append pattern_at kept (last ∷ [])) ∙ reverse-append (map pattern_at kept) (pattern_at last ∷ [])

-- none so far
pub gather_none : (old new : List Found) (at : Found) → old ≡ [] → new ≡ at ∷ [] → reverse (map pattern_at new) ≡ gather (pattern_at at) (reverse (map pattern_at old))
gather_none old new at o n =
    ap (λ (l : List Found). reverse (map pattern_at l)) n ∙ ap (λ (l : List Found). gather (pattern_at at) (reverse (map pattern_at l))) (sym o)

gather_by : PatternAt → PatternAt → List PatternAt → Bool → List PatternAt
gather_by at next more t = cond t (cond (is_before next at) next at ∷ more) (at ∷ next ∷ more)

-- the first has the same text
pub gather_same : (old kept new : List Found) (at next first : Found) → old ≡ kept ++ next ∷ [] → new ≡ kept ++ first ∷ [] → same at.pattern.now next.pattern.now ≡ true
    → pattern_at first ≡ cond (is_before (pattern_at next) (pattern_at at)) (pattern_at next) (pattern_at at) → reverse (map pattern_at new) ≡ gather (pattern_at at) (reverse (map pattern_at old))
unfolding gather_by
gather_same old kept new at next first o n e f =
    let more = reverse (map pattern_at kept) in
    ap (λ (l : List Found). reverse (map pattern_at l)) n ∙ last_first kept first ∙ ap (λ (p : PatternAt). p ∷ more) f
    ∙ ap (gather_by (pattern_at at) (pattern_at next) more) (sym e)
    ∙ ap (gather (pattern_at at)) (sym (ap (λ (l : List Found). reverse (map pattern_at l)) o ∙ last_first kept next))

-- it has another one
pub gather_other : (old kept mid new : List Found) (at next : Found) → old ≡ kept ++ next ∷ [] → mid ≡ kept ++ next ∷ [] → new ≡ mid ++ at ∷ [] → same at.pattern.now next.pattern.now ≡ false
    → reverse (map pattern_at new) ≡ gather (pattern_at at) (reverse (map pattern_at old))
unfolding gather_by
gather_other old kept mid new at next o m n e =
    let more = reverse (map pattern_at kept) in
    ap (λ (l : List Found). reverse (map pattern_at l)) n ∙ last_first mid at ∙ ap (λ (l : List Found). pattern_at at ∷ reverse (map pattern_at l)) m ∙ ap (λ (l : List PatternAt). pattern_at at ∷ l) (last_first kept next)
    ∙ ap (gather_by (pattern_at at) (pattern_at next) more) (sym e)
    ∙ ap (gather (pattern_at at)) (sym (ap (λ (l : List Found). reverse (map pattern_at l)) o ∙ last_first kept next))

abbrev of_answers : List StoredAssignment → List PatternAt
of_answers found = gathered (map pattern_of (map assignment_of_answer found))

-- one assignment more
pub gather_step : (found : List StoredAssignment) (i : ℕ) (d : StoredAssignment) (old new : List Found) (at : Found) → i < length found → pattern_at at ≡ pattern_of (assignment_of_answer (get_or found i d))
    → reverse (map pattern_at old) ≡ of_answers (drop (i + 1) found) → reverse (map pattern_at new) ≡ gather (pattern_at at) (reverse (map pattern_at old)) → reverse (map pattern_at new) ≡ of_answers (drop i found)
gather_step found i d old new at h is so_far n =
    n ∙ (λ k. gather (is k) (so_far k)) ∙ ap of_answers (sym (drop_more found i d h))

pub gather_begun : (found : List StoredAssignment) (i : ℕ) (none : List Found) → length found ≡ i → none ≡ [] → reverse (map pattern_at none) ≡ of_answers (drop i found)
gather_begun found i none e n = ap (λ (l : List Found). reverse (map pattern_at l)) n ∙ ap of_answers (sym (drop_all i found (omega (arith, e))))
