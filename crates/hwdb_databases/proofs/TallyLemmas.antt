-- What a summary counts of a walk.
use Rattle.std.proofs.Common.{◌≡◌, ◌∙◌, ap, sym, refl, ℕ, zero, suc, ◌+◌, ◌<◌, ◌≤◌, List, [], ◌∷◌, ◌++◌, map, length, get_or, arith, Option, None, Some, Bool, true, false, cond, append_assoc, append-nil, add-one, T}
use Rattle.std.specs.Prelude.{if◌then◌else◌}
use Rattle.std.proofs.lemmas.List.{length-map, length-append, map-append}
use Rattle.std.proofs.lemmas.List.Sorted.{IsPermutation-refl}
use Rattle.std.proofs.lemmas.Cmp.{nat_list_cmp_total}
use Rattle.std.specs.FinMap.Entries.{is_sorted}
use Rattle.std.specs.List.{dedup, dedup_from}
use Rattle.std.specs.Ordering.{is_lt, ordering_reverse, ordering_then}
use Rattle.std.specs.Cmp.Lexicographic.{texts_ties}
use Rattle.std.specs.declared.cmp.Ordering.{Ordering}
use Rattle.std.specs.declared.cmp.Ordering.TheVariants.{Less, Equal, Greater}
use Rattle.hwdb_spec.specs.Assignment.{Assignment, text_cmp}
use Rattle.hwdb_spec.specs.Lemmas.Orders.{same_text, same_itself}
use Rattle.hwdb_spec_commands.specs.Summary.{different}
use Rattle.hwdb_spec.specs.Tree.{Tree, Value, IsTree, members_under, place_cmp, entry_of}
use Rattle.hwdb_text.specs.Lemmas.Ascending.{same_bytes}
use Rattle.hwdb_reader.specs.Views.{shown}
use Rattle.hwdb_query.specs.Internal.Members.{one_assignment, assignment_shown, own_members}
use Rattle.hwdb_databases.specs.Internal.Counting.{one_more, turns}
use Rattle.hwdb_databases.proofs.DifferentLemmas.{different_are, texts_dedup}
use Rattle.hwdb_databases.proofs.OrderLemmas.{members_sorted, and_first, and_second}

-- ---- what was taken of a walk, and what is left

module _ {X : Type 0} (f : Assignment → X) where
  pub taken : (old new : List X) (own before now : List Assignment) → new ≡ old ++ map f own → now ≡ before → new ++ map f now ≡ old ++ map f (own ++ before)
  taken old new own before now t r =
      ap (λ (g : List X × List Assignment). g.0 ++ map f g.1) (λ i. (t i, r i))
      ∙ append_assoc old (map f own) (map f before) ∙ ap (λ l. old ++ l) (sym (map-append f own before))

  -- nothing is left
  pub all_taken : (old : List X) (rest all : List Assignment) → rest ≡ [] → old ++ map f rest ≡ map f all → old ≡ map f all
  all_taken old rest all none is = sym (append-nil old) ∙ ap (λ r. old ++ map f r) (sym none) ∙ is

  -- all of some were taken
  pub taken_all : (old new : List X) (own rest : List Assignment) → rest ≡ [] → new ++ map f rest ≡ old ++ map f own → new ≡ old ++ map f own
  taken_all old new own rest none is = sym (append-nil new) ∙ ap (λ r. new ++ map f r) (sym none) ∙ is

  -- how many were taken
  pub grown : (old new : List X) (own rest : List Assignment) → rest ≡ [] → new ++ map f rest ≡ old ++ map f own → length new ≡ length old + length own
  grown old new own rest none is =
      ap length (taken_all old new own rest none is) ∙ length-append old (map f own) ∙ ap (λ n. length old + n) (length-map own f)

-- ---- patterns, one after another

abbrev pub pattern_of : Assignment → List ℕ
pattern_of f = f.position.pattern

-- more assignments with the last pattern add nothing
turns_same : (p : List ℕ) (values : List Value) (rest : List (List ℕ)) → turns (Some p) (map pattern_of (own_members p values) ++ rest) ≡ turns (Some p) rest
unfolding assignment_shown
turns_same p [] rest = refl
turns_same p (v ∷ values) rest = go (shown v).key (turns_same p values rest)
  where
    go : (o : Option (List ℕ)) → turns (Some p) (map pattern_of (own_members p values) ++ rest) ≡ turns (Some p) rest
        → turns (Some p) (map pattern_of (one_assignment p (shown v) o ++ own_members p values) ++ rest) ≡ turns (Some p) rest
    go None is = is
    go (Some key) is = let none : one_more (Some p) p ≡ 0 = ap (λ b. if b then 0 else 1) (same_itself p) in omega (arith, none, is)

-- assignments with one pattern
pub turns_own : (last : Option (List ℕ)) (p : List ℕ) (values : List Value) (rest : List (List ℕ)) → 0 < length (own_members p values)
    → turns last (map pattern_of (own_members p values) ++ rest) ≡ turns last (p ∷ rest)
unfolding assignment_shown
turns_own last p [] rest h = absurd (omega (arith, h))
turns_own last p (v ∷ values) rest h = go (shown v).key (λ k. turns_own last p values rest k) h
  where
    go : (o : Option (List ℕ)) → (0 < length (own_members p values) → turns last (map pattern_of (own_members p values) ++ rest) ≡ turns last (p ∷ rest))
        → 0 < length (one_assignment p (shown v) o ++ own_members p values)
        → turns last (map pattern_of (one_assignment p (shown v) o ++ own_members p values) ++ rest) ≡ turns last (p ∷ rest)
    go None is k = is k
    go (Some key) is k = ap (λ n. n + one_more last p) (turns_same p values rest)

pub turns_none : (last : Option (List ℕ)) (own : List Assignment) (rest : List (List ℕ)) → length own ≤ 0 → turns last (map pattern_of own ++ rest) ≡ turns last rest
turns_none last [] rest h = refl
turns_none last (f ∷ own) rest h = absurd (omega (arith, h))

-- ---- patterns that don't descend are as many different ones

dedup_turns : (p : List ℕ) (ps : List (List ℕ)) → length (dedup_from same_bytes p ps) ≡ suc (turns (Some p) ps)
dedup_turns p [] = refl
dedup_turns p (q ∷ ps) =
    go (same_bytes q p) refl (dedup_turns p ps) (dedup_turns q ps) ∙ ap (λ b. suc (turns (Some q) ps + (if b then 0 else 1))) (texts_ties q p)
  where
    go : (b : Bool) → same_bytes q p ≡ b → length (dedup_from same_bytes p ps) ≡ suc (turns (Some p) ps) → length (dedup_from same_bytes q ps) ≡ suc (turns (Some q) ps)
        → length (cond b (dedup_from same_bytes p ps) (p ∷ dedup_from same_bytes q ps)) ≡ suc (turns (Some q) ps + (if b then 0 else 1))
    go true e f g =
        let same : turns (Some p) ps ≡ turns (Some q) ps = ap (λ t. turns (Some t) ps) (sym (same_text q p (sym (texts_ties q p) ∙ e))) in
        omega (arith, f, same)
    go false e f g = omega (arith, g)

turns_deduped : (ps : List (List ℕ)) → length (dedup same_bytes ps) ≡ turns None ps
turns_deduped [] = refl
turns_deduped (p ∷ ps) = let left = dedup_turns p ps in omega (arith, left)

not_less : (a b : Ordering) → T (is_lt (ordering_then a b)) → is_lt (ordering_reverse a) ≡ false
not_less Less b h = refl
not_less Equal b h = refl
not_less Greater b h = absurd h

patterns_up : (xs : List Assignment) → T (is_sorted place_cmp (map entry_of xs)) → (k : ℕ) (d : Assignment) → suc k < length xs
    → is_lt (text_cmp (pattern_of (get_or xs (suc k) d)) (pattern_of (get_or xs k d))) ≡ false
patterns_up [] h k d high = absurd (omega (arith, high))
patterns_up (x ∷ []) h k d high = absurd (omega (arith, high))
patterns_up (x ∷ y ∷ ys) h zero d high =
    ap is_lt (nat_list_cmp_total.antisymm (pattern_of y) (pattern_of x))
    ∙ not_less (text_cmp (pattern_of x) (pattern_of y)) _ (and_first _ _ (and_first _ (is_sorted place_cmp (map entry_of (y ∷ ys))) h))
patterns_up (x ∷ y ∷ ys) h (suc k) d high = patterns_up (y ∷ ys) (and_second _ (is_sorted place_cmp (map entry_of (y ∷ ys))) h) k d (omega (arith, high))

pub different_turns : (t : Tree) → IsTree t → turns None (map pattern_of (members_under [] t)) ≡ different (map pattern_of (members_under [] t))
different_turns t h =
    let all = members_under [] t in
    let left = dedup (λ a b. same_bytes (pattern_of a) (pattern_of b)) all in
    sym (turns_deduped (map pattern_of all)) ∙ sym (ap length (texts_dedup pattern_of all)) ∙ length-map left pattern_of
    ∙ different_are pattern_of all all left (IsPermutation-refl all) (λ k d low high. rw (add-one k) (patterns_up all (members_sorted t h) k d (omega (arith, high)))) refl
