-- Patterns of assignments that ascend: those of them that begin with a byte, gathered, are those of all that do.
use Rattle.std.proofs.Common.{◌≡◌, ◌∙◌, ap, sym, refl, subst, arith, length, ℕ, Bool, true, false, ◌&&◌, List, [], ◌∷◌, map, filter, T, if◌then◌else◌}
use Rattle.std.specs.FinMap as finite
use Rattle.std.specs.FinMap.Entries.{below_all, is_sorted}
use Rattle.std.specs.List.{AllByRecursion}
use Rattle.std.specs.Ordering.{is_eq, is_lt, ordering_reverse, ordering_then}
use Rattle.std.specs.Cmp.{IsTotalOrder}
use Rattle.std.specs.declared.cmp.Ordering.{Ordering}
use Rattle.std.specs.declared.cmp.Ordering.TheVariants.{Less, Equal, Greater}
use Rattle.std.proofs.lemmas.Cmp.{nat_list_cmp_total}
use Rattle.hwdb_spec.specs.Assignment.{Assignment, text_cmp}
use Rattle.hwdb_spec.specs.Folders.{same}
use Rattle.hwdb_spec.specs.Lemmas.Orders.{same_text}
use Rattle.hwdb_spec.specs.Tree.{Tree, entry_of, map_of, members_under, place_cmp}
use Rattle.hwdb_spec_commands.specs.Near.{PatternAt}
use Rattle.hwdb_spec_commands.specs.NearAsked.{database_patterns, gather, gathered, is_before, pattern_of}
use Rattle.hwdb_spec_commands.specs.NearPrefixes.{closest_after, closest_report, has_prefix, is_below}
use Rattle.hwdb_databases.specs.Beginnings.{begins_with, members_from}

and_first : (a b : Bool) → T (a && b) → T a
and_first true b p = tt
and_first false b p = p

and_second : (a b : Bool) → T (a && b) → T b
and_second true b p = p
and_second false b p = absurd p

less_of : (o : Ordering) → T (is_lt o) → o ≡ Less
less_of Less h = refl
less_of Equal h = absurd h
less_of Greater h = absurd h

-- ---- texts in order

less_first : (o k : Ordering) → ordering_then o k ≡ Less → is_eq o ≡ false → o ≡ Less
less_first Less k h e = refl
less_first Equal k h e = absurd (cc)
less_first Greater k h e = absurd (cc)

later : (p q s : List ℕ) → text_cmp p q ≡ Less → (o k : Ordering) → text_cmp q s ≡ o → ordering_then o k ≡ Less → text_cmp p s ≡ Less
later p q s h Less k e l = IsTotalOrder.trans nat_list_cmp_total p q s h e
later p q s h Equal k e l =
    IsTotalOrder.antisymm nat_list_cmp_total p s ∙ ap ordering_reverse (sym (IsTotalOrder.congr nat_list_cmp_total q s p e)) ∙ sym (IsTotalOrder.antisymm nat_list_cmp_total p q) ∙ h
later p q s h Greater k e l = absurd (cc)

-- an assignment has another pattern
abbrev Other : List ℕ → Assignment → Type 0
Other p a = same p a.position.pattern ≡ false

-- so have those that come later
others : (p : List ℕ) (h : Assignment) → text_cmp p h.position.pattern ≡ Less → (rest : List Assignment)
    → T (below_all place_cmp (h.position.pattern, h.position.key) (map entry_of rest)) → AllByRecursion (Other p) rest
others p h l [] b = tt
others p h l (r ∷ rest) b =
    let now = less_of (place_cmp (h.position.pattern, h.position.key) (r.position.pattern, r.position.key)) (and_first _ _ b) in (
      ap is_eq (later p h.position.pattern r.position.pattern l (text_cmp h.position.pattern r.position.pattern) (text_cmp h.position.key r.position.key) refl now),
      others p h l rest (and_second _ _ b),
    )

abbrev Sorted : List Assignment → Type 0
Sorted l = T (is_sorted place_cmp (map entry_of l))

others_after : (a h : Assignment) (rest : List Assignment) → Sorted (a ∷ h ∷ rest) → same a.position.pattern h.position.pattern ≡ false → AllByRecursion (Other a.position.pattern) (h ∷ rest)
others_after a h rest s e =
    let below = and_first _ _ s in
    let after = and_second _ _ s in
    let first = less_of (place_cmp (a.position.pattern, a.position.key) (h.position.pattern, h.position.key)) (and_first _ _ below) in
    let less = less_first (text_cmp a.position.pattern h.position.pattern) (text_cmp a.position.key h.position.key) first e in
    (e, others a.position.pattern h less rest (and_first _ _ after))

-- ---- gathered patterns

-- of two with one pattern either one has it
either : (at next : PatternAt) (c : Bool) → at.pattern ≡ next.pattern → (if c then next else at).pattern ≡ at.pattern
either at next true e = sym e
either at next false e = refl

gather_by : PatternAt → PatternAt → List PatternAt → Bool → List PatternAt
gather_by at next more c = if c then (if is_before next at then next else at) ∷ more else at ∷ next ∷ more

-- the first of a list has a pattern
abbrev Heads : List ℕ → List PatternAt → Type 0
Heads p [] = ⊥
Heads p (x ∷ l) = x.pattern ≡ p

heads : (at : PatternAt) (g : List PatternAt) → Heads at.pattern (gather at g)
unfolding gather_by
heads at [] = refl
heads at (n ∷ more) =
    elim (same at.pattern n.pattern) as (λ c. same at.pattern n.pattern ≡ c → Heads at.pattern (gather_by at n more c)) [
      | true ↦ λ e. either at n (is_before n at) (same_text at.pattern n.pattern e)
      | false ↦ λ e. refl
    ] refl

module _ (S : List ℕ → Type 0) where
  of_either : (at next : PatternAt) (c : Bool) → S at.pattern → S next.pattern → S ((if c then next else at).pattern)
  of_either at next true s h = h
  of_either at next false s h = s

  all_gather : (at : PatternAt) (g : List PatternAt) → S at.pattern → AllByRecursion (λ (x : PatternAt). S x.pattern) g → AllByRecursion (λ (x : PatternAt). S x.pattern) (gather at g)
  unfolding gather_by
  all_gather at [] s h = (s, tt)
  all_gather at (n ∷ more) s h =
      elim (same at.pattern n.pattern) as (λ c. AllByRecursion (λ (x : PatternAt). S x.pattern) (gather_by at n more c)) [
        | true ↦ (of_either at n (is_before n at) s h.0, h.1)
        | false ↦ (s, h)
      ]

  all_gathered : (l : List Assignment) → AllByRecursion (λ (a : Assignment). S a.position.pattern) l → AllByRecursion (λ (x : PatternAt). S x.pattern) (gathered (map pattern_of l))
  all_gathered [] h = tt
  all_gathered (a ∷ l) h = all_gather (pattern_of a) (gathered (map pattern_of l)) h.0 (all_gathered l h.1)

-- one with another pattern than all is before them as it is
alone : (at : PatternAt) (g : List PatternAt) → AllByRecursion (λ (x : PatternAt). same at.pattern x.pattern ≡ false) g → gather at g ≡ at ∷ g
unfolding gather_by
alone at [] h = refl
alone at (n ∷ more) h = ap (gather_by at n more) h.0

module _ (Q : List ℕ → Bool) where
  abbrev at_pattern : PatternAt → Bool
  at_pattern x = Q x.pattern

  abbrev of_pattern : Assignment → Bool
  of_pattern a = Q a.position.pattern

  abbrev kept : List PatternAt → List PatternAt
  kept l = filter at_pattern l

  dropped : (x : PatternAt) (l : List PatternAt) → Q x.pattern ≡ false → kept (x ∷ l) ≡ kept l
  dropped x l e = ap (λ c. if c then x ∷ kept l else kept l) e

  taken : (x : PatternAt) (l : List PatternAt) → Q x.pattern ≡ true → kept (x ∷ l) ≡ x ∷ kept l
  taken x l e = ap (λ c. if c then x ∷ kept l else kept l) e

  gather_dropped : (at : PatternAt) (g : List PatternAt) → Q at.pattern ≡ false → kept (gather at g) ≡ kept g
  unfolding gather_by
  gather_dropped at [] e = dropped at [] e
  gather_dropped at (n ∷ more) e =
      elim (same at.pattern n.pattern) as (λ c. same at.pattern n.pattern ≡ c → kept (gather_by at n more c) ≡ kept (n ∷ more)) [
        | true ↦ λ s.
            let one = same_text at.pattern n.pattern s in
            dropped (if is_before n at then n else at) more (ap Q (either at n (is_before n at) one) ∙ e) ∙ sym (dropped n more (ap Q (sym one) ∙ e))
        | false ↦ λ s. dropped at (n ∷ more) e
      ] refl

  all_kept : (S : PatternAt → Type 0) (g : List PatternAt) → AllByRecursion S g → AllByRecursion S (kept g)
  all_kept S [] h = tt
  all_kept S (x ∷ g) h =
      elim (Q x.pattern) as (λ c. AllByRecursion S (if c then x ∷ kept g else kept g)) [
        | true ↦ (h.0, all_kept S g h.1)
        | false ↦ all_kept S g h.1
      ]

  -- one with the first one's pattern
  gather_first : (at : PatternAt) (g : List PatternAt) (p : List ℕ) → Heads p g → at.pattern ≡ p → same at.pattern p ≡ true → Q at.pattern ≡ true → kept (gather at g) ≡ gather at (kept g)
  unfolding gather_by
  gather_first at [] p h one s e = absurd h
  gather_first at (n ∷ more) p h one s e =
      let alike : same at.pattern n.pattern ≡ true = ap (same at.pattern) h ∙ s in
      let first : at.pattern ≡ n.pattern = one ∙ sym h in
      let x : PatternAt = if is_before n at then n else at in
      ap (λ c. kept (gather_by at n more c)) alike
      ∙ taken x more (ap Q (either at n (is_before n at) first) ∙ e)
      ∙ sym (ap (gather_by at n (kept more)) alike)
      ∙ sym (ap (gather at) (taken n more (ap Q (sym first) ∙ e)))

  -- one with another pattern than all
  gather_other : (at : PatternAt) (g : List PatternAt) → AllByRecursion (λ (x : PatternAt). same at.pattern x.pattern ≡ false) g → Q at.pattern ≡ true → kept (gather at g) ≡ gather at (kept g)
  gather_other at g h e =
      ap kept (alone at g h) ∙ taken at g e ∙ sym (alone at (kept g) (all_kept (λ (x : PatternAt). same at.pattern x.pattern ≡ false) g h))

  gather_kept : (a : Assignment) (rest : List Assignment) → Sorted (a ∷ rest) → Q a.position.pattern ≡ true
      → kept (gather (pattern_of a) (gathered (map pattern_of rest))) ≡ gather (pattern_of a) (kept (gathered (map pattern_of rest)))
  gather_kept a [] s e = taken (pattern_of a) [] e
  gather_kept a (h ∷ rest) s e =
      elim (same a.position.pattern h.position.pattern) as (λ c. same a.position.pattern h.position.pattern ≡ c
      → kept (gather (pattern_of a) (gathered (map pattern_of (h ∷ rest)))) ≡ gather (pattern_of a) (kept (gathered (map pattern_of (h ∷ rest))))) [
        | true ↦ λ one.
            gather_first (pattern_of a) (gathered (map pattern_of (h ∷ rest))) h.position.pattern (heads (pattern_of h) (gathered (map pattern_of rest)))
            (same_text a.position.pattern h.position.pattern one) one e
        | false ↦ λ two.
            gather_other (pattern_of a) (gathered (map pattern_of (h ∷ rest)))
            (all_gathered (λ (p : List ℕ). same a.position.pattern p ≡ false) (h ∷ rest) (others_after a h rest s two)) e
      ] refl

  -- those with some patterns, gathered, are those of all
  gathered_kept : (l : List Assignment) → Sorted l → kept (gathered (map pattern_of l)) ≡ gathered (map pattern_of (filter of_pattern l))
  gathered_kept [] s = refl
  gathered_kept (a ∷ rest) s =
      let more = gathered_kept rest (and_second _ _ s) in
      elim (Q a.position.pattern) as (λ c. Q a.position.pattern ≡ c
      → kept (gather (pattern_of a) (gathered (map pattern_of rest))) ≡ gathered (map pattern_of (if c then a ∷ filter of_pattern rest else filter of_pattern rest))) [
        | true ↦ λ e. gather_kept a rest s e ∙ ap (gather (pattern_of a)) more
        | false ↦ λ e. gather_dropped (pattern_of a) (gathered (map pattern_of rest)) e ∙ more
      ] refl

-- ---- a prefix, and its first byte

no_prefix : (first : ℕ) (more text : List ℕ) → begins_with first text ≡ false → has_prefix (first ∷ more) text ≡ false
no_prefix first more [] e = refl
no_prefix first more (b ∷ text) e = ap (λ c. c && has_prefix more text) e

prefix_kept : (first : ℕ) (more : List ℕ) (l : List PatternAt) → filter (is_below (first ∷ more)) (filter (λ (x : PatternAt). begins_with first x.pattern) l) ≡ filter (is_below (first ∷ more)) l
prefix_kept first more [] = refl
prefix_kept first more (x ∷ l) =
    let P = is_below (first ∷ more) in
    let rest = filter (λ (y : PatternAt). begins_with first y.pattern) l in
    elim (begins_with first x.pattern) as (λ c. begins_with first x.pattern ≡ c → filter P (if c then x ∷ rest else rest) ≡ filter P (x ∷ l)) [
      | true ↦ λ e. ap (λ (g : List PatternAt). if P x then x ∷ g else g) (prefix_kept first more l)
      | false ↦ λ e. prefix_kept first more l ∙ sym (ap (λ c. if c then x ∷ filter P l else filter P l) (no_prefix first more x.pattern e))
    ] refl

-- of what a database assigns to patterns with the first byte of a prefix, and to all
pub gathered_below : (t : Tree) (prefix more : List ℕ) (first : ℕ) (found : List Assignment) → finite.entries (map_of t) ≡ map entry_of (members_under [] t)
    → prefix ≡ first ∷ more → found ≡ members_from first t
    → filter (is_below prefix) (gathered (map pattern_of found)) ≡ filter (is_below prefix) (database_patterns t)
gathered_below t prefix more first found is begins e =
    let all = members_under [] t in
    let sorted : Sorted all = subst (λ (es : List _). T (is_sorted place_cmp es)) is (finite.entries_sorted (map_of t)) in
    ap (λ (p : List ℕ). filter (is_below p) (gathered (map pattern_of found))) begins
    ∙ ap (λ (l : List Assignment). filter (is_below (first ∷ more)) (gathered (map pattern_of l))) e
    ∙ ap (filter (is_below (first ∷ more))) (sym (gathered_kept (begins_with first) all sorted))
    ∙ prefix_kept first more (gathered (map pattern_of all))
    ∙ ap (λ (p : List ℕ). filter (is_below p) (gathered (map pattern_of all))) (sym begins)

-- if no text has the prefix
pub nothing_closest : (patterns : List PatternAt) (texts : List (List ℕ)) → texts ≡ [] → closest_report patterns texts ≡ []
unfolding closest_after
nothing_closest patterns texts e = ap (closest_report patterns) e

pub no_items : {X : Type 0} (l : List X) → length l ≡ 0 → l ≡ []
no_items [] h = refl
no_items (x ∷ l) h = absurd (omega (arith, h))
