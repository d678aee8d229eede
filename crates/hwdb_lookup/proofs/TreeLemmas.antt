-- What a tree assigns to a device, part by part, and how far its text reaches.
use Rattle.std.proofs.Common.{◌≡◌, ◌∙◌, ap, sym, refl, ℕ, zero, suc, ◌+◌, ◌*◌, ◌≤◌, Bool, true, false, List, [], ◌∷◌, ◌++◌, map, filter, arith, append_assoc, IsTrue, ◌↔◌, subst, Option, None, Some}
use Rattle.std.specs.Prelude.{flat_map}
use Rattle.std.proofs.lemmas.Grind.{flat_map-append}
use Rattle.std.proofs.lemmas.List.Elements.{filter-append}
use Rattle.hwdb_pattern.specs.Laws.{MatchesIsTested, DeadStaysDead, DeadMatchesNothing}
use Rattle.hwdb_spec.specs.declared.Layout.{Layout}
use Rattle.hwdb_spec.specs.Patterns.{tokens, Matches}
use Rattle.hwdb_spec.specs.Assignment.{Assignment}
use Rattle.hwdb_spec.specs.Answers.{is_wanted, is_match}
use Rattle.hwdb_spec.specs.Tree.{Tree, Children, Value, IsLive, prefix_of, values_under, values_below, assigned_at, key_of}
use Rattle.hwdb_spec.specs.Tree.Tree.{Node}
use Rattle.hwdb_spec.specs.Tree.Children.{NoMore, Child}
use Rattle.hwdb_spec.specs.Format.{NodeText, ChildrenText, IsPlace, record_end, child_entry, child_off, prefix_off, text_at}
use Rattle.hwdb_lookup.specs.Internal.Heads.{own_members}
use Rattle.hwdb_lookup.specs.Internal.Descents.{wanted_under, wanted_below}

assigned : List ℕ × Value → List Assignment
assigned p = assigned_at p.0 p.1 (key_of p.1.key)

own_listed : (pattern : List ℕ) (values : List Value) → flat_map assigned (map (λ v. (pattern, v)) values) ≡ own_members pattern values
unfolding assigned
own_listed pattern [] = refl
own_listed pattern (v ∷ values) = ap (λ r. assigned_at pattern v (key_of v.key) ++ r) (own_listed pattern values)

never : (b : Bool) → (b ≡ true → ⊥) → b ≡ false
never true h = absurd (h refl)
never false h = refl

filter_in : (p : Assignment → Bool) (x : Assignment) (xs : List Assignment) → p x ≡ true → filter p (x ∷ xs) ≡ x ∷ filter p xs
filter_in p x xs h = cc

filter_out : (p : Assignment → Bool) (x : Assignment) (xs : List Assignment) → p x ≡ false → filter p (x ∷ xs) ≡ filter p xs
filter_out p x xs h = cc

one_wanted : (device pattern : List ℕ) (v : Value) (o : Option (List ℕ)) → is_match device pattern ≡ true → filter (is_wanted device) (assigned_at pattern v o) ≡ assigned_at pattern v o
one_wanted device pattern v None h = refl
one_wanted device pattern v (Some key) h = filter_in (is_wanted device) _ [] h

one_unwanted : (device pattern : List ℕ) (v : Value) (o : Option (List ℕ)) → is_match device pattern ≡ false → filter (is_wanted device) (assigned_at pattern v o) ≡ []
one_unwanted device pattern v None h = refl
one_unwanted device pattern v (Some key) h = filter_out (is_wanted device) _ [] h

pub own_wanted : (device pattern : List ℕ) (values : List Value) → is_match device pattern ≡ true → filter (is_wanted device) (own_members pattern values) ≡ own_members pattern values
own_wanted device pattern [] h = refl
own_wanted device pattern (v ∷ values) h =
    filter-append (is_wanted device) (assigned_at pattern v (key_of v.key)) (own_members pattern values)
    ∙ ap (λ r. r ++ filter (is_wanted device) (own_members pattern values)) (one_wanted device pattern v (key_of v.key) h)
    ∙ ap (λ r. assigned_at pattern v (key_of v.key) ++ r) (own_wanted device pattern values h)

pub own_unwanted : (device pattern : List ℕ) (values : List Value) → is_match device pattern ≡ false → filter (is_wanted device) (own_members pattern values) ≡ []
own_unwanted device pattern [] h = refl
own_unwanted device pattern (v ∷ values) h =
    filter-append (is_wanted device) (assigned_at pattern v (key_of v.key)) (own_members pattern values)
    ∙ ap (λ r. r ++ filter (is_wanted device) (own_members pattern values)) (one_unwanted device pattern v (key_of v.key) h)
    ∙ own_unwanted device pattern values h

pub match_is : MatchesIsTested → (device pattern : List ℕ) (b : Bool) → b ≡ true → (IsTrue b ↔ Matches (tokens pattern) device) → is_match device pattern ≡ true
match_is tested device pattern b e h = (tested (tokens pattern) device).1 (h.0 e)

pub mismatch_is : MatchesIsTested → (device pattern : List ℕ) (b : Bool) → b ≡ false → (IsTrue b ↔ Matches (tokens pattern) device) → is_match device pattern ≡ false
mismatch_is tested device pattern b e h = never (is_match device pattern) (λ t. let u : b ≡ true = h.1 ((tested (tokens pattern) device).0 t) in cc)

dead_is : (device path : List ℕ) (b : Bool) → b ≡ false → (IsTrue b ↔ IsLive path device) → IsLive path device → ⊥
dead_is device path b e h live = let t : b ≡ true = h.1 live in cc

-- a path that was dead before its end
pub dead_before : (device path more whole : List ℕ) (b : Bool) → DeadStaysDead → path ++ more ≡ whole → b ≡ false → (IsTrue b ↔ IsLive path device) → IsLive whole device → ⊥
dead_before device path more whole b stays w e h live = dead_is device path b e h (stays path more device (subst (λ p. IsLive p device) (sym w) live))

-- what a node assigns itself, and what its children assign
pub under_split : (device path prefix : List ℕ) (values : List Value) (children : Children)
    → wanted_under device path (Node prefix values children) ≡ filter (is_wanted device) (own_members (path ++ prefix) values) ++ wanted_below device (path ++ prefix) children
unfolding values_under assigned
under_split device path prefix values children =
    ap (filter (is_wanted device)) (flat_map-append assigned (map (λ v. (path ++ prefix, v)) values) (values_below (path ++ prefix) children))
    ∙ filter-append (is_wanted device) (flat_map assigned (map (λ v. (path ++ prefix, v)) values)) (flat_map assigned (values_below (path ++ prefix) children))
    ∙ ap (λ l. filter (is_wanted device) l ++ wanted_below device (path ++ prefix) children) (own_listed (path ++ prefix) values)

-- what the first child assigns, and what those after it assign
pub below_split : (device path : List ℕ) (byte : ℕ) (t : Tree) (more : Children) → wanted_below device path (Child byte t more) ≡ wanted_under device (path ++ byte ∷ []) t ++ wanted_below device path more
unfolding values_below assigned
below_split device path byte t more =
    ap (filter (is_wanted device)) (flat_map-append assigned (values_under (path ++ byte ∷ []) t) (values_below path more))
    ∙ filter-append (is_wanted device) (flat_map assigned (values_under (path ++ byte ∷ []) t)) (flat_map assigned (values_below path more))

pub below_none : (device path : List ℕ) → wanted_below device path NoMore ≡ []
unfolding values_below
below_none device path = refl

mutual
  dead_values : (device path : List ℕ) → ((more : List ℕ) → is_match device (path ++ more) ≡ false) → (more : List ℕ) (t : Tree) → wanted_under device (path ++ more) t ≡ []
  dead_values device path dead more (Node prefix values children) =
      under_split device (path ++ more) prefix values children
      ∙ ap (λ r. filter (is_wanted device) (own_members r values) ++ wanted_below device r children) (append_assoc path more prefix)
      ∙ ap (λ l. l ++ wanted_below device (path ++ (more ++ prefix)) children) (own_unwanted device (path ++ (more ++ prefix)) values (dead (more ++ prefix)))
      ∙ dead_below device path dead (more ++ prefix) children

  dead_below : (device path : List ℕ) → ((more : List ℕ) → is_match device (path ++ more) ≡ false) → (more : List ℕ) (ks : Children) → wanted_below device (path ++ more) ks ≡ []
  dead_below device path dead more NoMore = below_none device (path ++ more)
  dead_below device path dead more (Child byte t ks) =
      below_split device (path ++ more) byte t ks
      ∙ ap (λ r. wanted_under device r t ++ wanted_below device (path ++ more) ks) (append_assoc path more (byte ∷ []))
      ∙ ap (λ l. l ++ wanted_below device (path ++ more) ks) (dead_values device path dead (more ++ byte ∷ []) t)
      ∙ dead_below device path dead more ks

unmatched : (device path : List ℕ) → MatchesIsTested → DeadMatchesNothing → (IsLive path device → ⊥) → (more : List ℕ) → is_match device (path ++ more) ≡ false
unmatched device path matched patterns dead more = never _ (λ h. dead (patterns path more device ((matched (tokens (path ++ more)) device).0 h)))

no_more : (path : List ℕ) → path ++ [] ≡ path
no_more [] = refl
no_more (x ∷ path) = ap (λ l. x ∷ l) (no_more path)

-- a tree at a dead path assigns nothing
pub dead_at : (device path : List ℕ) (t : Tree) → MatchesIsTested → DeadMatchesNothing → (IsLive path device → ⊥) → wanted_under device path t ≡ []
dead_at device path t matched patterns dead = ap (λ p. wanted_under device p t) (sym (no_more path)) ∙ dead_values device path (unmatched device path matched patterns dead) [] t

-- and so does one whose path with its prefix is dead
pub dead_in : (device path : List ℕ) (t : Tree) → MatchesIsTested → DeadMatchesNothing → (IsLive (path ++ prefix_of t) device → ⊥) → wanted_under device path t ≡ []
unfolding prefix_of
dead_in device path (Node prefix values children) matched patterns dead =
    let none = unmatched device (path ++ prefix) matched patterns dead in
    under_split device path prefix values children
    ∙ ap (λ l. l ++ wanted_below device (path ++ prefix) children) (own_unwanted device (path ++ prefix) values (subst (λ p. is_match device p ≡ false) (no_more (path ++ prefix)) (none [])))
    ∙ ap (λ p. wanted_below device p children) (sym (no_more (path ++ prefix))) ∙ dead_below device (path ++ prefix) none [] children

-- ---- texts

record_large : (l : Layout) (b : List ℕ) (off : ℕ) → off ≤ record_end l b off
unfolding record_end
record_large l b off = omega arith

mutual
  unfolding NodeText

  -- a tree's text begins before its record ends
  pub node_begins : (l : Layout) (b : List ℕ) (levels from off : ℕ) (t : Tree) → NodeText l b levels from off t → from ≤ record_end l b off
  node_begins l b zero from off (Node prefix values children) h = absurd h
  node_begins l b (suc levels) from off (Node prefix values children) h =
      let k = children_begin l b levels from (child_entry l off 0) 0 off children h.5 in
      let e = record_large l b off in
      omega (arith, k, e)

  pub children_begin : (l : Layout) (b : List ℕ) (levels from entry byte end : ℕ) (ks : Children) → ChildrenText l b levels from entry byte end ks → from ≤ end
  children_begin l b levels from entry byte end NoMore h = omega (arith, h)
  children_begin l b levels from entry byte end (Child c t more) h =
      let n = node_begins l b levels from (child_off b entry) t h.2 in
      let k = children_begin l b levels (record_end l b (child_off b entry)) (entry + l.child_size) c end more h.3 in
      omega (arith, n, k)

pub begins_before : (l : Layout) (b : List ℕ) (levels from off : ℕ) (t : Tree) → NodeText l b levels from off t → from ≤ off
unfolding NodeText
begins_before l b zero from off (Node prefix values children) h = absurd h
begins_before l b (suc levels) from off (Node prefix values children) h = children_begin l b levels from (child_entry l off 0) 0 off children h.5

pub no_levels : (l : Layout) (b : List ℕ) (levels from off : ℕ) (t : Tree) → NodeText l b levels from off t → levels ≡ 0 → ⊥
unfolding NodeText
no_levels l b zero from off (Node prefix values children) h e = h
no_levels l b (suc levels) from off t h e = omega (arith, e)

pub prefix_placed : (l : Layout) (b : List ℕ) (levels from off : ℕ) (t : Tree) → NodeText l b levels from off t → IsPlace l b (prefix_off b off) × (prefix_of t ≡ text_at b (prefix_off b off))
unfolding NodeText prefix_of
prefix_placed l b zero from off (Node prefix values children) h = absurd h
prefix_placed l b (suc levels) from off (Node prefix values children) h = (h.0, h.1)

pub next_entry : (l : Layout) (off i : ℕ) → child_entry l off i + l.child_size ≡ child_entry l off (i + 1)
next_entry l off i = omega arith

pub next_value : (l : Layout) (first i : ℕ) → (first + l.value_size * i) + l.value_size ≡ first + l.value_size * (i + 1)
next_value l first i = omega arith
