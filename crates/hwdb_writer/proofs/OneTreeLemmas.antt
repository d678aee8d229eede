-- A map has one tight tree.
use Rattle.std.proofs.Common.{◌≡◌, ◌<◌, ◌≤◌, ℕ, List, [], ◌∷◌, ◌++◌, map, append_assoc, true, cond, Option, Some, None, refl, sym, ◌∙◌, ap, subst, arith, Ordering, ◌⊎◌, inl, inr, ⊎_elim, IsSome, option_map}
use Rattle.std.specs.declared.cmp.Ordering.TheVariants.{Less, Equal, Greater}
use Rattle.std.specs.Ordering.{nat_cmp, ordering_reverse, is_eq}
use Rattle.std.specs.Cmp.{tied_itself}
use Rattle.std.specs.Cmp.Lexicographic.{slice_cmp, nat_list_cmp_total}
use Rattle.std.specs.FinMap.{get, get-from_entries}
use Rattle.std.proofs.lemmas.Bool.{cases_lt}
use Rattle.hwdb_spec.specs.Tree.{Value, Tree, Children, count, prefix_of, Map, map_of, values_under, values_below, key_of, IsTree, BytesAscend, KeysAscend}
use Rattle.hwdb_spec.specs.Tree.Tree.{Node}
use Rattle.hwdb_spec.specs.Tree.Children.{NoMore, Child}
use Rattle.hwdb_spec.specs.Written.{IsTight, AreTight, IsForked, AllKeys, IsTightTree, IsWritten, written}
use Rattle.hwdb_writer.proofs.MeetingLemmas.{meet, met, Differ}
use Rattle.hwdb_writer.proofs.MapLemmas.{Place, Entry, Assigned, full, got, found, found_both, found_cons, one, one_is, one_other, either, entries, given, is_at, Off, values_off, off_tree, off_children, off_here, append_nil, bytes_same, fork_off, longer}
use Rattle.hwdb_spec.specs.Lemmas.Places.{key_is as stored_is, place_total}
use Rattle.hwdb_spec.specs.Lemmas.Lists.{same_rest}

-- the first of two places where something may be found
either_first : {A : Type 0} (x y : Option A) (a : A) → x ≡ Some a → either x y ≡ Some a
unfolding either
either_first x y a e = ap (λ z. either z y) e

either_second : {A : Type 0} (x y : Option A) → x ≡ None → either x y ≡ y
unfolding either
either_second x y e = ap (λ z. either z y) e

either_none : {A : Type 0} (x y : Option A) → y ≡ None → either x y ≡ x
unfolding either
either_none None y e = e
either_none (Some x) y e = refl

-- a key that begins with a space, and what comes after the space
key_is : (s : List ℕ) → IsSome (key_of s) → (k : List ℕ) × (key_of s ≡ Some k)
key_is s h = by (key_of s) h
  where
    by : (o : Option (List ℕ)) → IsSome o → (k : List ℕ) × (o ≡ Some k)
    by None i = absurd (cc)
    by (Some k) i = (k, refl)

one_here : (path k : List ℕ) (v : Value) → key_of v.key ≡ Some k → one (path, k) path v ≡ Some (given v)
one_here path k v e =
    one_is (path, k) path v k e ∙ (let t : is_at (path, k) (path, k) ≡ true = ap is_eq (tied_itself place_total (path, k)) in ap (λ b. cond b (Some (given v)) None) t)

-- an assignment below a path, whose pattern doesn't go on with the byte c
record Apart (c : ℕ) (path : List ℕ) (xs : List Entry) : Type 0 where
  rest : List ℕ
  key : List ℕ
  what : Assigned
  here : found (path ++ rest, key) xs ≡ Some what
  other : (r : List ℕ) → rest ≡ c ∷ r → ⊥

abbrev vals : List ℕ → List Value → List Entry
vals path vs = map (λ v. (path, v)) vs

value_apart : (c : ℕ) (path : List ℕ) (v : Value) (vs : List Value) (xs : List Entry) → IsSome (key_of v.key) → Apart c path (vals path (v ∷ vs) ++ xs)
value_apart c path v vs xs s =
    let k = key_is v.key s in
    let P : List ℕ → Type 0 = λ pattern. found (pattern, k.0) ((path, v) ∷ (vals path vs ++ xs)) ≡ Some (given v) in
    record {
      rest = [];
      key = k.0;
      what = given v;
      here = subst P (sym (append_nil path)) (found_cons (path, k.0) path v (vals path vs ++ xs) ∙ either_first _ _ (given v) (one_here path k.0 v k.1));
      other = λ r e. absurd (cc);
    }

-- what is apart in a child is apart in the node, if the child's byte isn't c
child_apart : (c b : ℕ) (path : List ℕ) (prefix : List ℕ) (xs before after : List Entry) → (b ≡ c → ⊥) → Apart 0 ((path ++ b ∷ []) ++ prefix) xs → ((q : Place) (more : List ℕ) → q.0 ≡ path ++ b ∷ more → found q before ≡ None) →
    Apart c path (before ++ (xs ++ after))
child_apart c b path prefix xs before after ne a none =
    let rest = b ∷ (prefix ++ a.rest) in
    let at : ((path ++ b ∷ []) ++ prefix) ++ a.rest ≡ path ++ rest = append_assoc (path ++ b ∷ []) prefix a.rest ∙ append_assoc path (b ∷ []) (prefix ++ a.rest) in
    let P : List ℕ → Type 0 = λ pattern. found (pattern, a.key) xs ≡ Some a.what in
    record {
      rest = rest;
      key = a.key;
      what = a.what;
      here =
          found_both (path ++ rest, a.key) before (xs ++ after)
          ∙ either_second _ _ (none (path ++ rest, a.key) (prefix ++ a.rest) refl)
          ∙ found_both (path ++ rest, a.key) xs after
          ∙ either_first _ _ a.what (subst P at a.here);
      other = λ r e. ne (cc);
    }

off_pattern : (q : Place) (path pattern : List ℕ) → q.0 ≡ pattern → Off path pattern → Off path q.0
off_pattern q path pattern e h r f = h r (sym e ∙ f)

-- below bytes above b nothing is found whose pattern goes on with d, up to b
above_off : (path : List ℕ) (b : ℕ) (ks : Children) → BytesAscend b ks → (q : Place) (d : ℕ) (more : List ℕ) → d ≤ b → q.0 ≡ path ++ d ∷ more → found q (values_below path ks) ≡ None
unfolding IsTree values_under found entries
above_off path b NoMore a q d more le e = refl
above_off path b (Child c t ks) a q d more le e =
    let lt = a.0 in
    let ne : d ≡ c → ⊥ = λ f. absurd (omega (arith, f, le, lt)) in
    found_both q (values_under (path ++ c ∷ []) t) (values_below path ks)
    ∙ either_second _ _ (off_tree q (path ++ c ∷ []) t (off_pattern q (path ++ c ∷ []) (path ++ d ∷ more) e (fork_off path c d more ne)))
    ∙ above_off path c ks a.2 q d more (omega (arith, le, lt)) e

pick : (c b d : ℕ) → b < d → (b ≡ c → ⊥) ⊎ (d ≡ c → ⊥)
pick c b d lt = ⊎_elim {C = (b ≡ c → ⊥) ⊎ (d ≡ c → ⊥)} (λ l. inl (λ e. absurd (omega (arith, l, e)))) (λ g. inr (λ e. absurd (omega (arith, lt, g, e)))) (cases_lt b c)

nothing : (q : Place) → found q [] ≡ None
unfolding found entries
nothing q = refl

-- one of two children is apart from any byte
two_apart : (c : ℕ) (path : List ℕ) (b : ℕ) (t : Tree) (d : ℕ) (u : Tree) (more : Children) → b < d → Apart 0 ((path ++ b ∷ []) ++ prefix_of t) (values_under (path ++ b ∷ []) t) → Apart 0 ((path ++ d ∷ []) ++ prefix_of u) (values_under (path ++ d ∷ []) u) →
    Apart c path (values_below path (Child b t (Child d u more)))
unfolding values_under
two_apart c path b t d u more lt first second =
    ⊎_elim {C = Apart c path (values_below path (Child b t (Child d u more)))}
    (λ ne. child_apart c b path (prefix_of t) (values_under (path ++ b ∷ []) t) [] (values_below path (Child d u more)) ne first (λ q r e. nothing q))
    (λ ne. child_apart c d path (prefix_of u) (values_under (path ++ d ∷ []) u) (values_under (path ++ b ∷ []) t) (values_below path more) ne second
    (λ q r e. off_tree q (path ++ b ∷ []) t (off_pattern q (path ++ b ∷ []) (path ++ d ∷ r) e (fork_off path b d r (λ g. absurd (omega (arith, g, lt)))))))
    (pick c b d lt)

-- a node that has a value, or two children, has an assignment apart from any byte
tree_apart : (c : ℕ) (path : List ℕ) (t : Tree) → IsTree t → IsTight t → IsForked t → Apart c (path ++ prefix_of t) (values_under path t)
unfolding IsTree IsTight values_under prefix_of count
tree_apart c path (Node prefix (v ∷ vs) ks) o h f = value_apart c (path ++ prefix) v vs (values_below (path ++ prefix) ks) h.0.0
tree_apart c path (Node prefix [] NoMore) o h f = absurd (omega (arith, f))
tree_apart c path (Node prefix [] (Child b t NoMore)) o h f = absurd (omega (arith, f))
tree_apart c path (Node prefix [] (Child b t (Child d u more))) o h f =
    let first = tree_apart 0 ((path ++ prefix) ++ b ∷ []) t o.1.1 h.1.1 h.1.0 in
    let second = tree_apart 0 ((path ++ prefix) ++ d ∷ []) u o.1.2.1 h.1.2.1 h.1.2.0 in
    two_apart c (path ++ prefix) b t d u more o.1.2.0 first second

-- nothing is found at other patterns than those that begin with the path and the prefix
off_prefix : (q : Place) (path prefix : List ℕ) (values : List Value) (ks : Children) → Off (path ++ prefix) q.0 → found q (values_under path (Node prefix values ks)) ≡ None
unfolding values_under
off_prefix q path prefix values ks off =
    found_both q (vals (path ++ prefix) values) (values_below (path ++ prefix) ks)
    ∙ either_second _ _ (values_off q (path ++ prefix) values (off_here _ _ off))
    ∙ off_children q (path ++ prefix) ks off

-- two trees give equal entries at each place
abbrev Same : List Entry → List Entry → Type 0
Same xs ys = (q : Place) → found q xs ≡ found q ys

-- a prefix that goes on after the other tree's end, or parts from it
parted : (path front : List ℕ) (c : ℕ) (l right : List ℕ) (values : List Value) (ks : Children) (u : Tree) → IsTree u → IsTight u → IsForked u → prefix_of u ≡ front ++ right → Differ (c ∷ l) right →
    Same (values_under path (Node (front ++ c ∷ l) values ks)) (values_under path u) → ⊥
parted path front c l right values ks u o h f e df same = by right e df
  where
    clash : (x : List ℕ) (a : Apart c (path ++ prefix_of u) (values_under path u)) → (path ++ prefix_of u) ++ a.rest ≡ path ++ (front ++ x) → ((r : List ℕ) → x ≡ c ∷ r → ⊥) → ⊥
    clash x a at ne =
        let q : Place = ((path ++ prefix_of u) ++ a.rest, a.key) in
        let off : Off (path ++ (front ++ c ∷ l)) q.0 = λ r g.
        let k = same_rest path (front ++ x) ((front ++ c ∷ l) ++ r) (sym at ∙ g ∙ append_assoc path (front ++ c ∷ l) r) in
        let m = same_rest front x (c ∷ l ++ r) (k ∙ append_assoc front (c ∷ l) r) in
        ne (l ++ r) m in
        let none = off_prefix q path (front ++ c ∷ l) values ks off in
        let some = same q ∙ a.here in
        cc

    by : (right : List ℕ) → prefix_of u ≡ front ++ right → Differ (c ∷ l) right → ⊥
    by [] e df =
        let a = tree_apart c path u o h f in
        clash a.rest a (ap (λ z. (path ++ z) ++ a.rest) (e ∙ append_nil front) ∙ append_assoc path front a.rest) a.other
    by (d ∷ r) e df =
        let a = tree_apart c path u o h f in
        clash (d ∷ (r ++ a.rest)) a
        (ap (λ z. (path ++ z) ++ a.rest) e ∙ append_assoc path (front ++ d ∷ r) a.rest ∙ ap (λ z. path ++ z) (append_assoc front (d ∷ r) a.rest))
        (λ r' g. df (cc))

same_back : (xs ys : List Entry) → Same xs ys → Same ys xs
same_back xs ys s q = sym (s q)

-- so two trees that give equal entries have one prefix
one_prefix : (path p : List ℕ) (vs : List Value) (ks : Children) (q : List ℕ) (ws : List Value) (ls : Children) → IsTree (Node p vs ks) → IsTight (Node p vs ks) → IsForked (Node p vs ks) → IsTree (Node q ws ls) → IsTight (Node q ws ls) → IsForked (Node q ws ls) →
    Same (values_under path (Node p vs ks)) (values_under path (Node q ws ls)) → p ≡ q
unfolding prefix_of
one_prefix path p vs ks q ws ls o h f o' h' f' same =
    let m = met p q in
    by (meet p q).front (meet p q).left (meet p q).right m.first m.second m.parted
  where
    turned : (a b : List ℕ) → Differ a b → Differ b a
    turned [] [] d = tt
    turned [] (y ∷ ys) d = tt
    turned (x ∷ xs) [] d = tt
    turned (x ∷ xs) (y ∷ ys) d = λ e. d (sym e)

    by : (front left right : List ℕ) → p ≡ front ++ left → q ≡ front ++ right → Differ left right → p ≡ q
    by front [] [] e g d = e ∙ sym g
    by front (c ∷ l) right e g d =
        let P : List ℕ → Type 0 = λ z. Same (values_under path (Node z vs ks)) (values_under path (Node q ws ls)) in
        absurd (parted path front c l right vs ks (Node q ws ls) o' h' f' g d (subst P e same))
    by front [] (c ∷ l) e g d =
        let P : List ℕ → Type 0 = λ z. Same (values_under path (Node z ws ls)) (values_under path (Node p vs ks)) in
        absurd (parted path front c l [] ws ls (Node p vs ks) o h f e (turned [] (c ∷ l) d) (subst P g (same_back _ _ same)))

keys_lower : (a b : List ℕ) (vs : List Value) → slice_cmp nat_cmp a b ≡ Less → KeysAscend (Some b) vs → KeysAscend (Some a) vs
keys_lower a b [] lt k = tt
keys_lower a b (v ∷ vs) lt k = (nat_list_cmp_total.trans a b v.key lt k.0, k.1)

-- under keys above s nothing is found at s
none_above : (path k s : List ℕ) (vs : List Value) → s ≡ 32 ∷ k → KeysAscend (Some s) vs → found (path, k) (vals path vs) ≡ None
none_above path k s [] e a = nothing (path, k)
none_above path k s (v ∷ vs) e a =
    let other : key_of v.key ≡ Some k → ⊥ = λ g.
    let same : s ≡ v.key = e ∙ sym (stored_is v.key k g) in
    let tied : slice_cmp nat_cmp s v.key ≡ Equal = ap (slice_cmp nat_cmp s) (sym same) ∙ tied_itself nat_list_cmp_total s in
    let less = a.0 in
    cc in
    found_cons (path, k) path v (vals path vs) ∙ either_second _ _ (one_other (path, k) path k v refl other) ∙ none_above path k s vs e (keys_lower s v.key vs a.0 a.1)

value_found : (path k : List ℕ) (v : Value) (vs : List Value) → key_of v.key ≡ Some k → found (path, k) (vals path (v ∷ vs)) ≡ Some (given v)
value_found path k v vs e = found_cons (path, k) path v (vals path vs) ∙ either_first _ _ (given v) (one_here path k v e)

value_missed : (path k j : List ℕ) (v : Value) (vs : List Value) → key_of v.key ≡ Some k → (j ≡ k → ⊥) → found (path, j) (vals path (v ∷ vs)) ≡ found (path, j) (vals path vs)
value_missed path k j v vs e ne =
    let other : key_of v.key ≡ Some j → ⊥ = λ g. ne (let h : Some j ≡ Some k = sym g ∙ e in cc) in
    found_cons (path, j) path v (vals path vs) ∙ either_second _ _ (one_other (path, j) path j v refl other)

decide : (j k : List ℕ) → (j ≡ k) ⊎ (j ≡ k → ⊥)
decide j k = by (slice_cmp nat_cmp j k) refl
  where
    tied : j ≡ k → slice_cmp nat_cmp j k ≡ Equal
    tied e = ap (slice_cmp nat_cmp j) (sym e) ∙ tied_itself nat_list_cmp_total j

    by : (r : Ordering) → slice_cmp nat_cmp j k ≡ r → (j ≡ k) ⊎ (j ≡ k → ⊥)
    by Less e = inr (λ g. let t = tied g in cc)
    by Equal e = inl (bytes_same j k e)
    by Greater e = inr (λ g. let t = tied g in cc)

tails_same : (path k : List ℕ) (v w : Value) (vs ws : List Value) → key_of v.key ≡ Some k → key_of w.key ≡ Some k → KeysAscend (Some v.key) vs → KeysAscend (Some w.key) ws →
    ((j : List ℕ) → found (path, j) (vals path (v ∷ vs)) ≡ found (path, j) (vals path (w ∷ ws))) → (j : List ℕ) → found (path, j) (vals path vs) ≡ found (path, j) (vals path ws)
tails_same path k v w vs ws e f a b same j =
    ⊎_elim {C = found (path, j) (vals path vs) ≡ found (path, j) (vals path ws)}
    (λ is. none_above path j v.key vs (stored_is v.key k e ∙ ap (λ z. 32 ∷ z) (sym is)) a ∙ sym (none_above path j w.key ws (stored_is w.key k f ∙ ap (λ z. 32 ∷ z) (sym is)) b))
    (λ ne. sym (value_missed path k j v vs e ne) ∙ same j ∙ value_missed path k j w ws f ne) (decide j k)

same_value : (v w : Value) → v.key ≡ w.key → given v ≡ given w → v ≡ w
same_value v w k g =
    λ i. record { priority = ap (λ (a : Assigned). a.priority) g i; line = ap (λ (a : Assigned). a.line) g i; key = k i; value = ap (λ (a : Assigned). a.value) g i; path = ap (λ (a : Assigned). a.path) g i }

some_same : {A : Type 0} (x y : A) (o p : Option A) → o ≡ p → o ≡ Some x → p ≡ Some y → x ≡ y
some_same x y o p e f g = cc

turned_back : (s t : List ℕ) → slice_cmp nat_cmp s t ≡ Greater → slice_cmp nat_cmp t s ≡ Less
turned_back s t e = nat_list_cmp_total.antisymm t s ∙ ap ordering_reverse e

-- a value whose key is below those of the others isn't among them
only_here : (path : List ℕ) (v : Value) (vs : List Value) (w : Value) (ws : List Value) → IsSome (key_of v.key) → slice_cmp nat_cmp v.key w.key ≡ Less → KeysAscend (Some w.key) ws →
    ((j : List ℕ) → found (path, j) (vals path (v ∷ vs)) ≡ found (path, j) (vals path (w ∷ ws))) → ⊥
only_here path v vs w ws h lt b same =
    let k = key_is v.key h in
    let some = value_found path k.0 v vs k.1 in
    let none = none_above path k.0 v.key (w ∷ ws) (stored_is v.key k.0 k.1) (lt, b) in
    let s = same k.0 in
    cc

-- lists of values that give equal entries at each key
one_values : (path : List ℕ) (c d : Option (List ℕ)) (vs ws : List Value) → AllKeys vs → AllKeys ws → KeysAscend c vs → KeysAscend d ws → ((k : List ℕ) → found (path, k) (vals path vs) ≡ found (path, k) (vals path ws)) → vs ≡ ws
one_values path c d [] [] h g a b same = refl
one_values path c d [] (w ∷ ws) h g a b same =
    let k = key_is w.key g.0 in
    let some = value_found path k.0 w ws k.1 in
    let none = nothing (path, k.0) in
    let s = same k.0 in
    absurd (cc)
one_values path c d (v ∷ vs) [] h g a b same =
    let k = key_is v.key h.0 in
    let some = value_found path k.0 v vs k.1 in
    let none = nothing (path, k.0) in
    let s = same k.0 in
    absurd (cc)
one_values path c d (v ∷ vs) (w ∷ ws) h g a b same =
    heads path v vs w ws h.0 g.0 a.1 b.1 same (slice_cmp nat_cmp v.key w.key) refl (λ tails. one_values path (Some v.key) (Some w.key) vs ws h.1 g.1 a.1 b.1 tails)
  where
    heads : (path : List ℕ) (v : Value) (vs : List Value) (w : Value) (ws : List Value) → IsSome (key_of v.key) → IsSome (key_of w.key) → KeysAscend (Some v.key) vs → KeysAscend (Some w.key) ws →
        ((j : List ℕ) → found (path, j) (vals path (v ∷ vs)) ≡ found (path, j) (vals path (w ∷ ws))) → (r : Ordering) → slice_cmp nat_cmp v.key w.key ≡ r →
        (((j : List ℕ) → found (path, j) (vals path vs) ≡ found (path, j) (vals path ws)) → vs ≡ ws) → v ∷ vs ≡ w ∷ ws
    heads path v vs w ws h g a b same Less e ih = absurd (only_here path v vs w ws h e b same)
    heads path v vs w ws h g a b same Greater e ih = absurd (only_here path w ws v vs g (turned_back v.key w.key e) a (λ j. sym (same j)))
    heads path v vs w ws h g a b same Equal e ih =
        let k = key_is v.key h in
        let is = bytes_same v.key w.key e in
        let f : key_of w.key ≡ Some k.0 = ap key_of (sym is) ∙ k.1 in
        let first = same_value v w is (some_same (given v) (given w) _ _ (same k.0) (value_found path k.0 v vs k.1) (value_found path k.0 w ws f)) in
        let rest = ih (tails_same path k.0 v w vs ws k.1 f a b same) in
        λ i. first i ∷ rest i

-- whether a pattern begins with a path
begins : (path pattern : List ℕ) → ((r : List ℕ) × (pattern ≡ path ++ r)) ⊎ Off path pattern
begins [] pattern = inl (pattern, refl)
begins (c ∷ path) [] = inr (λ r e. absurd (cc))
begins (c ∷ path) (d ∷ pattern) =
    ⊎_elim {C = ((r : List ℕ) × (d ∷ pattern ≡ c ∷ path ++ r)) ⊎ Off (c ∷ path) (d ∷ pattern)}
    (λ same. ⊎_elim {C = ((r : List ℕ) × (d ∷ pattern ≡ c ∷ path ++ r)) ⊎ Off (c ∷ path) (d ∷ pattern)} (λ on. inl (on.0, (λ i. head d c same i ∷ on.1 i))) (λ off. inr (λ r e. off r (cc))) (begins path pattern))
    (λ ne. inr (λ r e. ne (cc))) (decide (d ∷ []) (c ∷ []))
  where
    head : (d c : ℕ) → d ∷ [] ≡ c ∷ [] → d ≡ c
    head d c e = cc

-- at a node's own pattern nothing is found below it
none_below : (q : Place) (path : List ℕ) (ks : Children) → q.0 ≡ path → found q (values_below path ks) ≡ None
unfolding values_under
none_below q path NoMore e = nothing q
none_below q path (Child b t ks) e =
    let off : Off (path ++ b ∷ []) q.0 = λ r f. longer path b r (sym (append_assoc path (b ∷ []) r) ∙ sym f ∙ e) in
    found_both q (values_under (path ++ b ∷ []) t) (values_below path ks) ∙ either_second _ _ (off_tree q (path ++ b ∷ []) t off) ∙ none_below q path ks e

values_alike : (path p : List ℕ) (vs ws : List Value) (ks ls : Children) → Same (values_under path (Node p vs ks)) (values_under path (Node p ws ls)) → (k : List ℕ) → found (path ++ p, k) (vals (path ++ p) vs) ≡ found (path ++ p, k) (vals (path ++ p) ws)
unfolding values_under
values_alike path p vs ws ks ls same k =
    let q : Place = (path ++ p, k) in
    sym (found_both q (vals (path ++ p) vs) (values_below (path ++ p) ks) ∙ either_none _ _ (none_below q (path ++ p) ks refl)) ∙ same q
    ∙ found_both q (vals (path ++ p) ws) (values_below (path ++ p) ls) ∙ either_none _ _ (none_below q (path ++ p) ls refl)

below_alike : (path p : List ℕ) (vs ws : List Value) (ks ls : Children) → Same (values_under path (Node p vs ks)) (values_under path (Node p ws ls)) → Same (values_below (path ++ p) ks) (values_below (path ++ p) ls)
unfolding values_under
below_alike path p vs ws ks ls same q =
    ⊎_elim {C = found q (values_below (path ++ p) ks) ≡ found q (values_below (path ++ p) ls)}
    (λ is. none_below q (path ++ p) ks is ∙ sym (none_below q (path ++ p) ls is))
    (λ ne. sym (found_both q (vals (path ++ p) vs) (values_below (path ++ p) ks) ∙ either_second _ _ (values_off q (path ++ p) vs ne)) ∙ same q
    ∙ found_both q (vals (path ++ p) ws) (values_below (path ++ p) ls) ∙ either_second _ _ (values_off q (path ++ p) ws ne)) (decide q.0 (path ++ p))

-- a child under a byte below those of the others isn't among them
child_only : (path : List ℕ) (b : ℕ) (t : Tree) (ks ls : Children) → IsTree t → IsTight t → IsForked t → BytesAscend b ls → Same (values_below path (Child b t ks)) (values_below path ls) → ⊥
unfolding values_under
child_only path b t ks ls o h f a same =
    let x = tree_apart 0 (path ++ b ∷ []) t o h f in
    let q : Place = (((path ++ b ∷ []) ++ prefix_of t) ++ x.rest, x.key) in
    let at : q.0 ≡ path ++ b ∷ (prefix_of t ++ x.rest) = append_assoc (path ++ b ∷ []) (prefix_of t) x.rest ∙ append_assoc path (b ∷ []) (prefix_of t ++ x.rest) in
    let none = above_off path b ls a q b (prefix_of t ++ x.rest) (omega arith) at in
    let some = found_both q (values_under (path ++ b ∷ []) t) (values_below path ks) ∙ either_first _ _ x.what x.here in
    let s = same q in
    cc

-- children under one byte, and the others
first_alike : (path : List ℕ) (b : ℕ) (t u : Tree) (ks ls : Children) → BytesAscend b ks → BytesAscend b ls → Same (values_below path (Child b t ks)) (values_below path (Child b u ls)) → Same (values_under (path ++ b ∷ []) t) (values_under (path ++ b ∷ []) u)
unfolding values_under
first_alike path b t u ks ls a c same q =
    ⊎_elim {C = found q (values_under (path ++ b ∷ []) t) ≡ found q (values_under (path ++ b ∷ []) u)}
    (λ on. let at = on.1 ∙ append_assoc path (b ∷ []) on.0 in
    sym (found_both q (values_under (path ++ b ∷ []) t) (values_below path ks) ∙ either_none _ _ (above_off path b ks a q b on.0 (omega arith) at)) ∙ same q
    ∙ found_both q (values_under (path ++ b ∷ []) u) (values_below path ls) ∙ either_none _ _ (above_off path b ls c q b on.0 (omega arith) at))
    (λ off. off_tree q (path ++ b ∷ []) t off ∙ sym (off_tree q (path ++ b ∷ []) u off)) (begins (path ++ b ∷ []) q.0)

others_alike : (path : List ℕ) (b : ℕ) (t u : Tree) (ks ls : Children) → BytesAscend b ks → BytesAscend b ls → Same (values_below path (Child b t ks)) (values_below path (Child b u ls)) → Same (values_below path ks) (values_below path ls)
unfolding values_under
others_alike path b t u ks ls a c same q =
    ⊎_elim {C = found q (values_below path ks) ≡ found q (values_below path ls)}
    (λ on. let at = on.1 ∙ append_assoc path (b ∷ []) on.0 in above_off path b ks a q b on.0 (omega arith) at ∙ sym (above_off path b ls c q b on.0 (omega arith) at))
    (λ off. sym (found_both q (values_under (path ++ b ∷ []) t) (values_below path ks) ∙ either_second _ _ (off_tree q (path ++ b ∷ []) t off)) ∙ same q
    ∙ found_both q (values_under (path ++ b ∷ []) u) (values_below path ls) ∙ either_second _ _ (off_tree q (path ++ b ∷ []) u off)) (begins (path ++ b ∷ []) q.0)

three : (b c : ℕ) → (b < c) ⊎ ((c < b) ⊎ (b ≡ c))
three b c =
    ⊎_elim {C = (b < c) ⊎ ((c < b) ⊎ (b ≡ c))} (λ l. inl l)
    (λ g. ⊎_elim {C = (b < c) ⊎ ((c < b) ⊎ (b ≡ c))} (λ l. inr (inl l)) (λ k. inr (inr (omega (arith, g, k)))) (cases_lt c b)) (cases_lt b c)

mutual
  unfolding IsTree IsTight

  one_tree : (path : List ℕ) (t u : Tree) → IsTree t → IsTight t → IsForked t → IsTree u → IsTight u → IsForked u → Same (values_under path t) (values_under path u) → t ≡ u
  one_tree path (Node p vs ks) (Node q ws ls) o h f o' h' f' same =
      let ih = λ (s : Same (values_below (path ++ p) ks) (values_below (path ++ p) ls)). one_children (path ++ p) 0 0 ks ls o.1 h.1 o'.1 h'.1 s in
      let e = one_prefix path p vs ks q ws ls o h f o' h' f' same in
      let P : List ℕ → Type 0 = λ z. Same (values_under path (Node p vs ks)) (values_under path (Node z ws ls)) in
      let s = subst P (sym e) same in
      let v = one_values (path ++ p) None None vs ws h.0 h'.0 o.0 o'.0 (values_alike path p vs ws ks ls s) in
      let k = ih (below_alike path p vs ws ks ls s) in
      λ i. Node (e i) (v i) (k i)

  one_children : (path : List ℕ) (x y : ℕ) (ks ls : Children) → BytesAscend x ks → AreTight ks → BytesAscend y ls → AreTight ls → Same (values_below path ks) (values_below path ls) → ks ≡ ls
  one_children path x y NoMore NoMore a h b g same = refl
  one_children path x y NoMore (Child c u ls) a h b g same = absurd (child_only path c u ls NoMore b.1 g.1 g.0 tt (same_back _ _ same))
  one_children path x y (Child c t ks) NoMore a h b g same = absurd (child_only path c t ks NoMore a.1 h.1 h.0 tt same)
  one_children path x y (Child c t ks) (Child d u ls) a h b g same =
      let ih = λ (s : Same (values_under (path ++ c ∷ []) t) (values_under (path ++ c ∷ []) u)). one_tree (path ++ c ∷ []) t u a.1 h.1 h.0 b.1 g.1 g.0 s in
      let ihs = λ (s : Same (values_below path ks) (values_below path ls)). one_children path c d ks ls a.2 h.2 b.2 g.2 s in
      ⊎_elim {C = Child c t ks ≡ Child d u ls} (λ lt. absurd (child_only path c t ks (Child d u ls) a.1 h.1 h.0 (lt, b.1, b.2) same))
      (λ r. ⊎_elim {C = Child c t ks ≡ Child d u ls} (λ gt. absurd (child_only path d u ls (Child c t ks) b.1 g.1 g.0 (gt, a.1, a.2) (same_back _ _ same)))
      (λ e. let P : ℕ → Type 0 = λ z. Same (values_below path (Child c t ks)) (values_below path (Child z u ls)) in
      let Q : ℕ → Type 0 = λ z. BytesAscend z ls in
      let s = subst P (sym e) same in
      let bl = subst Q (sym e) b.2 in
      let first = ih (first_alike path c t u ks ls a.2 bl s) in
      let others = ihs (others_alike path c t u ks ls a.2 bl s) in
      λ i. Child (e i) (first i) (others i)) r) (three c d)

one_inside : (t u : Tree) → prefix_of t ≡ [] → prefix_of u ≡ [] → IsTree t → IsTight t → IsTree u → IsTight u → Same (values_under [] t) (values_under [] u) → t ≡ u
unfolding IsTree IsTight prefix_of
one_inside (Node p vs ks) (Node q ws ls) ep eq o h o' h' same =
    let P : List ℕ → Type 0 = λ z. Same (values_under [] (Node z vs ks)) (values_under [] (Node q ws ls)) in
    let Q : List ℕ → Type 0 = λ z. Same (values_under [] (Node [] vs ks)) (values_under [] (Node z ws ls)) in
    let s = subst Q eq (subst P ep same) in
    let v = one_values [] None None vs ws h.0 h'.0 o.0 o'.0 (values_alike [] [] vs ws ks ls s) in
    let k = one_children [] 0 0 ks ls o.1 h.1 o'.1 h'.1 (below_alike [] [] vs ws ks ls s) in
    λ i. Node ((ep ∙ sym eq) i) (v i) (k i)

full_same : (q : Place) (x y : Option Assigned) → option_map (full q) x ≡ option_map (full q) y → x ≡ y
full_same q None None e = refl
full_same q None (Some b) e = absurd (cc)
full_same q (Some a) None e = absurd (cc)
full_same q (Some a) (Some b) e =
    let f : full q a ≡ full q b = cc in
    λ i. Some (record { priority = (f i).position.priority; line = (f i).position.line; value = (f i).value; path = (f i).path })

-- a map has one tight tree
pub one_tight : (m : Map) (t u : Tree) → IsTightTree m t → IsTightTree m u → t ≡ u
unfolding map_of
one_tight m t u h g =
    one_inside t u h.root g.root h.ordered h.tight g.ordered g.tight
    (λ q. full_same q _ _ (sym (got q (values_under [] t)) ∙ sym (get-from_entries place_total _ q) ∙ ap (λ n. get n q) (h.same ∙ sym g.same) ∙ get-from_entries place_total _ q ∙ got q (values_under [] u)))

pub one_written : (m : Map) (a b : List ℕ) → IsWritten m a → IsWritten m b → a ≡ b
one_written m a b h g = h.2 ∙ ap written (one_tight m h.0 g.0 h.1 g.1) ∙ sym g.2
