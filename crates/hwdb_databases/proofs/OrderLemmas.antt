-- What a tree assigns ascends by pattern and key.
use Rattle.std.proofs.Common.{◌≡◌, ◌∙◌, ap, sym, refl, subst, ℕ, ◌<◌, List, [], ◌∷◌, ◌++◌, map, append_assoc, Option, Some, None, Bool, true, false, ◌&&◌, T}
use Rattle.std.specs.Prelude.{flat_map}
use Rattle.std.specs.FinMap as finite
use Rattle.std.specs.FinMap.Entries.{is_sorted, below_all}
use Rattle.std.specs.List.{AllByRecursion}
use Rattle.std.specs.Cmp.{nat_cmp_is}
use Rattle.std.specs.Ordering.{ordering_then, is_lt}
use Rattle.std.specs.declared.cmp.Ordering.{Ordering}
use Rattle.std.specs.declared.cmp.Ordering.TheVariants.{Less}
use Rattle.std.proofs.lemmas.Cmp.{nat_list_cmp_total, nat_cmp_total, tied_itself}
use Rattle.hwdb_spec.specs.Assignment.{Assignment, text_cmp}
use Rattle.hwdb_spec.specs.Tree.{Tree, Children, Value, values_under, values_below, KeysAscend, IsTree, BytesAscend, members_under, place_cmp, entry_of, key_of, assigned_at, map_of}
use Rattle.hwdb_spec.specs.Tree.Tree.{Node}
use Rattle.hwdb_spec.specs.Tree.Children.{NoMore, Child}
use Rattle.hwdb_query.specs.Internal.Members.{assignment_of as assigned_by}
use Rattle.hwdb_spec.specs.Lemmas.Places.{equal_place, key_is, place_total}
use Rattle.hwdb_query.specs.Lemmas.Paths.{Above, From, all_map, below_above, keys_above, under_from}

-- ---- what is below the nodes

-- one entry comes before all of a list, by path and stored key
abbrev pub Below : List ℕ × Value → List (List ℕ × Value) → Type 0
Below p ps = AllByRecursion (λ (q : List ℕ × Value). place_cmp (p.0, p.1.key) (q.0, q.1.key) ≡ Less) ps

unfoldable pub Rises : List (List ℕ × Value) → Type 0
Rises [] = Unit {0}
Rises (p ∷ ps) = Below p ps × Rises ps

nothing_rises : Rises []
unfolding Rises
nothing_rises = tt

rises_append : (ps qs : List (List ℕ × Value)) → Rises ps → Rises qs → AllByRecursion (λ (p : List ℕ × Value). Below p qs) ps → Rises (ps ++ qs)
unfolding Rises
rises_append [] qs d e far = e
rises_append (p ∷ ps) qs d e far = (both ps qs d.0 far.0, rises_append ps qs d.1 e far.1)
  where
    both : (ps qs : List (List ℕ × Value)) → Below p ps → Below p qs → Below p (ps ++ qs)
    both [] qs a b = b
    both (r ∷ ps) qs a b = (a.0, both ps qs a.1 b)

own_below : (path : List ℕ) (v : Value) (vs : List Value) → AllByRecursion (λ w. text_cmp v.key w.key ≡ Less) vs → Below (path, v) (map (λ w. (path, w)) vs)
own_below path v [] a = tt
own_below path v (w ∷ ws) a = (ap (λ o. ordering_then o (text_cmp v.key w.key)) (tied_itself nat_list_cmp_total path) ∙ a.0, own_below path v ws a.1)

own_rises : (path : List ℕ) (before : Option (List ℕ)) (values : List Value) → KeysAscend before values → Rises (map (λ v. (path, v)) values)
unfolding Rises
own_rises path before [] h = tt
own_rises path before (v ∷ vs) h = (own_below path v vs (keys_above v.key vs h.1), own_rises path (Some v.key) vs h.1)

-- a text comes before each that goes on from it
longer_above : (path rest : List ℕ) (byte : ℕ) → text_cmp path (path ++ byte ∷ rest) ≡ Less
longer_above [] rest byte = refl
longer_above (b ∷ path) rest byte = ap (λ o. ordering_then o (text_cmp path (path ++ byte ∷ rest))) (tied_itself nat_cmp_total b) ∙ longer_above path rest byte

-- the smaller of two bytes after one text decides
byte_above : (path r s : List ℕ) (b c : ℕ) → b < c → text_cmp (path ++ b ∷ r) (path ++ c ∷ s) ≡ Less
byte_above [] r s b c h = ap (λ o. ordering_then o (text_cmp r s)) (sym (nat_cmp_is b c Less h))
byte_above (d ∷ path) r s b c h = ap (λ o. ordering_then o (text_cmp (path ++ b ∷ r) (path ++ c ∷ s))) (tied_itself nat_cmp_total d) ∙ byte_above path r s b c h

far_own : (path : List ℕ) (values : List Value) (qs : List (List ℕ × Value)) → AllByRecursion (λ (q : List ℕ × Value). Above path 0 q.0) qs → AllByRecursion (λ (p : List ℕ × Value). Below p qs) (map (λ v. (path, v)) values)
far_own path [] qs a = tt
far_own path (v ∷ vs) qs a = (
  all_map (λ (q : List ℕ × Value). Above path 0 q.0) (λ (q : List ℕ × Value). place_cmp (path, v.key) (q.0, q.1.key) ≡ Less)
      (λ q b. ap (λ p. ordering_then (text_cmp path p) (text_cmp v.key q.1.key)) b.is ∙ ap (λ o. ordering_then o (text_cmp v.key q.1.key)) (longer_above path b.rest b.byte)) qs a,
  far_own path vs qs a,
)

far_kids : (path : List ℕ) (byte : ℕ) (ps qs : List (List ℕ × Value)) → AllByRecursion (λ (p : List ℕ × Value). From (path ++ byte ∷ []) p.0) ps → AllByRecursion (λ (q : List ℕ × Value). Above path byte q.0) qs → AllByRecursion (λ (p : List ℕ × Value). Below p qs) ps
far_kids path byte [] qs a b = tt
far_kids path byte (p ∷ ps) qs a b =
    let f = a.0 in
    let begins : p.0 ≡ path ++ byte ∷ f.rest = f.is ∙ append_assoc path (byte ∷ []) f.rest in (
      all_map (λ (q : List ℕ × Value). Above path byte q.0) (λ (q : List ℕ × Value). place_cmp (p.0, p.1.key) (q.0, q.1.key) ≡ Less)
          (λ q b. ap (λ (g : List ℕ × List ℕ). ordering_then (text_cmp g.0 g.1) (text_cmp p.1.key q.1.key)) (λ i. (begins i, b.is i))
          ∙ ap (λ o. ordering_then o (text_cmp p.1.key q.1.key)) (byte_above path f.rest b.rest byte b.byte b.above)) qs b,
      far_kids path byte ps qs a.1 b,
    )

mutual
  unfolding values_under IsTree

  pub under_rises : (path : List ℕ) (t : Tree) → IsTree t → Rises (values_under path t)
  under_rises path (Node prefix values children) h =
      let below : Rises (values_below (path ++ prefix) children) = below_rises (path ++ prefix) 0 children h.1 in
      rises_append (map (λ v. (path ++ prefix, v)) values) (values_below (path ++ prefix) children) (own_rises (path ++ prefix) None values h.0) below
      (far_own (path ++ prefix) values (values_below (path ++ prefix) children) (below_above (path ++ prefix) 0 children h.1))

  below_rises : (path : List ℕ) (low : ℕ) (ks : Children) → BytesAscend low ks → Rises (values_below path ks)
  below_rises path low NoMore h = nothing_rises
  below_rises path low (Child byte t more) h =
      let here : Rises (values_under (path ++ byte ∷ []) t) = under_rises (path ++ byte ∷ []) t h.1 in
      let rest : Rises (values_below path more) = below_rises path byte more h.2 in
      rises_append (values_under (path ++ byte ∷ []) t) (values_below path more) here rest
      (far_kids path byte (values_under (path ++ byte ∷ []) t) (values_below path more) (under_from (path ++ byte ∷ []) t h.1) (below_above path byte more h.2))

-- ---- and what they assign

pub and_of : (a b : Bool) → T a → T b → T (a && b)
and_of true b p q = q
and_of false b p q = p

pub and_first : (a b : Bool) → T (a && b) → T a
and_first true b p = tt
and_first false b p = p

pub and_second : (a b : Bool) → T (a && b) → T b
and_second true b p = p
and_second false b p = absurd p

pub is_less : (o : Ordering) → o ≡ Less → T (is_lt o)
is_less o e = subst (λ r. T (is_lt r)) (sym e) tt

assigned_below : (pattern key : List ℕ) (v : Value) → key_of v.key ≡ Some key → (ps : List (List ℕ × Value)) → Below (pattern, v) ps → T (below_all place_cmp (pattern, key) (map entry_of (flat_map assigned_by ps)))
assigned_below pattern key v is [] a = tt
assigned_below pattern key v is (q ∷ ps) a =
    let rest : T (below_all place_cmp (pattern, key) (map entry_of (flat_map assigned_by ps))) = assigned_below pattern key v is ps a.1 in
    elim (key_of q.1.key) as (λ o. key_of q.1.key ≡ o → T (below_all place_cmp (pattern, key) (map entry_of (assigned_at q.0 q.1 o ++ flat_map assigned_by ps)))) [
      | None ↦ λ e. rest
      | Some other ↦ λ e.
          let less : place_cmp (pattern, 32 ∷ key) (q.0, 32 ∷ other) ≡ Less =
          ap (λ (g : List ℕ × List ℕ). place_cmp (pattern, g.0) (q.0, g.1)) (λ i. (sym (key_is v.key key is) i, sym (key_is q.1.key other e) i)) ∙ a.0 in
          and_of _ _ (is_less (place_cmp (pattern, key) (q.0, other)) less) rest
    ] refl

assigned_sorted : (ps : List (List ℕ × Value)) → Rises ps → T (is_sorted place_cmp (map entry_of (flat_map assigned_by ps)))
unfolding Rises
assigned_sorted [] h = tt
assigned_sorted (p ∷ ps) h =
    let rest : T (is_sorted place_cmp (map entry_of (flat_map assigned_by ps))) = assigned_sorted ps h.1 in
    elim (key_of p.1.key) as (λ o. key_of p.1.key ≡ o → T (is_sorted place_cmp (map entry_of (assigned_at p.0 p.1 o ++ flat_map assigned_by ps)))) [
      | None ↦ λ e. rest
      | Some key ↦ λ e. and_of _ _ (assigned_below p.0 key p.1 e ps h.0) rest
    ] refl

-- what a tree assigns ascends
pub members_sorted : (t : Tree) → IsTree t → T (is_sorted place_cmp (map entry_of (members_under [] t)))
members_sorted t h = assigned_sorted (values_under [] t) (under_rises [] t h)

-- the entries of the map of an ascending list
pub entries_of_sorted : (es : List ((List ℕ × List ℕ) × Assignment)) → T (is_sorted place_cmp es) → finite.entries (finite.from_entries {R = place_cmp} es) ≡ es
entries_of_sorted es h =
    let one : finite.from_entries {R = place_cmp} es ≡ finite.from_sorted es =
    finite.same_map place_total equal_place (finite.from_entries es) (finite.from_sorted es) (λ q. finite.get-from_entries place_total es q ∙ sym (finite.get-from_sorted place_cmp es q h)) in
    ap finite.entries one ∙ finite.entries-from_sorted place_cmp es h

pub entries_of_tree : (t : Tree) → IsTree t → finite.entries (map_of t) ≡ map entry_of (members_under [] t)
unfolding map_of
entries_of_tree t h = entries_of_sorted (map entry_of (members_under [] t)) (members_sorted t h)
