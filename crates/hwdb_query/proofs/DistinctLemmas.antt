-- A tree has no pattern and key twice.
use Rattle.std.proofs.Common.{◌≡◌, ◌∙◌, ap, sym, ℕ, List, [], ◌∷◌, ◌++◌, map, arith, append_assoc, Option, Some, None}
use Rattle.std.specs.List.{AllByRecursion}
use Rattle.std.specs.Cmp.Lexicographic.{slice_cmp}
use Rattle.std.specs.Ordering.{nat_cmp}
use Rattle.std.specs.declared.cmp.Ordering.TheVariants.{Less, Equal}
use Rattle.std.proofs.lemmas.Cmp.{nat_list_cmp_total, tied_itself}
use Rattle.hwdb_spec.specs.Tree.{Tree, Children, Value, values_under, values_below, KeysAscend, IsTree, BytesAscend}
use Rattle.hwdb_spec.specs.Tree.Tree.{Node}
use Rattle.hwdb_spec.specs.Tree.Children.{NoMore, Child}
use Rattle.hwdb_query.specs.Lemmas.Paths.{Above, From, all_map, below_above, keys_above, under_from}
use Rattle.hwdb_spec.specs.Lemmas.Lists.{same_byte}

-- one entry's path and stored key differ from all those of a list
abbrev pub Apart : List ℕ × Value → List (List ℕ × Value) → Type 0
Apart p ps = AllByRecursion (λ (q : List ℕ × Value). (p.0 ≡ q.0) → (p.1.key ≡ q.1.key) → ⊥) ps

unfoldable pub Distinct : List (List ℕ × Value) → Type 0
Distinct [] = Unit {0}
Distinct (p ∷ ps) = Apart p ps × Distinct ps

nothing_distinct : Distinct []
unfolding Distinct
nothing_distinct = tt

distinct_append : (ps qs : List (List ℕ × Value)) → Distinct ps → Distinct qs → AllByRecursion (λ (p : List ℕ × Value). Apart p qs) ps → Distinct (ps ++ qs)
unfolding Distinct
distinct_append [] qs d e far = e
distinct_append (p ∷ ps) qs d e far = (both ps qs d.0 far.0, distinct_append ps qs d.1 e far.1)
  where
    both : (ps qs : List (List ℕ × Value)) → Apart p ps → Apart p qs → Apart p (ps ++ qs)
    both [] qs a b = b
    both (r ∷ ps) qs a b = (a.0, both ps qs a.1 b)

own_apart : (path : List ℕ) (v : Value) (vs : List Value) → AllByRecursion (λ w. slice_cmp nat_cmp v.key w.key ≡ Less) vs → Apart (path, v) (map (λ w. (path, w)) vs)
own_apart path v [] a = tt
own_apart path v (w ∷ ws) a = (
  (λ p k. let t : slice_cmp nat_cmp v.key v.key ≡ Equal = tied_itself nat_list_cmp_total v.key in
      let l : slice_cmp nat_cmp v.key v.key ≡ Less = ap (slice_cmp nat_cmp v.key) k ∙ a.0 in cc),
  own_apart path v ws a.1,
)

own_distinct : (path : List ℕ) (before : Option (List ℕ)) (values : List Value) → KeysAscend before values → Distinct (map (λ v. (path, v)) values)
unfolding Distinct
own_distinct path before [] h = tt
own_distinct path before (v ∷ vs) h = (own_apart path v vs (keys_above v.key vs h.1), own_distinct path (Some v.key) vs h.1)

longer : (path rest : List ℕ) (byte : ℕ) → path ≡ path ++ byte ∷ rest → ⊥
longer [] rest byte e = cc
longer (b ∷ path) rest byte e = let f : path ≡ path ++ byte ∷ rest = cc in longer path rest byte f

far_own : (path : List ℕ) (values : List Value) (qs : List (List ℕ × Value)) → AllByRecursion (λ (q : List ℕ × Value). Above path 0 q.0) qs → AllByRecursion (λ (p : List ℕ × Value). Apart p qs) (map (λ v. (path, v)) values)
far_own path [] qs a = tt
far_own path (v ∷ vs) qs a =
    (all_map (λ (q : List ℕ × Value). Above path 0 q.0) (λ (q : List ℕ × Value). (path ≡ q.0) → (v.key ≡ q.1.key) → ⊥) (λ q b p k. longer path b.rest b.byte (p ∙ b.is)) qs a, far_own path vs qs a)

far_kids : (path : List ℕ) (byte : ℕ) (ps qs : List (List ℕ × Value)) → AllByRecursion (λ (p : List ℕ × Value). From (path ++ byte ∷ []) p.0) ps → AllByRecursion (λ (q : List ℕ × Value). Above path byte q.0) qs → AllByRecursion (λ (p : List ℕ × Value). Apart p qs) ps
far_kids path byte [] qs a b = tt
far_kids path byte (p ∷ ps) qs a b =
    let f = a.0 in
    let begins : p.0 ≡ path ++ byte ∷ f.rest = f.is ∙ append_assoc path (byte ∷ []) f.rest in (
      all_map (λ (q : List ℕ × Value). Above path byte q.0) (λ (q : List ℕ × Value). (p.0 ≡ q.0) → (p.1.key ≡ q.1.key) → ⊥)
          (λ q b e k. let same : byte ≡ b.byte = same_byte path f.rest b.rest byte b.byte (sym begins ∙ e ∙ b.is) in let above = b.above in omega arith) qs b,
      far_kids path byte ps qs a.1 b,
    )

mutual
  unfolding values_under IsTree

  pub under_distinct : (path : List ℕ) (t : Tree) → IsTree t → Distinct (values_under path t)
  under_distinct path (Node prefix values children) h =
      let below : Distinct (values_below (path ++ prefix) children) = below_distinct (path ++ prefix) 0 children h.1 in
      distinct_append (map (λ v. (path ++ prefix, v)) values) (values_below (path ++ prefix) children) (own_distinct (path ++ prefix) None values h.0) below
      (far_own (path ++ prefix) values (values_below (path ++ prefix) children) (below_above (path ++ prefix) 0 children h.1))

  below_distinct : (path : List ℕ) (low : ℕ) (ks : Children) → BytesAscend low ks → Distinct (values_below path ks)
  below_distinct path low NoMore h = nothing_distinct
  below_distinct path low (Child byte t more) h =
      let here : Distinct (values_under (path ++ byte ∷ []) t) = under_distinct (path ++ byte ∷ []) t h.1 in
      let rest : Distinct (values_below path more) = below_distinct path byte more h.2 in
      distinct_append (values_under (path ++ byte ∷ []) t) (values_below path more) here rest
      (far_kids path byte (values_under (path ++ byte ∷ []) t) (values_below path more) (under_from (path ++ byte ∷ []) t h.1) (below_above path byte more h.2))
