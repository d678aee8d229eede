-- The paths of what is below a node, and the keys of one node's values.
use Rattle.std.proofs.Common.{◌≡◌, ◌∙◌, refl, ℕ, ◌<◌, List, [], ◌∷◌, ◌++◌, map, arith, append_assoc, Some}
use Rattle.std.specs.List.{AllByRecursion}
use Rattle.std.specs.Cmp.Lexicographic.{slice_cmp}
use Rattle.std.specs.Ordering.{nat_cmp}
use Rattle.std.specs.declared.cmp.Ordering.TheVariants.{Less}
use Rattle.std.proofs.lemmas.Cmp.{nat_list_cmp_total}
use Rattle.hwdb_spec.specs.Tree.{Tree, Children, Value, values_under, values_below, KeysAscend, IsTree, BytesAscend}
use Rattle.hwdb_spec.specs.Tree.Tree.{Node}
use Rattle.hwdb_spec.specs.Tree.Children.{NoMore, Child}

-- keys above a key stay above it
pub keys_above : (before : List ℕ) (values : List Value) → KeysAscend (Some before) values → AllByRecursion (λ v. slice_cmp nat_cmp before v.key ≡ Less) values
keys_above before [] h = tt
keys_above before (v ∷ vs) h = (h.0, lift vs (keys_above v.key vs h.1))
  where
    lift : (vs : List Value) → AllByRecursion (λ w. slice_cmp nat_cmp v.key w.key ≡ Less) vs → AllByRecursion (λ w. slice_cmp nat_cmp before w.key ≡ Less) vs
    lift [] a = tt
    lift (w ∷ ws) a = (nat_list_cmp_total.trans before v.key w.key h.0 a.0, lift ws a.1)

-- paths that go on from a path with a byte above `low`
pub record Above (path : List ℕ) (low : ℕ) (pattern : List ℕ) : Type 0 where
  pub byte : ℕ
  pub rest : List ℕ
  pub is : pattern ≡ path ++ byte ∷ rest
  pub above : low < byte

-- paths that begin with a path
pub record From (path pattern : List ℕ) : Type 0 where
  pub rest : List ℕ
  pub is : pattern ≡ path ++ rest

pub all_append : (P : List ℕ × Value → Type 0) (ps qs : List (List ℕ × Value)) → AllByRecursion P ps → AllByRecursion P qs → AllByRecursion P (ps ++ qs)
all_append P [] qs a b = b
all_append P (p ∷ ps) qs a b = (a.0, all_append P ps qs a.1 b)

pub all_map : (P Q : List ℕ × Value → Type 0) → ((p : List ℕ × Value) → P p → Q p) → (ps : List (List ℕ × Value)) → AllByRecursion P ps → AllByRecursion Q ps
all_map P Q f [] a = tt
all_map P Q f (p ∷ ps) a = (f p a.0, all_map P Q f ps a.1)

pub own_from : (path prefix : List ℕ) (values : List Value) → AllByRecursion (λ (p : List ℕ × Value). From path p.0) (map (λ v. (path ++ prefix, v)) values)
own_from path prefix [] = tt
own_from path prefix (v ∷ vs) = (record { rest = prefix; is = refl }, own_from path prefix vs)

mutual
  unfolding values_under IsTree

  pub under_from : (path : List ℕ) (t : Tree) → IsTree t → AllByRecursion (λ (p : List ℕ × Value). From path p.0) (values_under path t)
  under_from path (Node prefix values children) h =
      let below : AllByRecursion (λ (p : List ℕ × Value). Above (path ++ prefix) 0 p.0) (values_below (path ++ prefix) children) = below_above (path ++ prefix) 0 children h.1 in
      all_append (λ (p : List ℕ × Value). From path p.0) (map (λ v. (path ++ prefix, v)) values) (values_below (path ++ prefix) children) (own_from path prefix values)
      (all_map (λ (p : List ℕ × Value). Above (path ++ prefix) 0 p.0) (λ (p : List ℕ × Value). From path p.0) (λ p a. record { rest = prefix ++ a.byte ∷ a.rest; is = a.is ∙ append_assoc path prefix (a.byte ∷ a.rest) }) _ below)

  pub below_above : (path : List ℕ) (low : ℕ) (ks : Children) → BytesAscend low ks → AllByRecursion (λ (p : List ℕ × Value). Above path low p.0) (values_below path ks)
  below_above path low NoMore h = tt
  below_above path low (Child byte t more) h =
      let here : AllByRecursion (λ (p : List ℕ × Value). From (path ++ byte ∷ []) p.0) (values_under (path ++ byte ∷ []) t) = under_from (path ++ byte ∷ []) t h.1 in
      let rest : AllByRecursion (λ (p : List ℕ × Value). Above path byte p.0) (values_below path more) = below_above path byte more h.2 in
      let more_than = h.0 in
      all_append (λ (p : List ℕ × Value). Above path low p.0) (values_under (path ++ byte ∷ []) t) (values_below path more)
      (all_map (λ (p : List ℕ × Value). From (path ++ byte ∷ []) p.0) (λ (p : List ℕ × Value). Above path low p.0) (λ p f. record { byte = byte; rest = f.rest; is = f.is ∙ append_assoc path (byte ∷ []) f.rest; above = more_than }) _ here)
      (all_map (λ (p : List ℕ × Value). Above path byte p.0) (λ (p : List ℕ × Value). Above path low p.0) (λ p a. let b = a.above in record { byte = a.byte; rest = a.rest; is = a.is; above = omega arith }) _ rest)
