-- The values of a node, entry by entry.
use Rattle.std.proofs.Common.{◌≡◌, ◌<◌, ◌-◌, ℕ, suc, ◌+◌, List, Option, Some, refl, sym, arith, subst}
use Rattle.hwdb_spec.specs.declared.Layout.{Layout}
use Rattle.hwdb_spec.specs.Format.{ValuesText, value_at, number_at, text_at, IsValue}
use Rattle.hwdb_reader.specs.Internal.Read.{values_at}
use Rattle.hwdb_spec.specs.Tree.{IsAbove}

module _ (l : Layout) (b : List ℕ) (e : ℕ) (before : Option (List ℕ)) (n i : ℕ) (lt : i < n) where
  pub values_next : ValuesText l b e before (values_at l b e (n - i)) → IsValue l b e × IsAbove before (text_at b (number_at 8 e b)) × ValuesText l b (e + l.value_size) (Some (text_at b (number_at 8 e b))) (values_at l b (e + l.value_size) (n - (i + 1)))
  unfolding ValuesText values_at value_at
  values_next h =
      let k : n - i ≡ suc (n - (i + 1)) = omega arith in
      let p = subst (λ m. ValuesText l b e before (values_at l b e m)) k h in
      (p.0, p.2, p.3)

  pub values_back : IsValue l b e → IsAbove before (text_at b (number_at 8 e b)) → ValuesText l b (e + l.value_size) (Some (text_at b (number_at 8 e b))) (values_at l b (e + l.value_size) (n - (i + 1))) → ValuesText l b e before (values_at l b e (n - i))
  unfolding ValuesText values_at value_at
  values_back v a rest =
      let k : n - i ≡ suc (n - (i + 1)) = omega arith in
      subst (λ m. ValuesText l b e before (values_at l b e m)) (sym k) (v, refl, a, rest)
