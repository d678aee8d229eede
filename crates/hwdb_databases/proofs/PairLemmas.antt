-- One step through two lists.
use Rattle.std.proofs.Common.{◌≡◌, ◌∙◌, ap, sym, refl, List, [], ◌∷◌, ◌++◌}
use Rattle.std.specs.Ordering.{match_ordering}
use Rattle.std.specs.declared.cmp.Ordering.{Ordering}
use Rattle.std.specs.declared.cmp.Ordering.TheVariants.{Less, Equal, Greater}
use Rattle.hwdb_spec_commands.specs.Differences.{change_between}
use Rattle.hwdb_spec_commands.specs.Differences.Change.{Came, Went}
use Rattle.hwdb_databases.specs.Views.{assignment_of}
use Rattle.hwdb_databases.specs.Internal.Merging.{by_place, merged, merged_from}
use Rattle.hwdb_databases.specs.Internal.Pairing.{told}
use Rattle.hwdb_query.specs.declared.answer.StoredAssignment.{StoredAssignment}

pub none_told : (old new : List StoredAssignment) → old ≡ [] → new ≡ [] → told old new ≡ []
unfolding merged
none_told old new o n = ap (λ (g : List StoredAssignment × List StoredAssignment). told g.0 g.1) (λ i. (o i, n i))

pub old_told : (old new rest : List StoredAssignment) (x : StoredAssignment) → old ≡ x ∷ rest → new ≡ [] → told old new ≡ Went (assignment_of x) ∷ told rest new
unfolding merged merged_from
old_told old new rest x o n =
    ap (λ (g : List StoredAssignment × List StoredAssignment). told g.0 g.1) (λ i. (o i, n i)) ∙ ap (λ l. Went (assignment_of x) ∷ told rest l) (sym n)

pub new_told : (old new rest : List StoredAssignment) (y : StoredAssignment) → old ≡ [] → new ≡ y ∷ rest → told old new ≡ Came (assignment_of y) ∷ told old rest
unfolding merged
new_told old new rest y o n =
    ap (λ (g : List StoredAssignment × List StoredAssignment). told g.0 g.1) (λ i. (o i, n i)) ∙ ap (λ l. Came (assignment_of y) ∷ told l rest) (sym o)

-- both have a first one
step : (x y : StoredAssignment) (xs ys : List StoredAssignment) → told (x ∷ xs) (y ∷ ys)
    ≡ match_ordering (by_place (assignment_of x) (assignment_of y)) (Went (assignment_of x) ∷ told xs (y ∷ ys)) (change_between (assignment_of x) (assignment_of y) ++ told xs ys)
    (Came (assignment_of y) ∷ told (x ∷ xs) ys)
unfolding merged merged_from
step x y xs ys = refl

module _ (old new xs ys : List StoredAssignment) (x y : StoredAssignment) (o : old ≡ x ∷ xs) (n : new ≡ y ∷ ys) where
  stepped : (r : Ordering) → by_place (assignment_of x) (assignment_of y) ≡ r → told old new
      ≡ match_ordering r (Went (assignment_of x) ∷ told xs new) (change_between (assignment_of x) (assignment_of y) ++ told xs ys) (Came (assignment_of y) ∷ told old ys)
  stepped r e =
      ap (λ (g : List StoredAssignment × List StoredAssignment). told g.0 g.1) (λ i. (o i, n i)) ∙ step x y xs ys
      ∙ ap (λ q. match_ordering q (Went (assignment_of x) ∷ told xs (y ∷ ys)) (change_between (assignment_of x) (assignment_of y) ++ told xs ys) (Came (assignment_of y) ∷ told (x ∷ xs) ys)) e
      ∙ ap (λ (g : List StoredAssignment × List StoredAssignment). match_ordering r (Went (assignment_of x) ∷ told xs g.1) (change_between (assignment_of x) (assignment_of y) ++ told xs ys) (Came (assignment_of y) ∷ told g.0 ys))
      (λ i. (sym o i, sym n i))

  pub less_told : by_place (assignment_of x) (assignment_of y) ≡ Less → told old new ≡ Went (assignment_of x) ∷ told xs new
  less_told e = stepped Less e

  pub equal_told : by_place (assignment_of x) (assignment_of y) ≡ Equal → told old new ≡ change_between (assignment_of x) (assignment_of y) ++ told xs ys
  equal_told e = stepped Equal e

  pub greater_told : by_place (assignment_of x) (assignment_of y) ≡ Greater → told old new ≡ Came (assignment_of y) ∷ told old ys
  greater_told e = stepped Greater e
