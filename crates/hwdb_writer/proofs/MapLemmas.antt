-- To set a place of a tree is to set it in the map.
use Rattle.std.proofs.Common.{◌≡◌, ℕ, List, [], ◌∷◌, ◌++◌, map, flat_map, Bool, true, false, cond, Option, Some, None, refl, sym, ◌∙◌, ap, arith, append_assoc, eqb, Ordering, option_map}
use Rattle.std.specs.declared.cmp.Ordering.TheVariants.{Less, Equal, Greater}
use Rattle.std.specs.Ordering.{nat_cmp, eq_by_cmp, is_eq}
use Rattle.std.specs.Cmp.Lexicographic.{slice_cmp}
use Rattle.std.specs.FinMap.{IsAntisymmetric, slice_cmp-IsAntisymmetric, nat_cmp-IsAntisymmetric}
use Rattle.std.specs.FinMap.Entries.{find}
use Rattle.std.proofs.lemmas.Bool.Decides.{nat_tests}
use Rattle.hwdb_spec.specs.Assignment.{Assignment}
use Rattle.hwdb_spec.specs.Tree.{Value, Tree, Children, place_cmp, entry_of, assigned_at, values_under, values_below, key_of}
use Rattle.hwdb_spec.specs.Tree.Tree.{Node}
use Rattle.hwdb_spec.specs.Tree.Children.{NoMore, Child}
use Rattle.hwdb_spec.specs.Lemmas.Places.{equal_place}
use Rattle.hwdb_spec.specs.Lemmas.Lists.{same_rest}

abbrev pub Place : Type 0
Place = List ℕ × List ℕ

abbrev pub Entry : Type 0
Entry = List ℕ × Value

-- what a value assigns at its path
abbrev pub assignment_of : Entry → List Assignment
assignment_of p = assigned_at p.0 p.1 (key_of p.1.key)

pub bytes_same : IsAntisymmetric (slice_cmp nat_cmp)
bytes_same = slice_cmp-IsAntisymmetric nat_cmp-IsAntisymmetric

-- the first of two
unfoldable pub either : {A : Type 0} → Option A → Option A → Option A
either None y = y
either (Some x) y = Some x

abbrev pub is_at : Place → Place → Bool
is_at q p = eq_by_cmp place_cmp q p

-- what is assigned to a key
pub record Assigned : Type 0 where
  pub priority : ℕ
  pub line : ℕ
  pub value : List ℕ
  pub path : List ℕ

abbrev pub given : Value → Assigned
given v = record { priority = v.priority; line = v.line; value = v.value; path = v.path }

abbrev pub kept_at : List ℕ → Value → Option (List ℕ) → List (Place × Assigned)
kept_at pattern v None = []
kept_at pattern v (Some key) = ((pattern, key), given v) ∷ []

-- the assignment at a place
abbrev pub full : Place → Assigned → Assignment
full q a = record { position = record { priority = a.priority; line = a.line; pattern = q.0; key = q.1 }; value = a.value; path = a.path }

unfoldable pub entries : List Entry → List (Place × Assigned)
entries xs = flat_map (λ p. kept_at p.0 p.1 (key_of p.1.key)) xs

unfoldable pub found : Place → List Entry → Option Assigned
found q xs = find place_cmp q (entries xs)

either_cond : {A : Type 0} (b : Bool) (x y : Option A) (z : A) → either (cond b (Some z) x) y ≡ cond b (Some z) (either x y)
unfolding either
either_cond true x y z = refl
either_cond false x y z = refl

find_both : (q : Place) (xs ys : List (Place × Assigned)) → find place_cmp q (xs ++ ys) ≡ either (find place_cmp q xs) (find place_cmp q ys)
unfolding either
find_both q [] ys = refl
find_both q (x ∷ xs) ys = ap (cond (is_at q x.0) (Some x.1)) (find_both q xs ys) ∙ sym (either_cond (is_at q x.0) (find place_cmp q xs) (find place_cmp q ys) x.1)

unfoldable pub one : (q : Place) (path : List ℕ) (v : Value) → Option Assigned
one q path v = find place_cmp q (kept_at path v (key_of v.key))

pub found_cons : (q : Place) (path : List ℕ) (v : Value) (xs : List Entry) → found q ((path, v) ∷ xs) ≡ either (one q path v) (found q xs)
unfolding found entries one
found_cons q path v xs = find_both q (kept_at path v (key_of v.key)) (entries xs)

either_assoc : {A : Type 0} (x y z : Option A) → either (either x y) z ≡ either x (either y z)
unfolding either
either_assoc None y z = refl
either_assoc (Some x) y z = refl

pub found_both : (q : Place) (xs ys : List Entry) → found q (xs ++ ys) ≡ either (found q xs) (found q ys)
unfolding found entries either
found_both q [] ys = refl
found_both q (x ∷ xs) ys =
    found_cons q x.0 x.1 (xs ++ ys) ∙ ap (either (one q x.0 x.1)) (found_both q xs ys)
    ∙ sym (either_assoc (one q x.0 x.1) (found q xs) (found q ys)) ∙ ap (λ o. either o (found q ys)) (sym (found_cons q x.0 x.1 xs))

-- a place whose pattern doesn't begin with a path is not below it
abbrev pub Off : List ℕ → List ℕ → Type 0
Off path pattern = (r : List ℕ) → pattern ≡ path ++ r → ⊥

pub apart : (q p : Place) → (q.0 ≡ p.0 → ⊥) → is_at q p ≡ false
apart q p h = no (place_cmp q p) refl
  where
    no : (r : Ordering) → place_cmp q p ≡ r → is_eq r ≡ false
    no Less e = refl
    no Equal e = absurd (h (ap (λ (x : Place). x.0) (equal_place q p e)))
    no Greater e = refl

pub one_off : (q : Place) (path : List ℕ) (v : Value) → (q.0 ≡ path → ⊥) → one q path v ≡ None
unfolding one
one_off q path v h = by (key_of v.key)
  where
    by : (k : Option (List ℕ)) → find place_cmp q (kept_at path v k) ≡ None
    by None = refl
    by (Some k) = ap (λ b. cond b (Some (given v)) None) (apart q (path, k) h)

pub append_nil : (xs : List ℕ) → xs ++ [] ≡ xs
append_nil [] = refl
append_nil (x ∷ xs) = ap (λ ys. x ∷ ys) (append_nil xs)

pub values_off : (q : Place) (path : List ℕ) (vs : List Value) → (q.0 ≡ path → ⊥) → found q (map (λ v. (path, v)) vs) ≡ None
unfolding found entries either
values_off q path [] h = refl
values_off q path (v ∷ vs) h = found_cons q path v (map (λ v. (path, v)) vs) ∙ (λ i. either (one_off q path v h i) (values_off q path vs h i))

pub off_deeper : (path more pattern : List ℕ) → Off path pattern → Off (path ++ more) pattern
off_deeper path more pattern h r e = h (more ++ r) (e ∙ append_assoc path more r)

pub off_here : (path pattern : List ℕ) → Off path pattern → pattern ≡ path → ⊥
off_here path pattern h e = h [] (e ∙ sym (append_nil path))

mutual
  unfolding values_under found entries either

  pub off_tree : (q : Place) (path : List ℕ) (t : Tree) → Off path q.0 → found q (values_under path t) ≡ None
  off_tree q path (Node prefix values children) h =
      let off = off_deeper path prefix q.0 h in
      found_both q (map (λ v. (path ++ prefix, v)) values) (values_below (path ++ prefix) children)
      ∙ (λ i. either (values_off q (path ++ prefix) values (off_here _ _ off) i) (off_children q (path ++ prefix) children off i))

  pub off_children : (q : Place) (path : List ℕ) (ks : Children) → Off path q.0 → found q (values_below path ks) ≡ None
  off_children q path NoMore h = refl
  off_children q path (Child b t ks) h =
      found_both q (values_under (path ++ b ∷ []) t) (values_below path ks)
      ∙ (λ i. either (off_tree q (path ++ b ∷ []) t (off_deeper path (b ∷ []) q.0 h) i) (off_children q path ks h i))

pub is_place : (q p : Place) → is_at q p ≡ true → q ≡ p
is_place q p e = yes (place_cmp q p) refl e
  where
    yes : (r : Ordering) → place_cmp q p ≡ r → is_eq r ≡ true → q ≡ p
    yes Less h t = absurd (cc)
    yes Equal h t = equal_place q p h
    yes Greater h t = absurd (cc)

pub one_is : (q : Place) (path : List ℕ) (v : Value) (k : List ℕ) → key_of v.key ≡ Some k → one q path v ≡ cond (is_at q (path, k)) (Some (given v)) None
unfolding one
one_is q path v k e = ap (λ o. find place_cmp q (kept_at path v o)) e

pub differs : (q p : Place) → (q ≡ p → ⊥) → is_at q p ≡ false
differs q p h = no (place_cmp q p) refl
  where
    no : (r : Ordering) → place_cmp q p ≡ r → is_eq r ≡ false
    no Less e = refl
    no Equal e = absurd (h (equal_place q p e))
    no Greater e = refl

alike : (x y : ℕ) → eqb x y ≡ true → x ≡ y
alike x y e = grind (arith, nat_tests)

pub one_other : (q : Place) (path : List ℕ) (k : List ℕ) (w : Value) → q ≡ (path, k) → (key_of w.key ≡ Some k → ⊥) → one q path w ≡ None
unfolding one
one_other q path k w is other = by (key_of w.key) refl
  where
    by : (o : Option (List ℕ)) → key_of w.key ≡ o → find place_cmp q (kept_at path w o) ≡ None
    by None h = refl
    by (Some k') h =
        ap (λ b. cond b (Some (given w)) None) (differs q (path, k') (λ same. other (h ∙ ap (λ (x : Place). Some x.1) (sym same ∙ is))))

pub fork_off : (path : List ℕ) (b d : ℕ) (more : List ℕ) → (d ≡ b → ⊥) → Off (path ++ b ∷ []) (path ++ d ∷ more)
fork_off path b d more ne r e =
    let h = same_rest path (d ∷ more) (b ∷ r) (e ∙ append_assoc path (b ∷ []) r) in
    ne (cc)

-- a path that goes on is not the path
pub longer : (path : List ℕ) (d : ℕ) (more : List ℕ) → path ++ d ∷ more ≡ path → ⊥
longer [] d more e = absurd (cc)
longer (c ∷ path) d more e = longer path d more (cc)

-- an entry in front of others
got_at : (q p : Place) (v : Value) (b : Bool) → is_at q p ≡ b → (x : Option Assignment) (y : Option Assigned) → x ≡ option_map (full q) y →
    cond b (Some (full p (given v))) x ≡ option_map (full q) (cond b (Some (given v)) y)
got_at q p v true e x y same = ap (λ r. Some (full r (given v))) (sym (is_place q p e))
got_at q p v false e x y same = same

got_by : (q : Place) (pattern : List ℕ) (v : Value) (o : Option (List ℕ)) (rest : List Assignment) (xs : List (Place × Assigned)) → find place_cmp q (map entry_of rest) ≡ option_map (full q) (find place_cmp q xs) →
    find place_cmp q (map entry_of (assigned_at pattern v o ++ rest)) ≡ option_map (full q) (find place_cmp q (kept_at pattern v o ++ xs))
got_by q pattern v None rest xs same = same
got_by q pattern v (Some key) rest xs same = got_at q (pattern, key) v (is_at q (pattern, key)) refl _ _ same

-- what a tree's entries assign at a place
pub got : (q : Place) (xs : List Entry) → find place_cmp q (map entry_of (flat_map assignment_of xs)) ≡ option_map (full q) (found q xs)
unfolding found entries
got q [] = refl
got q (x ∷ xs) = got_by q x.0 x.1 (key_of x.1.key) (flat_map assignment_of xs) (entries xs) (got q xs)
