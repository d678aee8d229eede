-- A tree by the parts of its root: what it assigns, and how many nodes it has.
use Rattle.std.proofs.Common.{◌≡◌, ◌∙◌, ap, refl, ℕ, zero, suc, ◌+◌, ◌≤◌, List, [], ◌∷◌, ◌++◌, drop, map, length, arith, Option, Some, None, option_map, slice_get}
use Rattle.std.specs.Prelude.{flat_map}
use Rattle.std.proofs.lemmas.Grind.{flat_map-append}
use Rattle.hwdb_spec.specs.Tree.{Tree, Children, Value, prefix_of, values_under, values_below, key_of, assigned_at, members_under, values_of}
use Rattle.hwdb_query.specs.Internal.Members.{assignment_of, one_assignment, assignment_shown, members_in, own_members}
use Rattle.hwdb_reader.specs.Views.{Shown, children_of, list_of, node_count, nodes_below, shown}
use Rattle.hwdb_spec.specs.Tree.Tree.{Node}
use Rattle.hwdb_spec.specs.Tree.Children.{NoMore, Child}
use Rattle.hwdb_query.specs.Internal.Live.{nodes_in}

-- what a value assigns, and what it is shown to assign
at_once : (pattern : List ℕ) (v : Value) (o : Option (List ℕ)) → assigned_at pattern v o ≡ one_assignment pattern (shown v) o
at_once pattern v None = refl
at_once pattern v (Some key) = refl

pub own_listed : (pattern : List ℕ) (values : List Value) → flat_map assignment_of (map (λ v. (pattern, v)) values) ≡ own_members pattern values
unfolding assignment_shown
own_listed pattern [] = refl
own_listed pattern (v ∷ values) =
    ap (λ r. r ++ flat_map assignment_of (map (λ w. (pattern, w)) values)) (at_once pattern v (key_of v.key)) ∙ ap (λ r. assignment_shown pattern (shown v) ++ r) (own_listed pattern values)

pub below_listed : (path : List ℕ) (ks : Children) → flat_map assignment_of (values_below path ks) ≡ members_in path (list_of ks)
unfolding values_below list_of
below_listed path NoMore = refl
below_listed path (Child byte t more) =
    flat_map-append assignment_of (values_under (path ++ byte ∷ []) t) (values_below path more)
    ∙ ap (λ r. members_under (path ++ byte ∷ []) t ++ r) (below_listed path more)

pub members_split : (path : List ℕ) (t : Tree) → members_under path t ≡ own_members (path ++ prefix_of t) (values_of t) ++ members_in (path ++ prefix_of t) (children_of t)
unfolding values_under prefix_of values_of children_of
members_split path (Node prefix values children) =
    flat_map-append assignment_of (map (λ v. (path ++ prefix, v)) values) (values_below (path ++ prefix) children)
    ∙ ap (λ r. r ++ flat_map assignment_of (values_below (path ++ prefix) children)) (own_listed (path ++ prefix) values)
    ∙ ap (λ r. own_members (path ++ prefix) values ++ r) (below_listed (path ++ prefix) children)

-- the child at a place, and those after it
pub kid_next : (kids : List (ℕ × Tree)) (i : ℕ) (k : ℕ × Tree) → slice_get kids i ≡ Some k → drop i kids ≡ k ∷ drop (suc i) kids
kid_next [] i k h = absurd (cc)
kid_next (j ∷ kids) zero k h = let e : j ≡ k = cc in ap (λ q. q ∷ kids) e
kid_next (j ∷ kids) (suc i) k h = kid_next kids i k h

pub kid_behind : (kids : List (ℕ × Tree)) (i : ℕ) → length kids ≤ i → drop i kids ≡ []
kid_behind [] zero h = refl
kid_behind [] (suc i) h = refl
kid_behind (k ∷ kids) zero h = absurd (omega arith)
kid_behind (k ∷ kids) (suc i) h = kid_behind kids i (omega arith)

nodes_listed : (ks : Children) → nodes_below ks ≡ nodes_in (list_of ks)
unfolding node_count list_of
nodes_listed NoMore = refl
nodes_listed (Child byte tree more) = ap (λ n. node_count tree + n) (nodes_listed more)

pub node_and_below : (t : Tree) → node_count t ≡ 1 + nodes_in (children_of t)
unfolding node_count children_of
node_and_below (Node prefix values children) = ap (λ n. 1 + n) (nodes_listed children)

-- the value at a place, and those after it
pub own_next : (pattern : List ℕ) (values : List Value) (i : ℕ) (s : Shown) → option_map shown (slice_get values i) ≡ Some s
    → own_members pattern (drop i values) ≡ assignment_shown pattern s ++ own_members pattern (drop (suc i) values)
own_next pattern [] i s h = absurd (cc)
own_next pattern (v ∷ values) zero s h = let e : shown v ≡ s = cc in ap (λ q. assignment_shown pattern q ++ own_members pattern values) e
own_next pattern (v ∷ values) (suc i) s h = own_next pattern values i s h

-- what a value with no key assigns, and one with a key
pub shown_none : (pattern : List ℕ) (s : Shown) → s.key ≡ None → assignment_shown pattern s ≡ []
unfolding assignment_shown
shown_none pattern s e = ap (λ o. one_assignment pattern s o) e

pub shown_some : (pattern key : List ℕ) (s : Shown) → s.key ≡ Some key → assignment_shown pattern s ≡ one_assignment pattern s (Some key)
unfolding assignment_shown
shown_some pattern key s e = ap (λ o. one_assignment pattern s o) e

-- none after the last
pub own_after : (pattern : List ℕ) (values : List Value) (i : ℕ) → length values ≤ i → own_members pattern (drop i values) ≡ []
own_after pattern [] zero h = refl
own_after pattern [] (suc i) h = refl
own_after pattern (v ∷ values) zero h = absurd (omega arith)
own_after pattern (v ∷ values) (suc i) h = own_after pattern values i (omega arith)
