-- The assignments and live nodes of a tree, by the parts of its root.
use Rattle.std.proofs.Common.{◌≡◌, ◌∙◌, ap, sym, refl, ℕ, zero, suc, ◌+◌, true, false, List, [], ◌∷◌, ◌++◌, take, drop, filter, append_assoc, Option, Some, None, slice_get, option_map, if◌then◌else◌}
use Rattle.std.proofs.lemmas.List.{append-nil}
use Rattle.std.proofs.lemmas.List.Elements.{filter-append}
use Rattle.hwdb_spec.specs.Tree.{Tree, Children, Value, prefix_of, is_live, live_under, live_below}
use Rattle.hwdb_query.specs.Internal.Members.{one_assignment, assignment_shown, own_members}
use Rattle.hwdb_reader.specs.Views.{children_of, list_of, Shown, shown}
use Rattle.hwdb_spec.specs.Tree.Tree.{Node}
use Rattle.hwdb_spec.specs.Tree.Children.{NoMore, Child}
use Rattle.hwdb_spec.specs.Answers.{is_wanted, is_match}
use Rattle.hwdb_query.specs.Internal.Live.{live_in}
use Rattle.hwdb_query.proofs.PutLemmas.{filter_in, filter_out}

one_wanted : (device pattern : List ℕ) (s : Shown) (o : Option (List ℕ)) → is_match device pattern ≡ true → filter (is_wanted device) (one_assignment pattern s o) ≡ one_assignment pattern s o
one_wanted device pattern s None h = refl
one_wanted device pattern s (Some key) h = filter_in (is_wanted device) _ [] h

one_unwanted : (device pattern : List ℕ) (s : Shown) (o : Option (List ℕ)) → is_match device pattern ≡ false → filter (is_wanted device) (one_assignment pattern s o) ≡ []
one_unwanted device pattern s None h = refl
one_unwanted device pattern s (Some key) h = filter_out (is_wanted device) _ [] h

pub own_wanted : (device pattern : List ℕ) (values : List Value) → is_match device pattern ≡ true → filter (is_wanted device) (own_members pattern values) ≡ own_members pattern values
unfolding assignment_shown
own_wanted device pattern [] h = refl
own_wanted device pattern (v ∷ values) h =
    filter-append (is_wanted device) (assignment_shown pattern (shown v)) (own_members pattern values)
    ∙ ap (λ r. r ++ filter (is_wanted device) (own_members pattern values)) (one_wanted device pattern (shown v) (shown v).key h)
    ∙ ap (λ r. assignment_shown pattern (shown v) ++ r) (own_wanted device pattern values h)

pub own_unwanted : (device pattern : List ℕ) (values : List Value) → is_match device pattern ≡ false → filter (is_wanted device) (own_members pattern values) ≡ []
unfolding assignment_shown
own_unwanted device pattern [] h = refl
own_unwanted device pattern (v ∷ values) h =
    filter-append (is_wanted device) (assignment_shown pattern (shown v)) (own_members pattern values)
    ∙ ap (λ r. r ++ filter (is_wanted device) (own_members pattern values)) (one_unwanted device pattern (shown v) (shown v).key h)
    ∙ own_unwanted device pattern values h

-- what one value assigns, and what those after it assign
pub own_split : (pattern : List ℕ) (values : List Value) (i : ℕ) → own_members pattern (drop i values) ≡ own_members pattern (take 1 (drop i values)) ++ own_members pattern (drop (suc i) values)
own_split pattern [] zero = refl
own_split pattern [] (suc i) = refl
own_split pattern (v ∷ values) zero = ap (λ r. r ++ own_members pattern values) (sym (append-nil (assignment_shown pattern (shown v))))
own_split pattern (v ∷ values) (suc i) = own_split pattern values i

-- what the first values assign, and what the one after them assigns
pub own_taken : (pattern : List ℕ) (values : List Value) (i : ℕ) → own_members pattern (take (suc i) values) ≡ own_members pattern (take i values) ++ own_members pattern (take 1 (drop i values))
own_taken pattern [] zero = refl
own_taken pattern [] (suc i) = refl
own_taken pattern (v ∷ values) zero = refl
own_taken pattern (v ∷ values) (suc i) =
    ap (λ r. assignment_shown pattern (shown v) ++ r) (own_taken pattern values i)
    ∙ sym (append_assoc (assignment_shown pattern (shown v)) (own_members pattern (take i values)) (own_members pattern (take 1 (drop i values))))

pub own_one : (pattern : List ℕ) (values : List Value) (i : ℕ) (s : Shown) → option_map shown (slice_get values i) ≡ Some s → own_members pattern (take 1 (drop i values)) ≡ assignment_shown pattern s
own_one pattern [] i s h = absurd (cc)
own_one pattern (v ∷ values) zero s h = let e : shown v ≡ s = cc in append-nil (assignment_shown pattern (shown v)) ∙ ap (assignment_shown pattern) e
own_one pattern (v ∷ values) (suc i) s h = own_one pattern values i s h

live_listed : (device path : List ℕ) (ks : Children) → live_below device path ks ≡ live_in device path (list_of ks)
unfolding live_below list_of
live_listed device path NoMore = refl
live_listed device path (Child byte t more) = ap (λ n. live_under device (path ++ byte ∷ []) t + n) (live_listed device path more)

pub live_split : (device path : List ℕ) (t : Tree) → live_under device path t ≡ (if is_live (path ++ prefix_of t) device then 1 else 0) + live_in device (path ++ prefix_of t) (children_of t)
unfolding live_under prefix_of children_of
live_split device path (Node prefix values children) = ap (λ n. (if is_live (path ++ prefix) device then 1 else 0) + n) (live_listed device (path ++ prefix) children)
