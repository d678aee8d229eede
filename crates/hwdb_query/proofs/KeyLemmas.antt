-- The effective list, as answers are put one after another.
use Rattle.std.proofs.Common.{◌≡◌, ◌∙◌, ap, sym, refl, subst, ℕ, true, false, List, [], ◌∷◌, ◌++◌, map, reverse, append_assoc, Some, None, cond, if◌then◌else◌}
use Rattle.std.specs.Prelude.{find}
use Rattle.std.proofs.lemmas.List.{reverse-append, append-nil}
use Rattle.std.specs.List.{AllByRecursion}
use Rattle.std.specs.declared.cmp.Ordering.{Ordering}
use Rattle.std.specs.declared.cmp.Ordering.TheVariants.{Less, Equal, Greater}
use Rattle.std.specs.Ordering.{match_ordering, is_eq, ordering_reverse}
use Rattle.std.specs.Cmp.{IsTotalOrder}
use Rattle.std.specs.BTreeMap.{insert_entry}
use Rattle.std.specs.FinMap as finite
use Rattle.std.proofs.lemmas.Cmp.{nat_list_cmp_total, tied_itself}
use Rattle.hwdb_spec.specs.Assignment.{put, put_all, Assignment, text_cmp}
use Rattle.std.specs.List.Sorted.{IsStrictlySortedBy}
use Rattle.hwdb_spec.specs.Tree.{Tree, answers, answers_after}
use Rattle.hwdb_spec.specs.Answers.{key_of_answer, has_key, value_or_none, last_value, effective_of}
use Rattle.hwdb_query.specs.Internal.Pairs.{put_values}
use Rattle.hwdb_query.proofs.PutLemmas.{ascends_all, all_above}
use Rattle.hwdb_spec.specs.Lemmas.Places.{all_behind}
use Rattle.hwdb_spec.specs.Lemmas.Orders.{turned}

key_total : IsTotalOrder text_cmp
key_total = nat_list_cmp_total

-- what a key has after something more has come
abbrev pub after_one : {A : Type 0} → List ℕ → A → (List ℕ → A) → List ℕ → A
after_one k v g key = if is_eq (text_cmp key k) then v else g key

abbrev pub listed : {A : Type 0} → (List ℕ → A) → List (List ℕ) → List (List ℕ × A)
listed g keys = map (λ key. (key, g key)) keys

last_value_one : (xs : List Assignment) (f : Assignment) (key : List ℕ) → last_value (xs ++ f ∷ []) key ≡ after_one f.position.key f.value (last_value xs) key
unfolding last_value
last_value_one xs f key =
    ap (λ l. value_or_none (find (has_key key) l)) (reverse-append xs (f ∷ []))
    ∙ elim (is_eq (text_cmp key f.position.key)) as (λ b. value_or_none (cond b (Some f) (find (has_key key) (reverse xs))) ≡ (if b then f.value else value_or_none (find (has_key key) (reverse xs)))) [
      | true ↦ refl
      | false ↦ refl
    ]

listed_alike : {A : Type 0} (g h : List ℕ → A) (keys : List (List ℕ)) → ((key : List ℕ) → g key ≡ h key) → listed g keys ≡ listed h keys
listed_alike g h [] same = refl
listed_alike g h (k ∷ keys) same = ap (λ v. (k, v) ∷ listed g keys) (same k) ∙ ap (λ l. (k, h k) ∷ l) (listed_alike g h keys same)

equal_flipped : (a b : List ℕ) (o : Ordering) → text_cmp a b ≡ o → text_cmp b a ≡ ordering_reverse o
equal_flipped a b o e = key_total.antisymm b a ∙ ap ordering_reverse e

-- keys above the new one keep what they have
above_alike : {A : Type 0} (new : List ℕ) (v : A) (g : List ℕ → A) (keys : List (List ℕ)) → AllByRecursion (λ k. text_cmp new k ≡ Less) keys → listed (after_one new v g) keys ≡ listed g keys
above_alike new v g [] all = refl
above_alike new v g (k ∷ keys) all =
    ap (λ o. (k, (if is_eq o then v else g k)) ∷ listed (after_one new v g) keys) (equal_flipped new k Less all.0)
    ∙ ap (λ l. (k, g k) ∷ l) (above_alike new v g keys all.1)

-- whether two keys are equal doesn't ask for their order
pub flipped : (a b : List ℕ) → is_eq (text_cmp a b) ≡ is_eq (text_cmp b a)
flipped a b = ap is_eq (key_total.antisymm a b) ∙ turned (text_cmp b a)

same_key : (a b : List ℕ) → text_cmp a b ≡ Equal → a ≡ b
same_key a b e = finite.slice_cmp-IsAntisymmetric finite.nat_cmp-IsAntisymmetric a b e

-- something more is put at its key
put_listed : {A : Type 0} (key : List ℕ) (v : A) (g : List ℕ → A) (keys : List (List ℕ)) → IsStrictlySortedBy text_cmp keys
    → listed (after_one key v g) (put text_cmp key keys) ≡ insert_entry text_cmp (listed g keys) key v
unfolding put IsStrictlySortedBy
put_listed key v g [] up = ap (λ o. (key, (if is_eq o then v else g key)) ∷ []) (tied_itself key_total key)
put_listed key v g (k ∷ keys) up =
    let again : listed (after_one key v g) (put text_cmp key keys) ≡ insert_entry text_cmp (listed g keys) key v = put_listed key v g keys up.1 in
    let above : (x : List ℕ) → text_cmp key k ≡ Less → AllByRecursion (λ y. text_cmp key y ≡ Less) keys = λ x e. all_above text_cmp key_total key k keys e up.0 in
    elim (text_cmp key k) as (λ o. text_cmp key k ≡ o → listed (after_one key v g) (match_ordering o (key ∷ k ∷ keys) (k ∷ keys) (k ∷ put text_cmp key keys))
    ≡ match_ordering o ((key, v) ∷ (k, g k) ∷ listed g keys) ((k, v) ∷ listed g keys) ((k, g k) ∷ insert_entry text_cmp (listed g keys) key v)) [
      | Less ↦ λ e.
          ap (λ o. (key, (if is_eq o then v else g key)) ∷ listed (after_one key v g) (k ∷ keys)) (tied_itself key_total key)
          ∙ ap (λ l. (key, v) ∷ l) (above_alike key v g (k ∷ keys) (e, above k e))
      | Equal ↦ λ e.
          ap (λ o. (k, (if is_eq o then v else g k)) ∷ listed (after_one key v g) keys) (equal_flipped key k Equal e)
          ∙ ap (λ l. (k, v) ∷ l) (above_alike key v g keys (subst (λ j. AllByRecursion (λ y. text_cmp j y ≡ Less) keys) (sym (same_key key k e)) up.0))
      | Greater ↦ λ e.
          ap (λ o. (k, (if is_eq o then v else g k)) ∷ listed (after_one key v g) (put text_cmp key keys)) (equal_flipped key k Greater e)
          ∙ ap (λ l. (k, g k) ∷ l) again
    ] refl

put_all_append : (xs ys l : List (List ℕ)) → put_all text_cmp (xs ++ ys) l ≡ put_all text_cmp ys (put_all text_cmp xs l)
unfolding put_all
put_all_append [] ys l = refl
put_all_append (x ∷ xs) ys l = put_all_append xs ys (put text_cmp x l)

map_append : (xs ys : List Assignment) → map key_of_answer (xs ++ ys) ≡ map key_of_answer xs ++ map key_of_answer ys
map_append [] ys = refl
map_append (x ∷ xs) ys = ap (λ l. key_of_answer x ∷ l) (map_append xs ys)

none_ascends : let none : List (List ℕ) = [] in IsStrictlySortedBy text_cmp none
unfolding IsStrictlySortedBy
none_ascends = tt

-- one more answer, of whatever the last step tells at each key
pub listed_one : {A : Type 0} (g h : List ℕ → A) (xs : List Assignment) (f : Assignment) (v : A) → ((key : List ℕ) → h key ≡ after_one f.position.key v g key)
    → listed h (put_all text_cmp (map key_of_answer (xs ++ f ∷ [])) []) ≡ insert_entry text_cmp (listed g (put_all text_cmp (map key_of_answer xs) [])) f.position.key v
unfolding put_all
listed_one g h xs f v step =
    let keys = put_all text_cmp (map key_of_answer xs) [] in
    let all : put_all text_cmp (map key_of_answer (xs ++ f ∷ [])) [] ≡ put text_cmp f.position.key keys =
    ap (λ l. put_all text_cmp l []) (map_append xs (f ∷ [])) ∙ put_all_append (map key_of_answer xs) (f.position.key ∷ []) [] in
    ap (listed h) all
    ∙ listed_alike h (after_one f.position.key v g) (put text_cmp f.position.key keys) step
    ∙ put_listed f.position.key v g keys (ascends_all text_cmp key_total (map key_of_answer xs) [] none_ascends)

pub effective_one : (xs : List Assignment) (f : Assignment) → effective_of (xs ++ f ∷ []) ≡ insert_entry text_cmp (effective_of xs) f.position.key f.value
unfolding effective_of
effective_one xs f = listed_one (last_value xs) (last_value (xs ++ f ∷ [])) xs f f.value (last_value_one xs f)

effective_more : (xs ys : List Assignment) → put_values (effective_of xs) ys ≡ effective_of (xs ++ ys)
unfolding put_values
effective_more xs [] = ap effective_of (sym (append-nil xs))
effective_more xs (f ∷ ys) =
    ap (λ l. put_values l ys) (sym (effective_one xs f)) ∙ effective_more (xs ++ f ∷ []) ys ∙ ap effective_of (append_assoc xs (f ∷ []) ys)

pub none_effective : effective_of [] ≡ []
unfolding effective_of put_all
none_effective = refl

-- the answers, put one after another
pub all_put : (xs : List Assignment) → put_values [] xs ≡ effective_of xs
all_put xs = ap (λ l. put_values l xs) (sym none_effective) ∙ effective_more [] xs

-- without a position all answers are to come
pub from_the_first : (device : List ℕ) (t : Tree) → answers_after device None t ≡ answers device t
unfolding answers_after
from_the_first device t = all_behind (answers device t)
