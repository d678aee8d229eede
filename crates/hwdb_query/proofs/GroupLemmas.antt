-- Answers by key, as they are added one after another.
use Rattle.std.proofs.Common.{◌≡◌, ◌∙◌, ap, sym, refl, ℕ, true, false, List, [], ◌∷◌, ◌++◌, map, filter, reverse, Option, Some, None, cond, append_assoc, if◌then◌else◌}
use Rattle.std.specs.Prelude.{Vec}
use Rattle.std.specs.declared.alloc.Global.{Global}
use Rattle.std.specs.Borrow.{Bor}
use Rattle.std.specs.List.Sorted.{IsStrictlySortedBy}
use Rattle.std.specs.Cmp.{IsTotalOrder}
use Rattle.std.specs.Map.{keys_of, lookup, set_value}
use Rattle.std.specs.BTreeMap.{get_by, is_at, insert_entry}
use Rattle.std.specs.declared.cmp.Ordering.{Ordering}
use Rattle.std.specs.declared.cmp.Ordering.TheVariants.{Less, Equal, Greater}
use Rattle.std.specs.Ordering.{match_ordering, is_eq}
use Rattle.std.proofs.lemmas.Cmp.{nat_list_cmp_total, on_total}
use Rattle.std.proofs.lemmas.List.{reverse-append}
use Rattle.std.proofs.lemmas.Map.{lookup-none}
use Rattle.std.proofs.lemmas.Map.Entries.{none_below_head}
use Rattle.hwdb_spec.specs.Assignment.{Assignment, text_cmp, put_all}
use Rattle.hwdb_spec.specs.Answers.{has_key}
use Rattle.hwdb_spec.specs.Explanations.{answers_with, explained}
use Rattle.hwdb_query.specs.Views.{assignment_of_answer, explained_value, explained_values}
use Rattle.hwdb_query.specs.declared.answer.StoredAssignment.{StoredAssignment}
use Rattle.hwdb_query.specs.declared.answer.Explained.{Explained}
use Rattle.hwdb_query.specs.declared.by_key.AnswersByKey.{AnswersByKey}
use Rattle.hwdb_query.specs.Internal.Explaining.{answers_backwards, explained_entry, backwards_or_none, answers_at, IsByKey}
use Rattle.hwdb_query.proofs.KeyLemmas.{after_one, listed_one, flipped}
use Rattle.hwdb_spec.specs.Lemmas.Orders.{equal_of, equal_text}

abbrev pub Answers : Type 0
Answers = Vec StoredAssignment Global

abbrev Entries : Type 0
Entries = List (Bor (List ℕ) × Answers)

abbrev pub key_order : Bor (List ℕ) → Bor (List ℕ) → Ordering
key_order a b = text_cmp a.now b.now

key_total : IsTotalOrder key_order
key_total = on_total (λ (k : Bor (List ℕ)). k.now) nat_list_cmp_total

-- ---- one more answer

answers_one : (xs : List Assignment) (f : Assignment) (key : List ℕ) → answers_with key (xs ++ f ∷ []) ≡ after_one f.position.key (f ∷ answers_with f.position.key xs) (λ k. answers_with k xs) key
answers_one xs f key =
    ap (filter (has_key key)) (reverse-append xs (f ∷ []))
    ∙ elim (is_eq (text_cmp key f.position.key)) as (λ b. is_eq (text_cmp key f.position.key) ≡ b → cond b (f ∷ answers_with key xs) (answers_with key xs) ≡ (if b then f ∷ answers_with f.position.key xs else answers_with key xs)) [
      | true ↦ λ e. ap (λ k. f ∷ answers_with k xs) (equal_text key f.position.key (equal_of _ e))
      | false ↦ λ e. refl
    ] refl

explained_one : (xs : List Assignment) (f : Assignment) → explained (xs ++ f ∷ []) ≡ insert_entry text_cmp (explained xs) f.position.key (f ∷ answers_with f.position.key xs)
unfolding explained
explained_one xs f = listed_one (λ k. answers_with k xs) (λ k. answers_with k (xs ++ f ∷ [])) xs f (f ∷ answers_with f.position.key xs) (answers_one xs f)

-- ---- one more entry

put_shown : (es : Entries) (k : Bor (List ℕ)) (w : Answers) → map explained_entry (insert_entry key_order es k w) ≡ insert_entry text_cmp (map explained_entry es) k.now (answers_backwards w)
put_shown [] k w = refl
put_shown (e ∷ es) k w =
    let again = put_shown es k w in
    elim (text_cmp k.now e.0.now) as (λ o. map explained_entry (match_ordering o ((k, w) ∷ e ∷ es) ((e.0, w) ∷ es) (e ∷ insert_entry key_order es k w))
    ≡ match_ordering o ((k.now, answers_backwards w) ∷ explained_entry e ∷ map explained_entry es) ((e.0.now, answers_backwards w) ∷ map explained_entry es) (explained_entry e ∷ insert_entry text_cmp (map explained_entry es) k.now (answers_backwards w))) [
      | Less ↦ refl
      | Equal ↦ refl
      | Greater ↦ ap (λ l. explained_entry e ∷ l) again
    ]

not_none : (o : Option Answers) (w : Answers) → o ≡ None → o ≡ Some w → ⊥
not_none o w n s = let c : None ≡ Some w = sym n ∙ s in absurd (cc)

-- what is written at a key that is there, is put there
pub written_shown : (es : Entries) (k : Bor (List ℕ)) (old w : Answers) → IsStrictlySortedBy key_order (keys_of es) → lookup (is_at (key_order k)) es ≡ Some old
    → map explained_entry (set_value (is_at (key_order k)) es w) ≡ insert_entry text_cmp (map explained_entry es) k.now (answers_backwards w)
unfolding IsStrictlySortedBy
written_shown [] k old w up there = absurd (cc)
written_shown (e ∷ es) k old w up there =
    let again : lookup (is_at (key_order k)) es ≡ Some old → map explained_entry (set_value (is_at (key_order k)) es w) ≡ insert_entry text_cmp (map explained_entry es) k.now (answers_backwards w) = λ t. written_shown es k old w up.1 t in
    let none : text_cmp k.now e.0.now ≡ Less → lookup (is_at (key_order k)) (e ∷ es) ≡ None = λ d. lookup-none _ (e ∷ es) (none_below_head key_total k e es up d) in
    elim (text_cmp k.now e.0.now) as (λ o. text_cmp k.now e.0.now ≡ o → cond (is_eq o) (Some e.1) (lookup (is_at (key_order k)) es) ≡ Some old
    → map explained_entry (cond (is_eq o) ((e.0, w) ∷ es) (e ∷ set_value (is_at (key_order k)) es w))
    ≡ match_ordering o ((k.now, answers_backwards w) ∷ explained_entry e ∷ map explained_entry es) ((e.0.now, answers_backwards w) ∷ map explained_entry es) (explained_entry e ∷ insert_entry text_cmp (map explained_entry es) k.now (answers_backwards w))) [
      | Less ↦ λ d t. absurd (not_none _ old (none d) there)
      | Equal ↦ λ d t. refl
      | Greater ↦ λ d t. ap (λ l. explained_entry e ∷ l) (again t)
    ] refl there

-- an answer was added
pub added : (m n : AnswersByKey) (xs : List Assignment) (x : Assignment) (k : Bor (List ℕ)) (w : Answers) → k.now ≡ x.position.key → answers_backwards w ≡ x ∷ answers_at m k.now
    → map explained_entry n.answers.entries ≡ insert_entry text_cmp (map explained_entry m.answers.entries) k.now (answers_backwards w)
    → ((q : List ℕ) → get_by (λ j. text_cmp q j.now) n.answers ≡ cond (is_eq (text_cmp k.now q)) (Some w) (get_by (λ j. text_cmp q j.now) m.answers))
    → IsByKey m xs → IsByKey n (xs ++ x ∷ [])
added m n xs x k w at is put gets before =
    let key = x.position.key in
    let whole : answers_backwards w ≡ x ∷ answers_with key xs = is ∙ ap (λ l. x ∷ l) (before.each k.now ∙ ap (λ j. answers_with j xs) at) in
    record {
      listed = put ∙ ap (λ es. insert_entry text_cmp es k.now (answers_backwards w)) before.listed
          ∙ ap (λ j. insert_entry text_cmp (explained xs) j (answers_backwards w)) at
          ∙ ap (insert_entry text_cmp (explained xs) key) whole ∙ sym (explained_one xs x);
      each = λ q.
          ap backwards_or_none (gets q ∙ ap (λ b. cond b (Some w) (get_by (λ j. text_cmp q j.now) m.answers)) (flipped k.now q ∙ ap (λ j. is_eq (text_cmp q j)) at))
          ∙ elim (is_eq (text_cmp q key)) as (λ b. backwards_or_none (cond b (Some w) (get_by (λ j. text_cmp q j.now) m.answers)) ≡ (if b then x ∷ answers_with key xs else answers_with q xs)) [
            | true ↦ whole
            | false ↦ before.each q
          ]
          ∙ sym (answers_one xs x q);
    }

pub put_at : (m n : AnswersByKey) (k : Bor (List ℕ)) (w : Answers) → n.answers.entries ≡ insert_entry key_order m.answers.entries k w
    → map explained_entry n.answers.entries ≡ insert_entry text_cmp (map explained_entry m.answers.entries) k.now (answers_backwards w)
put_at m n k w is = ap (λ es. map explained_entry es) is ∙ put_shown m.answers.entries k w

mapped : (xs ys : List StoredAssignment) → map assignment_of_answer (xs ++ ys) ≡ map assignment_of_answer xs ++ map assignment_of_answer ys
mapped [] ys = refl
mapped (x ∷ xs) ys = ap (λ l. assignment_of_answer x ∷ l) (mapped xs ys)

pub backwards_more : (old : List StoredAssignment) (a : StoredAssignment) → reverse (map assignment_of_answer (old ++ a ∷ [])) ≡ assignment_of_answer a ∷ reverse (map assignment_of_answer old)
backwards_more old a = ap reverse (mapped old (a ∷ [])) ∙ reverse-append (map assignment_of_answer old) (assignment_of_answer a ∷ [])

turned_is : (xs : List StoredAssignment) → map assignment_of_answer (reverse xs) ≡ reverse (map assignment_of_answer xs)
turned_is [] = refl
turned_is (x ∷ xs) =
    ap (map assignment_of_answer) (reverse-append (x ∷ []) xs) ∙ mapped (reverse xs) (x ∷ [])
    ∙ ap (λ l. l ++ assignment_of_answer x ∷ []) (turned_is xs) ∙ sym (reverse-append (assignment_of_answer x ∷ []) (map assignment_of_answer xs))

-- no answers
pub none_by_key : (m : AnswersByKey) → m.answers.entries ≡ [] → IsByKey m []
unfolding explained put_all
none_by_key m none = record {
  listed = ap (λ es. map explained_entry es) none;
  each = λ key. ap (λ (es : Entries). backwards_or_none (lookup (is_at (λ (j : Bor (List ℕ)). text_cmp key j.now)) es)) none;
}

-- one more key is listed
pub entry_step : (before after : List Explained) (rest left : Entries) (key : Bor (List ℕ)) (answers turned : Answers) (whole : List (List ℕ × List Assignment))
    → rest ≡ (key, answers) ∷ left → turned.items ≡ reverse answers.items → after ≡ before ++ record { key = key; answers = turned } ∷ []
    → explained_values before ++ map explained_entry rest ≡ whole → explained_values after ++ map explained_entry left ≡ whole
entry_step before after rest left key answers turned whole cut is pushed so_far =
    let e : Explained = record { key = key; answers = turned } in
    let shown : explained_value e ≡ explained_entry (key, answers) = ap (λ l. (key.now, l)) (ap (map assignment_of_answer) is ∙ turned_is answers.items) in
    ap (λ l. explained_values l ++ map explained_entry left) pushed
    ∙ ap (λ l. l ++ map explained_entry left) (one_more before e)
    ∙ append_assoc (explained_values before) (explained_value e ∷ []) (map explained_entry left)
    ∙ ap (λ x. explained_values before ++ x ∷ map explained_entry left) shown
    ∙ sym (ap (λ (l : Entries). explained_values before ++ map explained_entry l) cut) ∙ so_far
  where
    one_more : (es : List Explained) (e : Explained) → explained_values (es ++ e ∷ []) ≡ explained_values es ++ explained_value e ∷ []
    one_more [] e = refl
    one_more (d ∷ es) e = ap (λ l. explained_value d ∷ l) (one_more es e)
