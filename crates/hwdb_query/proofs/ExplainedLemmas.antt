-- What is explained is the effective list.
use Rattle.std.proofs.Common.{◌≡◌, ◌≢◌, ◌∙◌, ap, sym, refl, ℕ, Bool, true, false, List, [], ◌∷◌, ◌++◌, map, filter, reverse, Some, cond}
use Rattle.std.specs.Prelude.{find}
use Rattle.std.specs.List.{AllByRecursion}
use Rattle.std.specs.Ordering.{match_ordering, is_eq}
use Rattle.std.specs.declared.cmp.Ordering.TheVariants.{Less, Equal, Greater}
use Rattle.std.proofs.lemmas.Cmp.{nat_list_cmp_total, tied_itself}
use Rattle.std.proofs.lemmas.List.{reverse-append}
use Rattle.std.proofs.lemmas.List.Elements.{filter-append, All-map, All-from_recursion}
use Rattle.hwdb_spec.specs.Assignment.{Assignment, text_cmp, in_order, put, put_all}
use Rattle.hwdb_spec.specs.Answers.{has_key, key_of_answer, value_or_none, last_value, effective_of}
use Rattle.hwdb_spec.specs.Explanations.{answers_with, explained}
use Rattle.hwdb_query.specs.Laws.{first_value, ExplainedAreEffective, AllAreExplained}
use Rattle.hwdb_query.proofs.PutLemmas.{filter_in}

first_is_found : (p : Assignment → Bool) (l : List Assignment) → first_value (filter p l) ≡ value_or_none (find p l)
first_is_found p [] = refl
first_is_found p (x ∷ l) =
    let again = first_is_found p l in
    elim (p x) as (λ b. first_value (cond b (x ∷ filter p l) (filter p l)) ≡ value_or_none (cond b (Some x) (find p l))) [ true ↦ refl | false ↦ again ]

-- a key and its first value
abbrev told : List ℕ × List Assignment → List ℕ × List ℕ
told p = (p.0, first_value p.1)

-- a key and its answers
abbrev with_answers : List Assignment → List ℕ → List ℕ × List Assignment
with_answers answers key = (key, answers_with key answers)

abbrev with_value : List Assignment → List ℕ → List ℕ × List ℕ
with_value answers key = (key, last_value answers key)

told_alike : (answers : List Assignment) (keys : List (List ℕ)) → map told (map (with_answers answers) keys) ≡ map (with_value answers) keys
unfolding last_value
told_alike answers [] = refl
told_alike answers (k ∷ keys) =
    let pair : List ℕ → List ℕ × List ℕ = λ v. (k, v) in
    let rest = map told (map (with_answers answers) keys) in
    ap (λ v. pair v ∷ rest) (first_is_found (has_key k) (reverse answers))
    ∙ ap (λ l. with_value answers k ∷ l) (told_alike answers keys)

pub explained_are_effective : ExplainedAreEffective
unfolding explained effective_of
explained_are_effective answers = told_alike answers (in_order text_cmp (map key_of_answer answers))

append_none : {A : Type 0} (xs ys : List A) → xs ++ ys ≡ [] → (xs ≡ []) × (ys ≡ [])
append_none [] ys e = (refl, e)
append_none (x ∷ xs) ys e = absurd (cc)

-- each answer is among those of its key
all_stand : (xs : List Assignment) → AllByRecursion (λ f. answers_with f.position.key xs ≡ [] → ⊥) xs
all_stand [] = tt
all_stand (x ∷ xs) = (here, lift xs (all_stand xs))
  where
    split : (key : List ℕ) → answers_with key (x ∷ xs) ≡ answers_with key xs ++ filter (has_key key) (x ∷ [])
    split key = ap (filter (has_key key)) (reverse-append (x ∷ []) xs) ∙ filter-append (has_key key) (reverse xs) (x ∷ [])

    here : answers_with x.position.key (x ∷ xs) ≡ [] → ⊥
    here e =
        let alone : x ∷ [] ≡ [] = sym (filter_in (has_key x.position.key) x [] (ap is_eq (tied_itself nat_list_cmp_total x.position.key)))
        ∙ (append_none (answers_with x.position.key xs) (filter (has_key x.position.key) (x ∷ [])) (sym (split x.position.key) ∙ e)).1 in
        absurd (cc)

    lift : (ys : List Assignment) → AllByRecursion (λ f. answers_with f.position.key xs ≡ [] → ⊥) ys → AllByRecursion (λ f. answers_with f.position.key (x ∷ xs) ≡ [] → ⊥) ys
    lift [] all = tt
    lift (y ∷ ys) all = (
      (λ e. all.0 (append_none (answers_with y.position.key xs) (filter (has_key y.position.key) (x ∷ [])) (sym (split y.position.key) ∙ e)).0),
      lift ys all.1,
    )

-- what holds of the members of two lists holds of the one put into the other
all_of_put : (P : List ℕ → Type 0) (x : List ℕ) (l : List (List ℕ)) → P x → AllByRecursion P l → AllByRecursion P (put text_cmp x l)
unfolding put
all_of_put P x [] h all = (h, tt)
all_of_put P x (y ∷ ys) h all =
    let again : AllByRecursion P (put text_cmp x ys) = all_of_put P x ys h all.1 in
    elim (text_cmp x y) as (λ o. AllByRecursion P (match_ordering o (x ∷ y ∷ ys) (y ∷ ys) (y ∷ put text_cmp x ys))) [
      | Less ↦ (h, all)
      | Equal ↦ all
      | Greater ↦ (all.0, again)
    ]

all_of_keys : (P : List ℕ → Type 0) (xs : List Assignment) (l : List (List ℕ)) → AllByRecursion (λ f. P f.position.key) xs → AllByRecursion P l → AllByRecursion P (put_all text_cmp (map key_of_answer xs) l)
unfolding put_all
all_of_keys P [] l h all = all
all_of_keys P (x ∷ xs) l h all = all_of_keys P xs (put text_cmp x.position.key l) h.1 (all_of_put P x.position.key l h.0 all)

pub all_are_explained : AllAreExplained
unfolding explained
all_are_explained answers =
    let keys = in_order text_cmp (map key_of_answer answers) in
    let told : AllByRecursion (λ key. answers_with key answers ≡ [] → ⊥) keys = all_of_keys (λ key. answers_with key answers ≡ [] → ⊥) answers [] (all_stand answers) tt in
    All-map (λ (p : List ℕ × List Assignment). p.1 ≢ []) (with_answers answers) keys (All-from_recursion (λ key. answers_with key answers ≢ []) keys told)
