-- Names in order, each once.
use Rattle.std.proofs.Common.{◌≡◌, ◌∙◌, ap, sym, refl, ℕ, ◌+◌, ◌<◌, List, [], ◌∷◌, ◌++◌, Bor, take, map, length, get_or, append_assoc}
use Rattle.std.specs.BTreeSet.{BTreeSet, insert_key}
use Rattle.std.specs.Ordering.{match_ordering}
use Rattle.std.specs.declared.cmp.Ordering.TheVariants.{Less, Equal, Greater}
use Rattle.std.proofs.lemmas.List.{append-nil, map-append, take_more}
use Rattle.hwdb_spec.specs.Assignment.{in_order, put, put_all, text_cmp}
use Rattle.hwdb_ruleasks.specs.Views.{IsSetOf, own_text}

-- a list as far as it was gone through, mapped
pub mapped_more : {A B : Type 0} (f : A → B) (xs : List A) (i : ℕ) (d : A) → i < length xs → map f (take (i + 1) xs) ≡ map f (take i xs) ++ f (get_or xs i d) ∷ []
mapped_more f xs i d h = ap (map f) (take_more xs i d h) ∙ map-append f (take i xs) (get_or xs i d ∷ [])

-- ---- texts in order

put_more : (xs l : List (List ℕ)) (x : List ℕ) → put_all text_cmp (xs ++ x ∷ []) l ≡ put text_cmp x (put_all text_cmp xs l)
unfolding put_all
put_more [] l x = refl
put_more (y ∷ xs) l x = put_more xs (put text_cmp y l) x

own_put : (ks : List (Bor (List ℕ))) (k : Bor (List ℕ)) → map own_text (insert_key (λ (p q : Bor (List ℕ)). text_cmp p.now q.now) ks k) ≡ put text_cmp k.now (map own_text ks)
unfolding put
own_put [] k = refl
own_put (x ∷ ks) k =
    let again = own_put ks k in
    elim (text_cmp k.now x.now) as (λ o. map own_text (match_ordering o (k ∷ x ∷ ks) (x ∷ ks) (x ∷ insert_key (λ (p q : Bor (List ℕ)). text_cmp p.now q.now) ks k))
    ≡ match_ordering o (k.now ∷ x.now ∷ map own_text ks) (x.now ∷ map own_text ks) (x.now ∷ put text_cmp k.now (map own_text ks))) [
      | Less ↦ refl
      | Equal ↦ refl
      | Greater ↦ ap (λ (l : List (List ℕ)). x.now ∷ l) again
    ]

pub set_begun : (set : BTreeSet (Bor (List ℕ))) → set.keys ≡ [] → IsSetOf [] set
unfolding put_all
set_begun set e = ap (map own_text) e

pub set_next : (texts : List (Bor (List ℕ))) (i : ℕ) (d : Bor (List ℕ)) (m n : BTreeSet (Bor (List ℕ))) → i < length texts → n.keys ≡ insert_key (λ (p q : Bor (List ℕ)). text_cmp p.now q.now) m.keys (get_or texts i d)
    → IsSetOf (map own_text (take i texts)) m → IsSetOf (map own_text (take (i + 1) texts)) n
set_next texts i d m n h k so_far =
    ap (map own_text) k ∙ own_put m.keys (get_or texts i d) ∙ ap (put text_cmp (get_or texts i d).now) so_far
    ∙ sym (put_more (map own_text (take i texts)) [] (get_or texts i d).now) ∙ ap (in_order text_cmp) (sym (mapped_more own_text texts i d h))

module _ (whole : List (List ℕ)) where
  pub order_begun : (left keys list : List (Bor (List ℕ))) → list ≡ [] → left ≡ keys → map own_text keys ≡ whole → map own_text list ++ map own_text left ≡ whole
  order_begun left keys list none is e = ap (λ (l : List (Bor (List ℕ))). map own_text l ++ map own_text left) none ∙ ap (map own_text) is ∙ e

  pub order_next : (left next list after : List (Bor (List ℕ))) (text : Bor (List ℕ)) → left ≡ text ∷ next → after ≡ list ++ text ∷ [] → map own_text list ++ map own_text left ≡ whole → map own_text after ++ map own_text next ≡ whole
  order_next left next list after text cut pushed so_far =
      ap (λ (l : List (List ℕ)). l ++ map own_text next) (ap (map own_text) pushed ∙ map-append own_text list (text ∷ []))
      ∙ append_assoc (map own_text list) (text.now ∷ []) (map own_text next) ∙ ap (λ (l : List (Bor (List ℕ))). map own_text list ++ map own_text l) (sym cut) ∙ so_far

  pub order_done : (left list : List (Bor (List ℕ))) → left ≡ [] → map own_text list ++ map own_text left ≡ whole → map own_text list ≡ whole
  order_done left list none so_far = sym (append-nil (map own_text list)) ∙ ap (λ (l : List (Bor (List ℕ))). map own_text list ++ map own_text l) (sym none) ∙ so_far
