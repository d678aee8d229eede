-- Names as a set, and one after another.
use Rattle.std.proofs.Common.{◌≡◌, ◌∙◌, ◌<◌, ◌+◌, ℕ, List, [], ◌∷◌, ◌++◌, map, take, length, get_or, refl, sym, ap, Vec, Global}
use Rattle.std.proofs.lemmas.List.{map-append, take_more}
use Rattle.std.specs.BTreeSet.{insert_key}
use Rattle.std.specs.Ordering.{match_ordering}
use Rattle.std.specs.declared.cmp.Ordering.{Ordering}
use Rattle.std.specs.declared.cmp.Ordering.TheVariants.{Less, Equal, Greater}
use Rattle.hwdb_spec.specs.Assignment.{put, text_cmp}

abbrev pub items : Vec ℕ Global → List ℕ
items v = v.items

by_order : (o : Ordering) (xs more : List (Vec ℕ Global)) (name x : Vec ℕ Global) (ys : List (List ℕ)) → map items more ≡ ys
    → map items (match_ordering o (name ∷ x ∷ xs) (x ∷ xs) (x ∷ more)) ≡ match_ordering o (name.items ∷ x.items ∷ map items xs) (x.items ∷ map items xs) (x.items ∷ ys)
by_order Less xs more name x ys is = refl
by_order Equal xs more name x ys is = refl
by_order Greater xs more name x ys is = ap (λ (l : List (List ℕ)). x.items ∷ l) is

-- a name put into a set is put in its place among the names
pub name_put : (cmp : Vec ℕ Global → Vec ℕ Global → Ordering) → ((a b : Vec ℕ Global) → cmp a b ≡ text_cmp a.items b.items)
    → (names : List (Vec ℕ Global)) (name : Vec ℕ Global) → map items (insert_key cmp names name) ≡ put text_cmp name.items (map items names)
unfolding put
name_put cmp same [] name = refl
name_put cmp same (x ∷ xs) name =
    rw (same name x) (by_order (text_cmp name.items x.items) xs (insert_key cmp xs name) name x _ (name_put cmp same xs name))

-- so many names and one more
pub one_more : (xs : List (Vec ℕ Global)) (i : ℕ) (d x : Vec ℕ Global) → i < length xs → x ≡ get_or xs i d → map items (take (i + 1) xs) ≡ map items (take i xs) ++ x.items ∷ []
one_more xs i d x lt is =
    ap (map items) (take_more xs i d lt) ∙ map-append items (take i xs) (get_or xs i d ∷ []) ∙ ap (λ (v : Vec ℕ Global). map items (take i xs) ++ v.items ∷ []) (sym is)
