-- Names and folders, gone through one by one.
use Rattle.std.proofs.Common.{◌≡◌, ◌<◌, ◌≤◌, ◌+◌, ℕ, List, [], ◌∷◌, ◌++◌, Global, Vec, ap, append_assoc, flat_map, get_or, length, map, refl, sym, take, ◌∙◌}
use Rattle.std.proofs.lemmas.List.{flat_map_more, take_all}
use Rattle.hwdb_sysfs.specs.Lemmas.Names.{items, one_more}

fused : (f : List ℕ → List ℕ) (xs : List (Vec ℕ Global)) → map (λ v. f v.items) xs ≡ map f (map items xs)
fused f [] = refl
fused f (x ∷ xs) = ap (λ (l : List (List ℕ)). f x.items ∷ l) (fused f xs)

-- all names were gone through
pub named_all : (f : List ℕ → List ℕ) (xs : List (Vec ℕ Global)) (i : ℕ) (old new names : List (List ℕ)) → length xs ≤ i
    → new ≡ old ++ map (λ v. f v.items) (take i xs) → map items xs ≡ names → new ≡ old ++ map f names
named_all f xs i old new names le whole are =
    whole ∙ ap (λ (l : List (Vec ℕ Global)). old ++ map (λ v. f v.items) l) (take_all i xs le) ∙ ap (λ (l : List (List ℕ)). old ++ l) (fused f xs ∙ ap (map f) are)

pub others_more : (f : List ℕ → List (List ℕ)) (xs : List (Vec ℕ Global)) (i : ℕ) (d x : Vec ℕ Global) (old done new : List (List ℕ)) → i < length xs → x ≡ get_or xs i d
    → done ≡ old ++ flat_map f (map items (take i xs)) → new ≡ done ++ f x.items → new ≡ old ++ flat_map f (map items (take (i + 1) xs))
others_more f xs i d x old done new lt is whole next =
    next ∙ ap (λ (l : List (List ℕ)). l ++ f x.items) whole ∙ flat_map_more f old (map items (take i xs)) x.items
    ∙ ap (λ (l : List (List ℕ)). old ++ flat_map f l) (sym (one_more xs i d x lt is))
