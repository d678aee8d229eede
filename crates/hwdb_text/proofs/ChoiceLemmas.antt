-- Names, one after the other.
use Rattle.std.proofs.Common.{◌≡◌, ℕ, ◌+◌, ◌<◌, Bool, true, false, List, [], ◌∷◌, ◌++◌, drop, length, get_or, map, refl, ap, ◌∙◌, sym, arith, drop-cons, add-one, not, nat_eq, eq-eqb, ne_eqb, inl, inr, ◌⊎◌, suc, ◌-◌}
use Rattle.std.specs.Prelude.{codes}
use Rattle.std.proofs.lemmas.Bool.{cases_eq}
use Rattle.std.specs.List.{position_or_len, ends_with}
use Rattle.hwdb_spec.specs.Lines.{is, has, begins_with}
use Rattle.std.specs.Ordering.{nat_cmp, match_ordering}
use Rattle.std.specs.declared.cmp.Ordering.{Ordering}
use Rattle.std.specs.declared.cmp.Ordering.TheVariants.{Less, Equal, Greater}
use Rattle.std.specs.Cmp.Lexicographic.{slice_cmp}
use Rattle.std.specs.BTreeMap.{insert_entry}
use Rattle.std.specs.Borrow.{Bor}
use Rattle.hwdb_text.specs.declared.choice.Chosen.{Chosen}
use Rattle.hwdb_spec.specs.Folders.{Choice, counts}
use Rattle.hwdb_text.specs.Views.{choice_of}
use Rattle.hwdb_text.specs.Internal.Choosing.{put_all, entry_of, with_priorities}
use Rattle.hwdb_text.specs.Lemmas.Bytes.{has_none, has_some}

match_view : (o : Ordering) (a b c : List (Bor (List ℕ) × Bool)) (x y z : List (List ℕ × Bool)) → map entry_of a ≡ x → map entry_of b ≡ y → map entry_of c ≡ z
    → map entry_of (match_ordering o a b c) ≡ match_ordering o x y z
match_view Less a b c x y z p q r = p
match_view Equal a b c x y z p q r = q
match_view Greater a b c x y z p q r = r

pub insert_view : (es : List (Bor (List ℕ) × Bool)) (k : Bor (List ℕ)) (v : Bool)
    → map entry_of (insert_entry (λ x y. slice_cmp nat_cmp x.now y.now) es k v) ≡ insert_entry (slice_cmp nat_cmp) (map entry_of es) k.now v
insert_view [] k v = refl
insert_view (e ∷ es) k v =
    match_view (slice_cmp nat_cmp k.now e.0.now) ((k, v) ∷ (e ∷ es)) ((e.0, v) ∷ es) (e ∷ insert_entry (λ x y. slice_cmp nat_cmp x.now y.now) es k v) _ _ _
    refl refl (ap (λ (r : List (List ℕ × Bool)). entry_of e ∷ r) (insert_view es k v))

pub put_yes : (f : Bool) (name : List ℕ) (more : List (List ℕ)) (names : List (List ℕ × Bool)) → counts name ≡ true
    → put_all f (name ∷ more) names ≡ put_all f more (insert_entry (slice_cmp nat_cmp) names name f)
put_yes f name more names e = rw e refl

pub put_no : (f : Bool) (name : List ℕ) (more : List (List ℕ)) (names : List (List ℕ × Bool)) → counts name ≡ false
    → put_all f (name ∷ more) names ≡ put_all f more names
put_no f name more names e = rw e refl

pub priorities_snoc : (p : ℕ) (xs : List (List ℕ × Bool)) (e : List ℕ × Bool)
    → with_priorities p (xs ++ (e ∷ [])) ≡ with_priorities p xs ++ (record { from_etc = e.1; name = e.0; priority = p + length xs } ∷ [])
unfolding with_priorities
priorities_snoc p [] e = ap (λ (n : ℕ). record { from_etc = e.1; name = e.0; priority = n } ∷ []) (let h : p ≡ p + 0 = omega arith in h)
priorities_snoc p (x ∷ xs) e =
    ap (λ (r : List Choice). record { from_etc = x.1; name = x.0; priority = p } ∷ r)
    (priorities_snoc (p + 1) xs e
    ∙ ap (λ (n : ℕ). with_priorities (p + 1) xs ++ (record { from_etc = e.1; name = e.0; priority = n } ∷ []))
    (let h : p + 1 + length xs ≡ p + length (x ∷ xs) = omega arith in h))

pub item_at : {X : Type 0} (xs : List X) (i : ℕ) (x : X) → i < length xs → x ≡ get_or xs i x → drop i xs ≡ x ∷ drop (i + 1) xs
item_at xs i x h e = rw add-one (drop-cons xs i x h ∙ ap (λ y. y ∷ drop (suc i) xs) (sym e))

pub put_step : (f : Bool) (rest next : List (List ℕ)) (name : List ℕ) (k : Bor (List ℕ)) (es fs : List (Bor (List ℕ) × Bool))
    → rest ≡ name ∷ next → k.now ≡ name → counts name ≡ true → fs ≡ insert_entry (λ x y. slice_cmp nat_cmp x.now y.now) es k f
    → put_all f next (map entry_of fs) ≡ put_all f rest (map entry_of es)
put_step f rest next name k es fs r q c e =
    ap (λ (x : List (Bor (List ℕ) × Bool)). put_all f next (map entry_of x)) e
    ∙ ap (put_all f next) (insert_view es k f)
    ∙ ap (λ (x : List ℕ). put_all f next (insert_entry (slice_cmp nat_cmp) (map entry_of es) x f)) q
    ∙ sym (ap (λ (x : List (List ℕ)). put_all f x (map entry_of es)) r ∙ put_yes f name next (map entry_of es) c)

pub pass_step : (f : Bool) (rest next : List (List ℕ)) (name : List ℕ) (es : List (Bor (List ℕ) × Bool))
    → rest ≡ name ∷ next → counts name ≡ false → put_all f next (map entry_of es) ≡ put_all f rest (map entry_of es)
pass_step f rest next name es r c =
    sym (ap (λ (x : List (List ℕ)). put_all f x (map entry_of es)) r ∙ put_no f name next (map entry_of es) c)

has_is_by : (b : ℕ) (text : List ℕ) → (position_or_len (is b) text ≡ length text) ⊎ (position_or_len (is b) text ≡ length text → ⊥)
    → nat_eq (position_or_len (is b) text) (length text) ≡ not (has b text)
has_is_by b text (inl e) = eq-eqb _ _ e ∙ sym (ap not (has_none b text e))
has_is_by b text (inr n) = ne_eqb _ _ n ∙ sym (ap not (has_some b text n))

pub counts_last : (name : List ℕ) (end : ℕ) → end ≡ position_or_len (is 0) name → ends_with nat_eq name (codes ".hwdb") ≡ true → begins_with 46 name ≡ false
    → nat_eq end (length name) ≡ counts name
counts_last name end e a b =
    ap (λ (n : ℕ). nat_eq n (length name)) e ∙ has_is_by 0 name (cases_eq (position_or_len (is 0) name) (length name)) ∙ sym (rw (a, b) refl)

pub priorities_none : (p : ℕ) → with_priorities p [] ≡ []
unfolding with_priorities
priorities_none p = refl

map_snoc : {X Y : Type 0} (f : X → Y) (xs : List X) (x : X) → map f (xs ++ (x ∷ [])) ≡ map f xs ++ (f x ∷ [])
map_snoc f [] x = refl
map_snoc f (y ∷ xs) x = ap (λ r. f y ∷ r) (map_snoc f xs x)

pub map_length : {X Y : Type 0} (f : X → Y) (xs : List X) → length (map f xs) ≡ length xs
map_length f [] = refl
map_length f (y ∷ xs) = ap (λ (n : ℕ). suc n) (map_length f xs)

pub list_step : (chosen : Chosen) (all : List Chosen) (ys : List (Bor (List ℕ) × Bool)) (e : Bor (List ℕ) × Bool) (p : ℕ)
    → map choice_of all ≡ with_priorities 1 (map entry_of ys) → p ≡ length ys → choice_of chosen ≡ record { from_etc = e.1; name = e.0.now; priority = p + 1 }
    → map choice_of (all ++ (chosen ∷ [])) ≡ with_priorities 1 (map entry_of (ys ++ (e ∷ [])))
list_step chosen all ys e p a n c =
    let k : p + 1 ≡ 1 + length (map entry_of ys) = omega (arith, map_length entry_of ys) in
    map_snoc choice_of all chosen
    ∙ ap (λ (r : List Choice). r ++ (choice_of chosen ∷ [])) a
    ∙ ap (λ (r : Choice). with_priorities 1 (map entry_of ys) ++ (r ∷ [])) (c ∙ ap (λ (q : ℕ). let r : Choice = record { from_etc = e.1; name = e.0.now; priority = q } in r) k)
    ∙ sym (ap (with_priorities 1) (map_snoc entry_of ys e) ∙ priorities_snoc 1 (map entry_of ys) (entry_of e))

pub counted : (ys : List (Bor (List ℕ) × Bool)) (e : Bor (List ℕ) × Bool) (p : ℕ) → p ≡ length ys → p + 1 ≡ length (ys ++ (e ∷ []))
counted [] e p n = omega arith
counted (y ∷ ys) e p n = let i : p - 1 + 1 ≡ length (ys ++ (e ∷ [])) = counted ys e (p - 1) (omega arith) in omega arith
