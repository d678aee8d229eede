-- Names, one after the other.
use Rattle.std.proofs.Common.{◌≡◌, ℕ, ◌+◌, ◌<◌, Bool, true, false, List, [], ◌∷◌, ◌++◌, drop, length, get_or, map, refl, ap, ◌∙◌, sym, drop-cons, add-one, suc}
use Rattle.std.specs.Ordering.{nat_cmp, match_ordering}
use Rattle.std.specs.declared.cmp.Ordering.{Ordering}
use Rattle.std.specs.declared.cmp.Ordering.TheVariants.{Less, Equal, Greater}
use Rattle.std.specs.Cmp.Lexicographic.{slice_cmp}
use Rattle.std.specs.BTreeMap.{insert_entry}
use Rattle.std.specs.Borrow.{Bor}
use Rattle.hwdb_rulefiles.specs.declared.choice.Folder.{Folder}
use Rattle.hwdb_rulefiles.specs.RuleFolders.{put_all, counts, Chosen, listed}
use Rattle.hwdb_rulefiles.specs.FolderNames.{entry_of}

match_view : (o : Ordering) (a b c : List (Bor (List ℕ) × Folder)) (x y z : List (List ℕ × Folder)) → map entry_of a ≡ x → map entry_of b ≡ y → map entry_of c ≡ z
    → map entry_of (match_ordering o a b c) ≡ match_ordering o x y z
match_view Less a b c x y z p q r = p
match_view Equal a b c x y z p q r = q
match_view Greater a b c x y z p q r = r

insert_view : (es : List (Bor (List ℕ) × Folder)) (k : Bor (List ℕ)) (v : Folder)
    → map entry_of (insert_entry (λ x y. slice_cmp nat_cmp x.now y.now) es k v) ≡ insert_entry (slice_cmp nat_cmp) (map entry_of es) k.now v
insert_view [] k v = refl
insert_view (e ∷ es) k v =
    match_view (slice_cmp nat_cmp k.now e.0.now) ((k, v) ∷ (e ∷ es)) ((e.0, v) ∷ es) (e ∷ insert_entry (λ x y. slice_cmp nat_cmp x.now y.now) es k v) _ _ _
    refl refl (ap (λ (r : List (List ℕ × Folder)). entry_of e ∷ r) (insert_view es k v))

put_yes : (f : Folder) (name : List ℕ) (more : List (List ℕ)) (names : List (List ℕ × Folder)) → counts name ≡ true
    → put_all f (name ∷ more) names ≡ put_all f more (insert_entry (slice_cmp nat_cmp) names name f)
put_yes f name more names e = rw e refl

put_no : (f : Folder) (name : List ℕ) (more : List (List ℕ)) (names : List (List ℕ × Folder)) → counts name ≡ false
    → put_all f (name ∷ more) names ≡ put_all f more names
put_no f name more names e = rw e refl

pub item_at : {X : Type 0} (xs : List X) (i : ℕ) (x : X) → i < length xs → x ≡ get_or xs i x → drop i xs ≡ x ∷ drop (i + 1) xs
item_at xs i x h e = rw add-one (drop-cons xs i x h ∙ ap (λ y. y ∷ drop (suc i) xs) (sym e))

pub put_step : (f : Folder) (rest next : List (List ℕ)) (name : List ℕ) (k : Bor (List ℕ)) (es fs : List (Bor (List ℕ) × Folder))
    → rest ≡ name ∷ next → k.now ≡ name → counts name ≡ true → fs ≡ insert_entry (λ x y. slice_cmp nat_cmp x.now y.now) es k f
    → put_all f next (map entry_of fs) ≡ put_all f rest (map entry_of es)
put_step f rest next name k es fs r q c e =
    ap (λ (x : List (Bor (List ℕ) × Folder)). put_all f next (map entry_of x)) e
    ∙ ap (put_all f next) (insert_view es k f)
    ∙ ap (λ (x : List ℕ). put_all f next (insert_entry (slice_cmp nat_cmp) (map entry_of es) x f)) q
    ∙ sym (ap (λ (x : List (List ℕ)). put_all f x (map entry_of es)) r ∙ put_yes f name next (map entry_of es) c)

pub pass_step : (f : Folder) (rest next : List (List ℕ)) (name : List ℕ) (es : List (Bor (List ℕ) × Folder))
    → rest ≡ name ∷ next → counts name ≡ false → put_all f next (map entry_of es) ≡ put_all f rest (map entry_of es)
pass_step f rest next name es r c =
    sym (ap (λ (x : List (List ℕ)). put_all f x (map entry_of es)) r ∙ put_no f name next (map entry_of es) c)
