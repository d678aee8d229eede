-- What is counted of assignments, one after another: how many, and their files.
use Rattle.std.proofs.Common.{IfSome, subst, ◌≡◌, ◌≤◌, ◌<◌, ◌∙◌, ap, sym, refl, ℕ, ◌+◌, List, [], ◌∷◌, ◌++◌, map, length, arith, Bool, true, false, true≢false, cond, append_assoc, append-nil}
use Rattle.std.specs.Borrow.{Bor}
use Rattle.std.specs.Prelude.{flat_map, if◌then◌else◌}
use Rattle.std.specs.List.{dedup_from}
use Rattle.std.specs.Cmp.Lexicographic.{texts_ties}
use Rattle.std.proofs.lemmas.List.{length-append, map-append}
use Rattle.hwdb_spec.specs.Assignment.{Assignment, ascending, put, text_cmp}
use Rattle.hwdb_spec_commands.specs.Differences.{Change, are_some, change_text, changes_text}
use Rattle.hwdb_spec_commands.specs.Differences.Change.{Came, Went, Changed}
use Rattle.hwdb_spec.specs.Folders.{same}
use Rattle.hwdb_spec.specs.Lemmas.Orders.{same_itself}
use Rattle.hwdb_spec_commands.specs.Status.{Amount, State, amount_of, first_text, stale_by}
use Rattle.hwdb_spec_commands.specs.Summary.{different, summary_of}
use Rattle.hwdb_spec.specs.Tree.{Tree, members_under}
use Rattle.hwdb_text.specs.Lemmas.Ascending.{deduped, same_bytes}
use Rattle.hwdb_reader.specs.Unread.{IsFrom, file_of, text_of}
use Rattle.hwdb_reader.specs.declared.unread.UnreadEntry.{UnreadEntry}
use Rattle.hwdb_databases.specs.declared.inventory.Inventory.{Inventory}
use Rattle.hwdb_databases.specs.Internal.Counting.{IsHeldFrom, first_kept}
use Rattle.hwdb_databases.specs.Internal.Meeting.{changes_by, unread_of, new_by, old_by}
use Rattle.hwdb_databases.specs.declared.meeting.Side.{Side}
use Rattle.hwdb_databases.specs.declared.meeting.Side.TheVariants.{Old, New, Both}

-- ---- files, one after another

again : (text : List ℕ) (rest : List (List ℕ)) → ascending (text ∷ text ∷ rest) ≡ ascending (text ∷ rest)
again text rest =
    sym (deduped (text ∷ text ∷ rest))
    ∙ ap (λ (b : Bool). ascending (cond b (dedup_from same_bytes text rest) (text ∷ dedup_from same_bytes text rest))) (texts_ties text text ∙ same_itself text)
    ∙ deduped (text ∷ rest)

again_after : (before : List (List ℕ)) (text : List ℕ) (rest : List (List ℕ)) → ascending (before ++ text ∷ text ∷ rest) ≡ ascending (before ++ text ∷ rest)
unfolding ascending
again_after [] text rest = again text rest
again_after (first ∷ before) text rest = ap (put text_cmp first) (again_after before text rest)

-- a file that is the last one
pub last_again : (before : List (List ℕ)) (last text : List ℕ) (rest : List (List ℕ)) → text ≡ last
    → different ((before ++ last ∷ []) ++ rest) ≡ different ((before ++ last ∷ []) ++ text ∷ rest)
last_again before last text rest one =
    ap different (append_assoc before (last ∷ []) rest) ∙ sym (ap length (again_after before last rest))
    ∙ ap (λ (t : List ℕ). different (before ++ last ∷ t ∷ rest)) (sym one) ∙ sym (ap different (append_assoc before (last ∷ []) (text ∷ rest)))

-- the first file
pub first_file : (before : List (List ℕ)) (text : List ℕ) (rest : List (List ℕ)) → (before ++ text ∷ []) ++ rest ≡ (before ++ []) ++ text ∷ rest
first_file before text rest = append_assoc before (text ∷ []) rest ∙ ap (λ l. l ++ text ∷ rest) (sym (append-nil before))

-- another file than the last one
pub next_file : (old now : List (Bor (List ℕ))) (read : Bor (List ℕ)) (last text : List ℕ) (rest : List (List ℕ)) → read.now ≡ last → now ≡ old ++ read ∷ []
    → (map (λ t. t.now) now ++ text ∷ []) ++ rest ≡ (map (λ t. t.now) old ++ last ∷ []) ++ text ∷ rest
next_file old now read last text rest one is =
    append_assoc (map (λ t. t.now) now) (text ∷ []) rest
    ∙ ap (λ l. l ++ text ∷ rest) (ap (map (λ t. t.now)) is ∙ map-append (λ t. t.now) old (read ∷ []) ∙ ap (λ t. map (λ b. b.now) old ++ t ∷ []) one)

-- ---- a step

abbrev pub path_of : Assignment → List ℕ
path_of f = f.path

-- what was counted, and what is left
pub files_on : (old now : List (List ℕ)) (left more own : List Assignment) → left ≡ own ++ more → different (now ++ map path_of more) ≡ different (old ++ (map path_of own ++ map path_of more))
    → different (now ++ map path_of more) ≡ different (old ++ map path_of left)
files_on old now left more own split is =
    is ∙ ap (λ l. different (old ++ l)) (sym (map-append path_of own more)) ∙ ap (λ l. different (old ++ map path_of l)) (sym split)

pub count_on : (old now : ℕ) (left more own : List Assignment) → left ≡ own ++ more → now ≡ old + length own → now + length more ≡ old + length left
count_on old now left more own split is =
    let sizes = ap length split ∙ length-append own more in omega (arith, sizes, is)

-- there is room to count one more
pub room : (count limit : ℕ) (left more all : List Assignment) (x : Assignment) → left ≡ x ∷ more → count + length left ≡ length all → length all < limit → count + 1 < limit
room count limit left more all x split is few = let sizes = ap length split in omega (arith, sizes, is, few)

-- nothing is left
pub all_counted : (bytes : ℕ) (t : Tree) (files : List (List ℕ)) (count : ℕ) (left : List Assignment) → left ≡ []
    → different (files ++ map path_of left) ≡ different (map path_of (members_under [] t)) → count + length left ≡ length (members_under [] t)
    → Amount.Counted (different files) count bytes ≡ amount_of (summary_of bytes t)
all_counted bytes t files count left empty is counted =
    let found : different files ≡ different (map path_of (members_under [] t)) =
    ap different (sym (append-nil files)) ∙ ap (λ l. different (files ++ map path_of l)) (sym empty) ∙ is in
    let size = ap length empty in
    let members : count ≡ length (members_under [] t) = omega (arith, size, counted) in
    λ i. Amount.Counted (found i) (members i) bytes

-- ---- changes, one after another

pub none_changed : (cs : List Change) → are_some cs ≡ false → cs ≡ []
none_changed [] h = refl
none_changed (c ∷ cs) h = absurd (true≢false h)

one_if : (b : Bool) (change : Change) → are_some (if b then [] else change ∷ []) ≡ true → (c : Change) × ((if b then [] else change ∷ []) ≡ c ∷ [])
one_if true change h = absurd (true≢false (sym h))
one_if false change h = (change, refl)

-- there is one change, if there is any
pub one_changed : (p q : List ℕ) (side : Side) → are_some (changes_by p q side) ≡ true → (c : Change) × (changes_by p q side ≡ c ∷ [])
one_changed p q (Old x) h = (Went (unread_of p x), refl)
one_changed p q (New y) h = (Came (unread_of q y), refl)
one_changed p q (Both x y) h = one_if (same (text_of x.value) (text_of y.value)) (Changed (unread_of p x) (unread_of q y)) h

few_if : (b : Bool) (change : Change) → length (if b then [] else change ∷ []) ≤ 1
few_if true change = omega arith
few_if false change = omega arith

few_changed : (p q : List ℕ) (side : Side) → length (changes_by p q side) ≤ length (old_by p side) + length (new_by q side)
few_changed p q (Old x) = omega arith
few_changed p q (New y) = omega arith
few_changed p q (Both x y) = let few = few_if (same (text_of x.value) (text_of y.value)) (Changed (unread_of p x) (unread_of q y)) in omega (arith, few)

pub kept_none : (kept : List ℕ) (cs : List Change) → cs ≡ [] → kept ≡ first_kept kept cs
kept_none [] cs is = sym (ap first_text is)
kept_none (b ∷ more) cs is = refl

pub kept_first : (kept now : List ℕ) (cs : List Change) (c : Change) → cs ≡ c ∷ [] → kept ≡ [] → now ≡ kept ++ changes_text cs → now ≡ first_kept kept cs
kept_first kept now cs c one empty is =
    is ∙ ap (λ (g : List ℕ × List Change). g.0 ++ changes_text g.1) (λ i. (empty i, one i)) ∙ append-nil (change_text c)
    ∙ sym (ap (λ (g : List ℕ × List Change). first_kept g.0 g.1) (λ i. (empty i, one i)))

pub kept_still : (kept : List ℕ) (cs : List Change) → (kept ≡ [] → ⊥) → kept ≡ first_kept kept cs
kept_still [] cs h = absurd (h refl)
kept_still (b ∷ more) cs h = refl

line_kept : (c : Change) (more : List Change) → first_kept (change_text c) more ≡ change_text c
line_kept (Came new) more = refl
line_kept (Went old) more = refl
line_kept (Changed old new) more = refl

-- the first of some changes, and then of others
pub first_on : (kept now : List ℕ) (all cs more : List Change) → all ≡ cs ++ more → now ≡ first_kept kept cs → first_kept now more ≡ first_kept kept all
first_on kept now all cs more split is =
    ap (λ l. first_kept l more) is ∙ go kept cs ∙ ap (first_kept kept) (sym split)
  where
    go : (kept : List ℕ) (cs : List Change) → first_kept (first_kept kept cs) more ≡ first_kept kept (cs ++ more)
    go [] [] = refl
    go [] (c ∷ cs) = line_kept c more
    go (b ∷ rest) cs = refl

pub changes_on : (old now : ℕ) (all cs more : List Change) → all ≡ cs ++ more → now ≡ old + length cs → now + length more ≡ old + length all
changes_on old now all cs more split is = let sizes = ap length split ∙ length-append cs more in omega (arith, sizes, is)

module _ (p q : List ℕ) (side : Side) (lefts mores lasts nexts : List Assignment) (o : lefts ≡ old_by p side ++ mores) (n : lasts ≡ new_by q side ++ nexts) where
  -- no more changes than assignments
  pub bound_on : (old now all : ℕ) → now ≡ old + length (changes_by p q side) → old + (length lefts + length lasts) ≤ all → now + (length mores + length nexts) ≤ all
  bound_on old now all is bound =
      let few = few_changed p q side in
      let olds = ap length o ∙ length-append (old_by p side) mores in
      let news = ap length n ∙ length-append (new_by q side) nexts in
      omega (arith, few, olds, news, is, bound)

-- all were counted
pub stale_is : (changes : ℕ) (first : List ℕ) (left all : List Change) → left ≡ [] → changes + length left ≡ length all → first_kept first left ≡ first_text all → State.Stale changes first ≡ stale_by all
stale_is changes first left all none counted kept =
    let size = ap length none in
    let same : changes ≡ length all = omega (arith, size, counted) in
    let line : first ≡ first_text all = kept_none first left none ∙ kept in
    λ i. State.Stale (same i) (line i)

-- there is room to count so many more
pub fits : (count more left all limit : ℕ) → count + left ≡ all → more ≤ left → all < limit → count + more < limit
fits count more left all limit is within few = omega (arith, is, within, few)

pub fits_one : (count left all limit : ℕ) → count + left ≤ all → 1 ≤ left → all < limit → count + 1 < limit
fits_one count left all limit is some few = omega (arith, is, some, few)

pub fits_first : (x y limit : ℕ) → x + y < limit → x < limit
fits_first x y limit few = omega (arith, few)

-- ---- the file of what was counted last

pub held_before : (f : List ℕ) (h : Inventory) (x : UnreadEntry) → IsHeldFrom f h → IsFrom f x → IfSome h.last (λ t. file_of t ≡ file_of x.path)
held_before f h x held from = subst (λ (g : List ℕ). IsHeldFrom g h) (sym from.path) held

pub held_after : (f : List ℕ) (h : Inventory) (x : UnreadEntry) → IfSome h.last (λ t. file_of t ≡ file_of x.path) → IsFrom f x → IsHeldFrom f h
held_after f h x held from = subst (λ (g : List ℕ). IsHeldFrom g h) from.path held
