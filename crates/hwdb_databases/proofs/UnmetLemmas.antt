-- The set of patterns that no device has met.
use Rattle.std.proofs.Common.{◌≡◌, ◌∙◌, ◌<◌, ◌+◌, ◌++◌, ◌&&◌, ◌||◌, ap, sym, refl, ℕ, Bool, true, false, cond, not, List, [], ◌∷◌, get_or, length, map, take}
use Rattle.std.specs.Prelude.{filter, flat_map}
use Rattle.std.specs.Borrow.{Bor}
use Rattle.std.specs.BTreeSet.{contains}
use Rattle.std.specs.Cmp.Lexicographic.{slice_cmp}
use Rattle.std.specs.List.{list_any}
use Rattle.std.specs.Ordering.{is_eq, nat_cmp}
use Rattle.std.specs.declared.cmp.Ordering.{Ordering}
use Rattle.std.proofs.lemmas.Cmp.{nat_list_cmp_total, tied_itself}
use Rattle.std.proofs.lemmas.Grind.{flat_map-append}
use Rattle.std.proofs.lemmas.List.{append-nil, map-append, take_more}
use Rattle.std.proofs.lemmas.List.Folds.{list_any-append}
use Rattle.hwdb_spec.specs.Assignment.{Assignment, text_cmp}
use Rattle.hwdb_spec.specs.Folders.{same}
use Rattle.hwdb_spec.specs.Lemmas.Orders.{turned}
use Rattle.hwdb_spec.specs.Lemmas.Truth.{or_one_more}
use Rattle.hwdb_spec.specs.Tree.{Tree}
use Rattle.hwdb_spec_commands.specs.Renamed.{changed_pattern}
use Rattle.hwdb_spec_commands.specs.Differences.{Change}
use Rattle.hwdb_spec_commands.specs.Unmet.{is_met, is_pattern_in, told_to, unmet}
use Rattle.hwdb_query.specs.Views.{assignment_of_answer, explained_values}
use Rattle.hwdb_query.specs.declared.answer.Explained.{Explained}
use Rattle.hwdb_query.specs.declared.answer.StoredAssignment.{StoredAssignment}
use Rattle.hwdb_databases.specs.Internal.Unmet.{AreLeft, AreNamed, HasTaken, Set, answered, has_text, is_named, left_by}
use Rattle.hwdb_databases.specs.Views.{assignment_of, change_shown}
use Rattle.hwdb_databases.specs.declared.pairs.Pair.{Pair}

same_turned : (m n : List ℕ) → same m n ≡ same n m
same_turned m n = sym (turned (slice_cmp nat_cmp m n)) ∙ sym (ap is_eq (nat_list_cmp_total.antisymm n m))

somewhere : List ℕ → Bor (List ℕ)
somewhere text = record { ref_ptr = (0, 0); now = text }

abbrev by_text : Bor (List ℕ) → Bor (List ℕ) → Ordering
by_text p q = slice_cmp nat_cmp p.now q.now

-- ---- the patterns of changes
pub no_names : (set : Set) → set.keys ≡ [] → AreNamed [] set
no_names set e = λ k. ap (list_any (λ q. is_eq (text_cmp k q.now))) e

pub names_step : (all : List Pair) (i : ℕ) (d : Pair) (key : Bor (List ℕ)) (old new : Set) → i < length all → key.now ≡ changed_pattern (change_shown (get_or all i d))
    → ((q : Bor (List ℕ)) → contains by_text new q ≡ cond (is_eq (by_text key q)) true (contains by_text old q))
    → AreNamed (map change_shown (take i all)) old → AreNamed (map change_shown (take (i + 1) all)) new
unfolding somewhere
names_step all i d key old new h is put so_far = λ k.
    let c = change_shown (get_or all i d) in
    put (somewhere k)
    ∙ ap (λ (t : Bool). cond t true (has_text old k)) (same_turned key.now k ∙ ap (same k) is)
    ∙ or_one_more (same k (changed_pattern c)) (has_text old k) (is_named (map change_shown (take i all)) k) (so_far k)
    ∙ sym (ap (λ cs. is_named cs k) (ap (map change_shown) (take_more all i d h) ∙ map-append change_shown (take i all) (get_or all i d ∷ []))
    ∙ list_any-append (λ o. same k (changed_pattern o)) (map change_shown (take i all)) (c ∷ []))

-- ---- answers are taken out
and_none : (a : Bool) → a ≡ (a && not false)
and_none true = refl
and_none false = refl

pub taken_none : (set : Set) → HasTaken set set []
taken_none set = λ k. and_none (has_text set k)

both_out : (a b c : Bool) → ((a && not b) && not c) ≡ (a && not (b || c))
both_out true true c = refl
both_out true false c = refl
both_out false b c = refl

out_if : (c a : Bool) → cond c false a ≡ (a && not (c || false))
out_if true true = refl
out_if true false = refl
out_if false true = refl
out_if false false = refl

-- some, and others after them
pub taken_both : (a b c : Set) (xs ys : List Assignment) → HasTaken a b xs → HasTaken b c ys → HasTaken a c (xs ++ ys)
taken_both a b c xs ys first second = λ k.
    second k ∙ ap (λ t. t && not (is_pattern_in ys k)) (first k) ∙ both_out (has_text a k) (is_pattern_in xs k) (is_pattern_in ys k)
    ∙ ap (λ t. has_text a k && not t) (sym (list_any-append (λ (f : Assignment). same k f.position.pattern) xs ys))

pub taken_one : (key : List ℕ) (f : Assignment) (before now : Set) → key ≡ f.position.pattern
    → ((q : Bor (List ℕ)) → contains by_text now q ≡ cond (is_eq (text_cmp key q.now)) false (contains by_text before q)) → HasTaken before now (f ∷ [])
unfolding somewhere
taken_one key f before now is out = λ k.
    out (somewhere k) ∙ ap (λ (t : Bool). cond t false (has_text before k)) (same_turned key k ∙ ap (same k) is) ∙ out_if (same k f.position.pattern) (has_text before k)

pub taken_as : (a b : Set) (xs ys : List Assignment) → xs ≡ ys → HasTaken a b xs → HasTaken a b ys
taken_as a b xs ys is h = λ k. h k ∙ ap (λ l. has_text a k && not (is_pattern_in l k)) is

-- one answer more
pub answer_taken : (found : List StoredAssignment) (i : ℕ) (d : StoredAssignment) (key : List ℕ) (first before now : Set) → i < length found
    → key ≡ (get_or found i d).pattern.value.items
    → ((q : Bor (List ℕ)) → contains by_text now q ≡ cond (is_eq (text_cmp key q.now)) false (contains by_text before q))
    → HasTaken first before (map assignment_of (take i found)) → HasTaken first now (map assignment_of (take (i + 1) found))
answer_taken found i d key first before now h is out so_far =
    taken_as first now _ _
    (sym (ap (map assignment_of) (take_more found i d h) ∙ map-append assignment_of (take i found) (get_or found i d ∷ [])))
    (taken_both first before now (map assignment_of (take i found)) (assignment_of (get_or found i d) ∷ []) so_far (taken_one key (assignment_of (get_or found i d)) before now is out))

-- one key more
pub key_taken : (list : List Explained) (i : ℕ) (d : Explained) (first before now : Set) → i < length list
    → HasTaken before now (map assignment_of (get_or list i d).answers.items)
    → HasTaken first before (answered (explained_values (take i list))) → HasTaken first now (answered (explained_values (take (i + 1) list)))
key_taken list i d first before now h one so_far =
    let its = map assignment_of (get_or list i d).answers.items in
    taken_as first now (answered (explained_values (take i list)) ++ its) _
    (ap (λ l. answered (explained_values (take i list)) ++ l) (sym (append-nil its))
    ∙ sym (flat_map-append (λ (p : List ℕ × List Assignment). p.1) (explained_values (take i list)) (explained_values (get_or list i d ∷ [])))
    ∙ ap answered (sym (map-append _ (take i list) (get_or list i d ∷ [])) ∙ ap explained_values (sym (take_more list i d h))))
    (taken_both first before now (answered (explained_values (take i list))) its so_far one)

-- ---- devices, one after another
pub left_all : (old new : Tree) (changes : List Change) (set : Set) → AreNamed changes set → AreLeft [] old new changes set
left_all old new changes set are = λ k. are k ∙ and_none (is_named changes k)

pub left_step : (ds : List (Bor (List ℕ))) (i : ℕ) (d : Bor (List ℕ)) (old new : Tree) (changes : List Change) (before between now : Set) → i < length ds
    → HasTaken before between (told_to (get_or ds i d).now old) → HasTaken between now (told_to (get_or ds i d).now new)
    → AreLeft (map (λ (e : Bor (List ℕ)). e.now) (take i ds)) old new changes before → AreLeft (map (λ (e : Bor (List ℕ)). e.now) (take (i + 1) ds)) old new changes now
left_step ds i d old new changes before between now h first second so_far = λ k.
    let shown : Bor (List ℕ) → List ℕ = λ e. e.now in
    let device = (get_or ds i d).now in
    let test : List ℕ → Bool = λ e. is_pattern_in (told_to e old) k || is_pattern_in (told_to e new) k in
    second k ∙ ap (λ t. t && not (is_pattern_in (told_to device new) k)) (first k ∙ ap (λ t. t && not (is_pattern_in (told_to device old) k)) (so_far k))
    ∙ both_out (is_named changes k && not (is_met (map shown (take i ds)) old new k)) (is_pattern_in (told_to device old) k) (is_pattern_in (told_to device new) k)
    ∙ both_out (is_named changes k) (is_met (map shown (take i ds)) old new k) (test device)
    ∙ ap (λ t. is_named changes k && not t) (ap (λ b. is_met (map shown (take i ds)) old new k || b) (or_none (test device))
    ∙ sym (ap (list_any test) (ap (map shown) (take_more ds i d h) ∙ map-append shown (take i ds) (get_or ds i d ∷ []))
    ∙ list_any-append test (map shown (take i ds)) (device ∷ [])))
  where
    or_none : (b : Bool) → b ≡ (b || false)
    or_none true = refl
    or_none false = refl

-- ---- those that are left
named_itself : (c : Change) → same (changed_pattern c) (changed_pattern c) ≡ true
named_itself c = ap is_eq (tied_itself nat_list_cmp_total (changed_pattern c))

pub left_are : (devices : List (List ℕ)) (old new : Tree) (set : Set) (all some : List Change) → AreLeft devices old new all set
    → ((c : Change) → is_named some (changed_pattern c) ≡ true → is_named all (changed_pattern c) ≡ true) → left_by set some ≡ unmet devices old new some
left_are devices old new set all [] are within = refl
left_are devices old new set all (c ∷ cs) are within =
    let named : is_named all (changed_pattern c) ≡ true = within c (ap (λ b. b || is_named cs (changed_pattern c)) (named_itself c)) in
    let here : has_text set (changed_pattern c) ≡ not (is_met devices old new (changed_pattern c)) =
    are (changed_pattern c) ∙ ap (λ b. b && not (is_met devices old new (changed_pattern c))) named in
    ap (λ (b : Bool). cond b (c ∷ left_by set cs) (left_by set cs)) here
    ∙ ap (λ l. cond (not (is_met devices old new (changed_pattern c))) (c ∷ l) l)
    (left_are devices old new set all cs are (λ o is. within o (or_after (same (changed_pattern o) (changed_pattern c)) (is_named cs (changed_pattern o)) is)))
  where
    or_after : (a b : Bool) → b ≡ true → (a || b) ≡ true
    or_after true b e = refl
    or_after false b e = e

pub left_is : (devices : List (List ℕ)) (old new : Tree) (set : Set) (all : List Change) → AreLeft devices old new all set → left_by set all ≡ unmet devices old new all
left_is devices old new set all are = left_are devices old new set all all are (λ c is. is)

-- one change more
pub kept_step : (set : Set) (c : Change) (before now : List Change) → has_text set (changed_pattern c) ≡ true → now ≡ before ++ c ∷ [] → now ≡ before ++ left_by set (c ∷ [])
kept_step set c before now is n = n ∙ ap (λ l. before ++ l) (sym (ap (λ (b : Bool). cond b (c ∷ []) []) is))

pub dropped_step : (set : Set) (c : Change) (before : List Change) → has_text set (changed_pattern c) ≡ false → before ≡ before ++ left_by set (c ∷ [])
dropped_step set c before is = sym (append-nil before) ∙ ap (λ l. before ++ l) (sym (ap (λ (b : Bool). cond b (c ∷ []) []) is))
