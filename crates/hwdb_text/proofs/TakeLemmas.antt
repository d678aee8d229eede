-- The names that the code holds are the chosen ones, and their places give the priorities.
use Rattle.std.proofs.Common.{◌≡◌, ℕ, ◌+◌, suc, Bool, true, false, List, [], ◌∷◌, Option, Some, None, refl, ap, ◌∙◌, sym, subst, cond, ◌||◌, inl, inr, filter, map, length, count_by, arith}
use Rattle.std.proofs.lemmas.Bool.{cases_Bool}
use Rattle.std.proofs.lemmas.List.Sums.{sum_by-cons}
use Rattle.std.specs.Ordering.{nat_cmp, is_eq, is_lt, match_ordering}
use Rattle.std.specs.declared.cmp.Ordering.{Ordering}
use Rattle.std.specs.declared.cmp.Ordering.TheVariants.{Less, Equal, Greater}
use Rattle.std.specs.Cmp.Lexicographic.{slice_cmp}
use Rattle.std.specs.Borrow.{Bor}
use Rattle.std.specs.BTreeMap.{insert_entry}
use Rattle.hwdb_spec.specs.Folders.{Choice, counts, same, lists, names, choice}
use Rattle.hwdb_text.specs.Laws.{is_smaller, IsBelow, Ascends}
use Rattle.hwdb_text.specs.Internal.Choosing.{with_name, entry_of, put_all, all_names, with_priorities}
use Rattle.hwdb_text.proofs.ChoiceLemmas.{put_yes, put_no}
use Rattle.hwdb_text.proofs.NameSetLemmas.{smaller_itself, smaller_not_same, smaller_back, lists_with_name, lists_filter, ascends_with_name, below_listed, one_ascending_list, names_ascend, names_are_those_that_count}
use Rattle.hwdb_spec.specs.Lemmas.Orders.{same_itself, same_text}

abbrev firsts : List (List ℕ × Bool) → List (List ℕ)
firsts es = map (λ e. e.0) es

firsts_by : (o : Ordering) (k : List ℕ) (v : Bool) (e : List ℕ × Bool) (es fs : List (List ℕ × Bool)) (set : List (List ℕ)) → firsts fs ≡ set
    → firsts (match_ordering o ((k, v) ∷ (e ∷ es)) ((e.0, v) ∷ es) (e ∷ fs)) ≡ cond (is_lt o) (k ∷ (e.0 ∷ firsts es)) (cond (is_eq o) (e.0 ∷ firsts es) (e.0 ∷ set))
firsts_by Less k v e es fs set i = refl
firsts_by Equal k v e es fs set i = refl
firsts_by Greater k v e es fs set i = ap (λ (r : List (List ℕ)). e.0 ∷ r) i

firsts_insert : (k : List ℕ) (v : Bool) (es : List (List ℕ × Bool)) → firsts (insert_entry (slice_cmp nat_cmp) es k v) ≡ with_name k (firsts es)
firsts_insert k v [] = refl
firsts_insert k v (e ∷ es) = firsts_by (slice_cmp nat_cmp k e.0) k v e es (insert_entry (slice_cmp nat_cmp) es k v) (with_name k (firsts es)) (firsts_insert k v es)

ascends_put : (f : Bool) (list : List (List ℕ)) (es : List (List ℕ × Bool)) → Ascends (firsts es) → Ascends (firsts (put_all f list es))
ascends_put f [] es a = a
ascends_put f (m ∷ more) es a = elim (cases_Bool (counts m)) [
  | inl c ↦
      let P : List (List ℕ × Bool) → Type 0 = λ x. Ascends (firsts x) in
      let Q : List (List ℕ) → Type 0 = Ascends in
      subst P (sym (put_yes f m more es c)) (ascends_put f more (insert_entry (slice_cmp nat_cmp) es m f) (subst Q (sym (firsts_insert m f es)) (ascends_with_name m (firsts es) a)))
  | inr c ↦ let P : List (List ℕ × Bool) → Type 0 = λ x. Ascends (firsts x) in subst P (sym (put_no f m more es c)) (ascends_put f more es a)
]

move : (s l e : Bool) → (l || (s || e)) ≡ ((s || l) || e)
move true true e = refl
move true false e = refl
move false l e = refl

listed_put : (n : List ℕ) (f : Bool) (list : List (List ℕ)) (es : List (List ℕ × Bool)) → lists n (firsts (put_all f list es)) ≡ (lists n (filter counts list) || lists n (firsts es))
listed_put n f [] es = refl
listed_put n f (m ∷ more) es = elim (cases_Bool (counts m)) [
  | inl c ↦
      ap (λ (x : List (List ℕ × Bool)). lists n (firsts x)) (put_yes f m more es c)
      ∙ listed_put n f more (insert_entry (slice_cmp nat_cmp) es m f)
      ∙ ap (λ (b : Bool). lists n (filter counts more) || b) (ap (lists n) (firsts_insert m f es) ∙ lists_with_name n m (firsts es))
      ∙ move (same m n) (lists n (filter counts more)) (lists n (firsts es))
      ∙ ap (λ (b : Bool). lists n (cond b (m ∷ filter counts more) (filter counts more)) || lists n (firsts es)) (sym c)
  | inr c ↦
      ap (λ (x : List (List ℕ × Bool)). lists n (firsts x)) (put_no f m more es c)
      ∙ listed_put n f more es
      ∙ ap (λ (b : Bool). lists n (cond b (m ∷ filter counts more) (filter counts more)) || lists n (firsts es)) (sym c)
]

both_count : (c e u : Bool) → (cond c e false || (cond c u false || false)) ≡ cond c (cond e true u) false
both_count true true u = refl
both_count true false true = refl
both_count true false false = refl
both_count false e u = refl

listed_all : (etc usr : List (List ℕ)) (n : List ℕ) → lists n (firsts (all_names etc usr)) ≡ lists n (names etc usr)
listed_all etc usr n =
    listed_put n true etc (put_all false usr [])
    ∙ ap (λ (b : Bool). lists n (filter counts etc) || b) (listed_put n false usr [])
    ∙ ap (λ (b : Bool). b || (lists n (filter counts usr) || false)) (lists_filter n etc)
    ∙ ap (λ (b : Bool). cond (counts n) (lists n etc) false || (b || false)) (lists_filter n usr)
    ∙ both_count (counts n) (lists n etc) (lists n usr)
    ∙ sym (names_are_those_that_count etc usr n)

all_ascend : (etc usr : List (List ℕ)) → Ascends (firsts (all_names etc usr))
all_ascend etc usr = ascends_put true etc (put_all false usr []) (ascends_put false usr [] tt)

-- the names that are held are the chosen ones
all_firsts : (etc usr : List (List ℕ)) → firsts (all_names etc usr) ≡ names etc usr
all_firsts etc usr = one_ascending_list (firsts (all_names etc usr)) (names etc usr) (all_ascend etc usr) (names_ascend etc usr) (listed_all etc usr)

-- the folder that a name is taken from, if it is held
abbrev taken : List ℕ → List (List ℕ × Bool) → Option Bool
taken name [] = None
taken name (n ∷ more) = cond (same n.0 name) (Some (n.1)) (taken name more)

equal_by : (a b : Bool) (v w t : Option Bool) → a ≡ b → cond b v t ≡ cond a v (cond b w t)
equal_by true true v w t e = refl
equal_by false false v w t e = refl
equal_by true false v w t e = cc
equal_by false true v w t e = cc

apart_by : (a b : Bool) (v w t : Option Bool) → (a ≡ true → b ≡ true → ⊥) → cond b w (cond a v t) ≡ cond a v (cond b w t)
apart_by true true v w t n = absurd (n refl refl)
apart_by true false v w t n = refl
apart_by false true v w t n = refl
apart_by false false v w t n = refl

-- names that differ aren't both equal to a third
alike : (k m n : List ℕ) → same k m ≡ false → same k n ≡ true → same m n ≡ true → ⊥
alike k m n g a b =
    let e : k ≡ m = same_text k n a ∙ sym (same_text m n b) in
    let P : List ℕ → Type 0 = λ x. same k x ≡ false in
    let f : same k k ≡ false = subst P (sym e) g in
    let c : true ≡ false = sym (same_itself k) ∙ f in cc

insert_by : (o : Ordering) (n k : List ℕ) (v : Bool) (e : List ℕ × Bool) (es fs : List (List ℕ × Bool)) → slice_cmp nat_cmp k e.0 ≡ o
    → taken n fs ≡ cond (same k n) (Some v) (taken n es)
    → taken n (match_ordering o ((k, v) ∷ (e ∷ es)) ((e.0, v) ∷ es) (e ∷ fs)) ≡ cond (same k n) (Some v) (cond (same e.0 n) (Some (e.1)) (taken n es))
insert_by Less n k v e es fs o i = refl
insert_by Equal n k v e es fs o i = equal_by (same k n) (same e.0 n) (Some v) (Some (e.1)) (taken n es) (ap (λ (x : List ℕ). same x n) (same_text k e.0 (ap is_eq o)))
insert_by Greater n k v e es fs o i =
    ap (λ (t : Option Bool). cond (same e.0 n) (Some (e.1)) t) i ∙ apart_by (same k n) (same e.0 n) (Some v) (Some (e.1)) (taken n es) (alike k e.0 n (ap is_eq o))

taken_insert : (n k : List ℕ) (v : Bool) (es : List (List ℕ × Bool)) → taken n (insert_entry (slice_cmp nat_cmp) es k v) ≡ cond (same k n) (Some v) (taken n es)
taken_insert n k v [] = refl
taken_insert n k v (e ∷ es) = insert_by (slice_cmp nat_cmp k e.0) n k v e es (insert_entry (slice_cmp nat_cmp) es k v) refl (taken_insert n k v es)

join_by : (s l : Bool) (v t : Option Bool) → cond l v (cond s v t) ≡ cond (s || l) v t
join_by true true v t = refl
join_by true false v t = refl
join_by false l v t = refl

taken_put : (n : List ℕ) (f : Bool) (list : List (List ℕ)) (es : List (List ℕ × Bool)) → taken n (put_all f list es) ≡ cond (lists n (filter counts list)) (Some f) (taken n es)
taken_put n f [] es = refl
taken_put n f (m ∷ more) es = elim (cases_Bool (counts m)) [
  | inl c ↦
      ap (taken n) (put_yes f m more es c) ∙ taken_put n f more (insert_entry (slice_cmp nat_cmp) es m f)
      ∙ ap (λ (t : Option Bool). cond (lists n (filter counts more)) (Some f) t) (taken_insert n m f es) ∙ join_by (same m n) (lists n (filter counts more)) (Some f) (taken n es)
      ∙ ap (λ (b : Bool). cond (lists n (cond b (m ∷ filter counts more) (filter counts more))) (Some f) (taken n es)) (sym c)
  | inr c ↦
      ap (taken n) (put_no f m more es c) ∙ taken_put n f more es
      ∙ ap (λ (b : Bool). cond (lists n (cond b (m ∷ filter counts more) (filter counts more))) (Some f) (taken n es)) (sym c)
]

-- each is taken from etc exactly if etc lists it
abbrev FromEtc : List (List ℕ) → List (List ℕ × Bool) → Type 0
FromEtc etc [] = Unit {0}
FromEtc etc (e ∷ more) = (e.1 ≡ lists e.0 etc) × FromEtc etc more

taken_listed : (n : List ℕ) (es : List (List ℕ × Bool)) (b : Bool) → taken n es ≡ Some b → lists n (firsts es) ≡ true
taken_listed n [] b e = cc
taken_listed n (x ∷ es) b e = elim (cases_Bool (same x.0 n)) [
  | inl s ↦ ap (λ (t : Bool). t || lists n (firsts es)) s
  | inr s ↦
      ap (λ (t : Bool). t || lists n (firsts es)) s
      ∙ taken_listed n es b (sym (ap (λ (t : Bool). cond t (Some (x.1)) (taken n es)) s) ∙ e)
]

from_all : (etc : List (List ℕ)) (es : List (List ℕ × Bool)) → Ascends (firsts es) → ((n : List ℕ) (b : Bool) → taken n es ≡ Some b → b ≡ lists n etc) → FromEtc etc es
from_all etc [] a h = tt
from_all etc (e ∷ es) a h = (
  h e.0 e.1 (ap (λ (t : Bool). cond t (Some (e.1)) (taken e.0 es)) (same_itself e.0)),
  from_all etc es a.1 (λ n b q.
      h n b (ap (λ (t : Bool). cond t (Some (e.1)) (taken n es)) (smaller_not_same e.0 n (below_listed e.0 n (firsts es) a.0 (taken_listed n es b q))) ∙ q)),
)

taken_by : (c l u b : Bool) → cond (cond c l false) (Some true) (cond (cond c u false) (Some false) None) ≡ Some b → b ≡ l
taken_by true true u b e = cc
taken_by true false true b e = cc
taken_by true false false b e = cc
taken_by false l u b e = cc

all_from : (etc usr : List (List ℕ)) → FromEtc etc (all_names etc usr)
all_from etc usr = from_all etc (all_names etc usr) (all_ascend etc usr) (λ n b q.
    taken_by (counts n) (lists n etc) (lists n usr) b
    (sym (taken_put n true etc (put_all false usr []) ∙ ap (λ (t : Option Bool). cond (lists n (filter counts etc)) (Some true) t) (taken_put n false usr [])
    ∙ ap (λ (t : Bool). cond t (Some true) (cond (lists n (filter counts usr)) (Some false) None)) (lists_filter n etc)
    ∙ ap (λ (t : Bool). cond (cond (counts n) (lists n etc) false) (Some true) (cond t (Some false) None)) (lists_filter n usr)) ∙ q))

abbrev at : List (List ℕ) → List ℕ → ℕ → Choice
at etc n p = record { from_etc = lists n etc; name = n; priority = p }

abbrev smaller_in : List (List ℕ) → List ℕ → ℕ
smaller_in set n = count_by (λ m. is_smaller m n) set

smaller_cons : (a n : List ℕ) (set : List (List ℕ)) → smaller_in (a ∷ set) n ≡ cond (is_smaller a n) 1 0 + smaller_in set n
smaller_cons a n set = sum_by-cons (λ m. cond (is_smaller m n) 1 0) a set

none_smaller : (n : List ℕ) (set : List (List ℕ)) → IsBelow n set → smaller_in set n ≡ 0
none_smaller n [] b = refl
none_smaller n (m ∷ more) b =
    smaller_cons m n more ∙ ap (λ (t : Bool). cond t 1 0 + smaller_in more n) (smaller_back n m b.0)
    ∙ (let z : smaller_in more n ≡ 0 = none_smaller n more b.1 in omega arith)

one_more : (a n : List ℕ) (set : List (List ℕ)) (p : ℕ) → is_smaller a n ≡ true → p + 1 + smaller_in set n ≡ p + smaller_in (a ∷ set) n
one_more a n set p s =
    let e : smaller_in (a ∷ set) n ≡ 1 + smaller_in set n = smaller_cons a n set ∙ ap (λ (t : Bool). cond t 1 0 + smaller_in set n) s in omega arith

shifted : (etc : List (List ℕ)) (a : List ℕ) (set xs : List (List ℕ)) (p : ℕ) → IsBelow a xs
    → map (λ n. at etc n (p + 1 + smaller_in set n)) xs ≡ map (λ n. at etc n (p + smaller_in (a ∷ set) n)) xs
shifted etc a set [] p b = refl
shifted etc a set (n ∷ xs) p b =
    ap (λ (k : ℕ). at etc n k ∷ map (λ n. at etc n (p + 1 + smaller_in set n)) xs) (one_more a n set p b.0)
    ∙ ap (λ (r : List Choice). at etc n (p + smaller_in (a ∷ set) n) ∷ r) (shifted etc a set xs p b.1)

first_place : (a : List ℕ) (set : List (List ℕ)) (p : ℕ) → IsBelow a set → p ≡ p + smaller_in (a ∷ set) a
first_place a set p b =
    let e : smaller_in (a ∷ set) a ≡ smaller_in set a = smaller_cons a a set ∙ ap (λ (t : Bool). cond t 1 0 + smaller_in set a) (smaller_itself a) ∙ omega arith in
    let z : smaller_in set a ≡ 0 = none_smaller a set b in omega arith

by_place : (etc : List (List ℕ)) (es : List (List ℕ × Bool)) (p : ℕ) → Ascends (firsts es) → FromEtc etc es
    → with_priorities p es ≡ map (λ n. at etc n (p + smaller_in (firsts es) n)) (firsts es)
unfolding with_priorities
by_place etc [] p a f = refl
by_place etc (e ∷ es) p a f =
    ap (λ (b : Bool). let c : Choice = record { from_etc = b; name = e.0; priority = p } in c ∷ with_priorities (p + 1) es) f.0
    ∙ ap (λ (k : ℕ). at etc e.0 k ∷ with_priorities (p + 1) es) (first_place e.0 (firsts es) p a.0)
    ∙ ap (λ (r : List Choice). at etc e.0 (p + smaller_in (firsts (e ∷ es)) e.0) ∷ r) (by_place etc es (p + 1) a.1 f.1 ∙ shifted etc e.0 (firsts es) (firsts es) p a.0)

-- what the code answers is the choice
pub choice_is : (etc usr : List (List ℕ)) → with_priorities 1 (all_names etc usr) ≡ choice etc usr
choice_is etc usr =
    by_place etc (all_names etc usr) 1 (all_ascend etc usr) (all_from etc usr)
    ∙ ap (λ (set : List (List ℕ)). map (λ n. at etc n (1 + smaller_in set n)) set) (all_firsts etc usr)

map_length : {X Y : Type 0} (f : X → Y) (xs : List X) → length (map f xs) ≡ length xs
map_length f [] = refl
map_length f (y ∷ xs) = ap (λ (n : ℕ). suc n) (map_length f xs)

pub as_many : (etc usr : List (List ℕ)) → length (all_names etc usr) ≡ length (names etc usr)
as_many etc usr = sym (map_length (λ e. e.0) (all_names etc usr)) ∙ ap length (all_firsts etc usr)

-- one folder put after the other
pub both_put : (etc usr : List (List ℕ)) (first second third : List (Bor (List ℕ) × Bool)) → first ≡ [] → map entry_of second ≡ put_all false usr (map entry_of first)
    → map entry_of third ≡ put_all true etc (map entry_of second) → map entry_of third ≡ all_names etc usr
both_put etc usr first second third e f g = g ∙ ap (put_all true etc) (f ∙ ap (λ es. put_all false usr (map entry_of es)) e)
