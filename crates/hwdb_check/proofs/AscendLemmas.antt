-- Assignments that ascend by pattern and key: none is replaced.
use Rattle.std.proofs.Common.{◌≡◌, ℕ, ◌+◌, ◌<◌, ◌≤◌, Bool, true, false, List, [], ◌∷◌, map, take, length, get_or, suc, zero, refl, ap, ◌∙◌, sym, cond, arith, add-one}
use Rattle.std.specs.Prelude.{filter, max, nat_lt}
use Rattle.std.specs.List.{AllByRecursion}
use Rattle.std.specs.List.Sorted.{IsStrictlySortedBy}
use Rattle.std.specs.BTreeMap.{BTreeMap, is_at}
use Rattle.std.specs.Map.{lookup}
use Rattle.std.specs.Option.{unwrap_or}
use Rattle.std.specs.Cmp.Lexicographic.{slice_cmp}
use Rattle.std.specs.Ordering.{is_eq, nat_cmp, ordering_reverse, ordering_then}
use Rattle.std.specs.declared.cmp.Ordering.{Ordering}
use Rattle.std.specs.declared.cmp.Ordering.TheVariants.{Less, Equal, Greater}
use Rattle.std.proofs.lemmas.Bool.{ltb-true}
use Rattle.std.proofs.lemmas.List.{take_all}
use Rattle.std.proofs.lemmas.Map.Keys.{Less-from_sorted, sorted_from_all_adjacent, sorted_head, sorted_tail}
use Rattle.std.proofs.Math.Nat.{max-zero}
use Rattle.hwdb_spec.specs.Assignment.{Assignment}
use Rattle.hwdb_spec.specs.Folders.{same}
use Rattle.hwdb_spec_commands.specs.Warnings.{gives_value, greatest, last_with}
use Rattle.hwdb_text.specs.declared.outcome.Given.{Given}
use Rattle.hwdb_text.specs.Views.{given_in}
use Rattle.hwdb_check.specs.Internal.{IsReplacedBy, behind, by_place, by_place_total, gives, lines_with, own, raised, replacing_of}
use Rattle.hwdb_check.proofs.ReplaceLemmas.{more, replacing_more, replacing_none}
use Rattle.hwdb_spec.specs.Lemmas.Orders.{equal_of, same_itself}

-- the greatest line of those that pass a test
abbrev most : (Assignment → Bool) → List Given → ℕ
most t all = greatest (map (λ a. a.position.line) (filter t (map (given_in own) all)))

first : (t : Assignment → Bool) (g : Given) (all : List Given) → most t (g ∷ all) ≡ cond (t (given_in own g)) (max g.line (most t all)) (most t all)
first t g all = go (t (given_in own g))
  where
    go : (b : Bool)
        → greatest (map (λ a. a.position.line) (cond b (given_in own g ∷ filter t (map (given_in own) all)) (filter t (map (given_in own) all)))) ≡ cond b (max g.line (most t all)) (most t all)
    go true = refl
    go false = refl

none : (t : Assignment → Bool) (g : Given) (all : List Given) → AllByRecursion (λ y. by_place g y ≡ Less) all → ((y : Given) → by_place g y ≡ Less → t (given_in own y) ≡ false) → most t all ≡ 0
none t g [] h f = refl
none t g (x ∷ all) h f = first t x all ∙ ap (λ b. cond b (max x.line (most t all)) (most t all)) (f x h.0) ∙ none t g all h.1 f

-- one alone passes
alone : (t : Assignment → Bool) (all : List Given) (i : ℕ) (d : Given) → i < length all → IsStrictlySortedBy by_place all → t (given_in own (get_or all i d)) ≡ true
    → ((y : Given) → by_place y (get_or all i d) ≡ Less → t (given_in own y) ≡ false) → ((y : Given) → by_place (get_or all i d) y ≡ Less → t (given_in own y) ≡ false)
    → most t all ≡ (get_or all i d).line
alone t [] i d h s e f g = absurd (omega (arith, h))
alone t (x ∷ all) zero d h s e f g =
    first t x all ∙ ap (λ b. cond b (max x.line (most t all)) (most t all)) e ∙ ap (max x.line) (none t x all (sorted_head by_place x all s) g) ∙ max-zero x.line
alone t (x ∷ all) (suc i) d h s e f g =
    first t x all
    ∙ ap (λ b. cond b (max x.line (most t all)) (most t all)) (f x (Less-from_sorted by_place (x ∷ all) 0 (suc i) d s (omega arith) h))
    ∙ alone t all i d (omega (arith, h)) (sorted_tail by_place x all s) e f g

-- those with one pattern and one key tie
both : (a b : Ordering) → cond (is_eq a) (is_eq b) false ≡ true → ordering_then a b ≡ Equal
both Less b e = cc
both Equal b e = equal_of b e
both Greater b e = cc

before : (a y : Given) → by_place y a ≡ Less → gives (given_in own y) a.pattern.now a.key.now ≡ false
before a y h = go (gives (given_in own y) a.pattern.now a.key.now) refl
  where
    go : (b : Bool) → gives (given_in own y) a.pattern.now a.key.now ≡ b → b ≡ false
    go false e = refl
    go true e = let tie : by_place y a ≡ Equal = both (slice_cmp nat_cmp y.pattern.now a.pattern.now) (slice_cmp nat_cmp y.key.now a.key.now) e in
        let no : Less ≡ Equal = sym h ∙ tie in cc

after : (a y : Given) → by_place a y ≡ Less → gives (given_in own y) a.pattern.now a.key.now ≡ false
after a y h = go (gives (given_in own y) a.pattern.now a.key.now) refl
  where
    go : (b : Bool) → gives (given_in own y) a.pattern.now a.key.now ≡ b → b ≡ false
    go false e = refl
    go true e = let tie : by_place y a ≡ Equal = both (slice_cmp nat_cmp y.pattern.now a.pattern.now) (slice_cmp nat_cmp y.key.now a.key.now) e in
        let no : Less ≡ Equal = sym h ∙ by_place_total.antisymm a y ∙ ap ordering_reverse tie in cc

valued : (b c d : Bool) → cond b c false ≡ false → cond b (cond c d false) false ≡ false
valued true true d e = cc
valued true false d e = refl
valued false c d e = refl

behind_itself : (n : ℕ) → behind n n ≡ 0
behind_itself n = go (nat_lt n n) refl
  where
    go : (b : Bool) → nat_lt n n ≡ b → cond b n 0 ≡ 0
    go true e = let h = ltb-true n n e in absurd (omega (arith, h))
    go false e = refl

-- the last line with a pattern and a key gives the same value
last_itself : (all : List Given) (i : ℕ) (d : Given) → i < length all → IsStrictlySortedBy by_place all
    → behind (last_with (map (given_in own) all) (get_or all i d).pattern.now (get_or all i d).key.now (get_or all i d).value.now)
    (greatest (lines_with (get_or all i d).pattern.now (get_or all i d).key.now (map (given_in own) all))) ≡ 0
last_itself all i d h s =
    let a : Given = get_or all i d in
    let given : gives (given_in own a) a.pattern.now a.key.now ≡ true =
    ap (λ b. cond b (same a.key.now a.key.now) false) (same_itself a.pattern.now) ∙ same_itself a.key.now in
    let with : gives_value a.pattern.now a.key.now a.value.now (given_in own a) ≡ true =
    ap (λ b. cond b (cond (same a.key.now a.key.now) (same a.value.now a.value.now) false) false) (same_itself a.pattern.now)
    ∙ ap (λ b. cond b (same a.value.now a.value.now) false) (same_itself a.key.now)
    ∙ same_itself a.value.now in
    ap (λ m. behind m (most (λ b. gives b a.pattern.now a.key.now) all))
    (alone (gives_value a.pattern.now a.key.now a.value.now) all i d h s with
    (λ y l. valued (same y.pattern.now a.pattern.now) (same y.key.now a.key.now) (same y.value.now a.value.now) (before a y l))
    (λ y l. valued (same y.pattern.now a.pattern.now) (same y.key.now a.key.now) (same y.value.now a.value.now) (after a y l)))
    ∙ ap (behind a.line) (alone (λ b. gives b a.pattern.now a.key.now) all i d h s given (before a) (after a))
    ∙ behind_itself a.line

raised_none : (t : Bool) (n old : ℕ) → n ≡ 0 → old ≡ 0 → raised t n old ≡ 0
raised_none true n old e f = ap (λ m. max m n) f ∙ ap (max 0) e
raised_none false n old e f = f

so_far : (all : List Given) (d : Given) (n : ℕ) → IsStrictlySortedBy by_place all → (i : ℕ) → i ≤ length all
    → greatest (replacing_of (map (given_in own) (take i all)) (map (given_in own) all) n) ≡ 0
so_far all d n s zero h = replacing_none (map (given_in own) all) n
so_far all d n s (suc i) h =
    let a : Given = get_or all i d in
    let whole : List Assignment = map (given_in own) all in
    let within : i < length all = omega (arith, h) in
    ap (λ (j : ℕ). greatest (replacing_of (map (given_in own) (take j all)) whole n)) (sym (add-one i))
    ∙ ap (λ l. greatest (replacing_of l whole n)) (more all i d within)
    ∙ replacing_more (map (given_in own) (take i all)) whole (given_in own a) n
    ∙ raised_none _ _ _ (last_itself all i d within s) (so_far all d n s i (omega (arith, h)))

pub none_replaced : (all : List Given) → IsStrictlySortedBy by_place all → (n : ℕ) → greatest (replacing_of (map (given_in own) all) (map (given_in own) all) n) ≡ 0
none_replaced [] s n = refl
none_replaced (x ∷ rest) s n =
    ap (λ (l : List Given). greatest (replacing_of (map (given_in own) l) (map (given_in own) (x ∷ rest)) n)) (sym (take_all (length (x ∷ rest)) (x ∷ rest) (omega arith)))
    ∙ so_far (x ∷ rest) x n s (length (x ∷ rest)) (omega arith)

pub ascending : (all : List Given) (replaced : BTreeMap ℕ ℕ) → IsStrictlySortedBy by_place all → replaced.entries ≡ [] → IsReplacedBy (map (given_in own) all) (map (given_in own) all) replaced
ascending all replaced s e = λ n. ap (λ es. unwrap_or (lookup (is_at (nat_cmp n)) es) 0) e ∙ sym (none_replaced all s n)

-- each comes before the next one
pub ascended : (all : List Given) (at : ℕ) → length all ≤ at → ((k : ℕ) (d : Given) → k + 1 < at → k + 1 < length all → by_place (get_or all k d) (get_or all (k + 1) d) ≡ Less) → IsStrictlySortedBy by_place all
unfolding IsStrictlySortedBy
ascended [] at h pairs = tt
ascended (x ∷ rest) at h pairs = sorted_from_all_adjacent by_place_total (x ∷ rest) x (λ k l. pairs k x (omega (arith, h, l)) l)
