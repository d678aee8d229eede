-- Counts of changes, one change more at a time.
use Rattle.std.proofs.Common.{◌≡◌, ◌∙◌, ◌<◌, ◌+◌, ◌||◌, ap, sym, refl, cond, Bool, true, false, ℕ, List, [], ◌∷◌, ◌++◌, flat_map, get_or, length, map, take, Some, None, append_assoc}
use Rattle.std.proofs.lemmas.List.{map_more}
use Rattle.std.specs.Borrow.{Bor}
use Rattle.std.specs.List.Sorted.{IsStrictlySortedBy}
use Rattle.std.specs.Cmp.{IsTotalOrder}
use Rattle.std.specs.List.{list_any}
use Rattle.std.specs.Map.{keys_of, lookup, set_value}
use Rattle.std.specs.BTreeMap.{insert_entry, is_at}
use Rattle.std.specs.declared.cmp.Ordering.{Ordering}
use Rattle.std.specs.declared.cmp.Ordering.TheVariants.{Less, Equal, Greater}
use Rattle.std.specs.Ordering.{is_eq, match_ordering}
use Rattle.std.proofs.lemmas.Cmp.{nat_list_cmp_total, on_total}
use Rattle.std.proofs.lemmas.Map.{lookup-none}
use Rattle.std.proofs.lemmas.Map.Entries.{none_below_head}
use Rattle.json.specs.Token.{Token}
use Rattle.json.specs.Tree.{json_tokens}
use Rattle.hwdb_spec.specs.Assignment.{text_cmp}
use Rattle.hwdb_spec_commands.specs.ChangeCounts as spec
use Rattle.hwdb_spec_commands.specs.ChangeCounts.{count_object, counted, no_count, one_more, with_change, with_changes, with_devices, with_told}
use Rattle.hwdb_spec_commands.specs.Comparisons.{device_changes}
use Rattle.hwdb_spec_commands.specs.Differences.{Change}
use Rattle.hwdb_spec_commands.specs.Reviews.{Review}
use Rattle.hwdb_spec.specs.Tree.{Tree}
use Rattle.hwdb_databases.specs.Internal.Counts.{count_shown, named_count}
use Rattle.hwdb_databases.specs.Views.{change_shown}
use Rattle.hwdb_databases.specs.declared.counting.Count.{Count}
use Rattle.hwdb_databases.specs.declared.pairs.Pair.{Pair}

abbrev Entries : Type 0
Entries = List (Bor (List ℕ) × Count)

abbrev pub name_order : Bor (List ℕ) → Bor (List ℕ) → Ordering
name_order a b = text_cmp a.now b.now

name_total : IsTotalOrder name_order
name_total = on_total (λ (k : Bor (List ℕ)). k.now) nat_list_cmp_total

some_none : (v : Count) → Some v ≡ None → ⊥
some_none v e = cc

none_some : (v : Count) → None ≡ Some v → ⊥
none_some v e = cc

one_value : (v w : Count) → Some v ≡ Some w → v ≡ w
one_value v w e = cc

-- the first change of a name
pub put_shown : (es : Entries) (k : Bor (List ℕ)) (w : Count) (c : Change) → count_shown w ≡ one_more c no_count → lookup (is_at (name_order k)) es ≡ None
    → map named_count (insert_entry name_order es k w) ≡ counted k.now c (map named_count es)
unfolding counted
put_shown [] k w c is none = ap (λ (n : spec.Count). (k.now, n) ∷ []) is
put_shown (e ∷ es) k w c is none =
    let again : lookup (is_at (name_order k)) es ≡ None → map named_count (insert_entry name_order es k w) ≡ counted k.now c (map named_count es) = λ n. put_shown es k w c is n in
    elim (text_cmp k.now e.0.now) as (λ o. cond (is_eq o) (Some e.1) (lookup (is_at (name_order k)) es) ≡ None
    → map named_count (match_ordering o ((k, w) ∷ e ∷ es) ((e.0, w) ∷ es) (e ∷ insert_entry name_order es k w))
    ≡ match_ordering o ((k.now, one_more c no_count) ∷ named_count e ∷ map named_count es) ((e.0.now, one_more c (count_shown e.1)) ∷ map named_count es) (named_count e ∷ counted k.now c (map named_count es))) [
      | Less ↦ λ n. ap (λ (m : spec.Count). (k.now, m) ∷ named_count e ∷ map named_count es) is
      | Equal ↦ λ n. absurd (some_none e.1 n)
      | Greater ↦ λ n. ap (λ l. named_count e ∷ l) (again n)
    ] none

-- one more of a name that has some
pub written_shown : (es : Entries) (k : Bor (List ℕ)) (old w : Count) (c : Change) → count_shown w ≡ one_more c (count_shown old) → IsStrictlySortedBy name_order (keys_of es)
    → lookup (is_at (name_order k)) es ≡ Some old → map named_count (set_value (is_at (name_order k)) es w) ≡ counted k.now c (map named_count es)
unfolding counted IsStrictlySortedBy
written_shown [] k old w c is up there = absurd (none_some old there)
written_shown (e ∷ es) k old w c is up there =
    let again : lookup (is_at (name_order k)) es ≡ Some old → map named_count (set_value (is_at (name_order k)) es w) ≡ counted k.now c (map named_count es) = λ t. written_shown es k old w c is up.1 t in
    let none : text_cmp k.now e.0.now ≡ Less → lookup (is_at (name_order k)) (e ∷ es) ≡ None = λ d. lookup-none _ (e ∷ es) (none_below_head name_total k e es up d) in
    elim (text_cmp k.now e.0.now) as (λ o. text_cmp k.now e.0.now ≡ o → cond (is_eq o) (Some e.1) (lookup (is_at (name_order k)) es) ≡ Some old
    → map named_count (cond (is_eq o) ((e.0, w) ∷ es) (e ∷ set_value (is_at (name_order k)) es w))
    ≡ match_ordering o ((k.now, one_more c no_count) ∷ named_count e ∷ map named_count es) ((e.0.now, one_more c (count_shown e.1)) ∷ map named_count es) (named_count e ∷ counted k.now c (map named_count es))) [
      | Less ↦ λ d t. absurd (none_some old (sym (none d) ∙ there))
      | Equal ↦ λ d t. ap (λ (m : spec.Count). (e.0.now, m) ∷ map named_count es) (is ∙ ap (λ (v : Count). one_more c (count_shown v)) (sym (one_value e.1 old t)))
      | Greater ↦ λ d t. ap (λ l. named_count e ∷ l) (again t)
    ] refl there

-- some changes, and more of them
pub changes_append : (s : spec.Stat) (xs ys : List Change) → with_changes s (xs ++ ys) ≡ with_changes (with_changes s xs) ys
unfolding with_changes
changes_append s [] ys = refl
changes_append s (x ∷ xs) ys = changes_append (with_change s x) xs ys

-- one change alone
pub one_change : (s : spec.Stat) (cs : List Change) (c : Change) → cs ≡ c ∷ [] → with_changes s cs ≡ with_change s c
unfolding with_changes
one_change s cs c is = ap (with_changes s) is

-- one device more
pub devices_step : (r : Review) (s : spec.Stat) (xs : List (List ℕ)) (d : List ℕ) (old new : Tree) → with_devices r s (xs ++ d ∷ []) old new
    ≡ with_told (with_devices r s xs old new) (device_changes r old new d)
unfolding with_devices
devices_step r s [] d old new = refl
devices_step r s (x ∷ xs) d old new = devices_step r (with_told s (device_changes r old new x)) xs d old new

pub no_changes : (s : spec.Stat) → s ≡ with_changes s []
unfolding with_changes
no_changes s = refl

last_change : (s : spec.Stat) (c : Change) → with_changes s (c ∷ []) ≡ with_change s c
unfolding with_changes
last_change s c = refl

-- one change more
pub change_step : (all : List Pair) (i : ℕ) (d : Pair) (first before now : spec.Stat) → i < length all → now ≡ with_change before (change_shown (get_or all i d))
    → before ≡ with_changes first (map change_shown (take i all)) → now ≡ with_changes first (map change_shown (take (i + 1) all))
change_step all i d first before now h is so_far =
    let c = change_shown (get_or all i d) in
    is ∙ ap (λ (s : spec.Stat). with_change s c) so_far ∙ sym (last_change (with_changes first (map change_shown (take i all))) c)
    ∙ sym (changes_append first (map change_shown (take i all)) (c ∷ [])) ∙ ap (with_changes first) (sym (map_more change_shown all i d h))

-- what was written of some counts, and of the next one
pub counts_step : {X : Type 0} (f : List ℕ × spec.Count → List X) (before after : List X) (left rest : Entries) (name : Bor (List ℕ)) (count : Count) (whole : List X)
    → left ≡ (name, count) ∷ rest → after ≡ before ++ f (named_count (name, count)) → before ++ flat_map f (map named_count left) ≡ whole → after ++ flat_map f (map named_count rest) ≡ whole
counts_step f before after left rest name count whole cut is so_far =
    ap (λ l. l ++ flat_map f (map named_count rest)) is ∙ append_assoc before (f (named_count (name, count))) (flat_map f (map named_count rest))
    ∙ sym (ap (λ (l : Entries). before ++ flat_map f (map named_count l)) cut) ∙ so_far

-- the objects of some counts
counts_run : (word : List ℕ) (ns : List (List ℕ × spec.Count)) → flat_map (λ n. json_tokens (count_object word n)) ns ≡ flat_map json_tokens (map (count_object word) ns)
counts_run word [] = refl
counts_run word (n ∷ more) = ap (λ l. json_tokens (count_object word n) ++ l) (counts_run word more)

-- those of an array that has begun
pub counts_after : (before begun now : List Token) (word : List ℕ) (ns : List (List ℕ × spec.Count)) → begun ≡ before ++ Token.begin_array ∷ [] → now ≡ begun ++ flat_map (λ n. json_tokens (count_object word n)) ns
    → now ≡ (before ++ Token.begin_array ∷ []) ++ flat_map json_tokens (map (count_object word) ns)
counts_after before begun now word ns opened is =
    is ∙ ap (λ l. l ++ flat_map (λ n. json_tokens (count_object word n)) ns) opened ∙ ap (λ l. (before ++ Token.begin_array ∷ []) ++ l) (counts_run word ns)

-- no device
pub no_devices : (r : Review) (s : spec.Stat) (old new : Tree) → with_devices r s [] old new ≡ s
unfolding with_devices
no_devices r s old new = refl

-- some devices, and one more of them
pub devices_more : (r : Review) (s before next : spec.Stat) (done more : List (List ℕ)) (d : List ℕ) (old new : Tree) → more ≡ done ++ d ∷ [] → before ≡ with_devices r s done old new
    → next ≡ with_told before (device_changes r old new d) → next ≡ with_devices r s more old new
devices_more r s before next done more d old new are so_far is =
    is ∙ ap (λ (b : spec.Stat). with_told b (device_changes r old new d)) so_far
    ∙ sym (devices_step r s done d old new) ∙ ap (λ (ds : List (List ℕ)). with_devices r s ds old new) (sym are)

any_last : (f : List ℕ → Bool) (done : List (List ℕ)) (d : List ℕ) → list_any f (done ++ d ∷ []) ≡ (list_any f done || f d)
any_last f [] d = or_false (f d)
  where
    or_false : (b : Bool) → (b || false) ≡ b
    or_false true = refl
    or_false false = refl
any_last f (x ∷ done) d = ap (λ b. f x || b) (any_last f done d) ∙ sym (or_or (f x) (list_any f done) (f d))
  where
    or_or : (a b e : Bool) → ((a || b) || e) ≡ (a || (b || e))
    or_or true b e = refl
    or_or false b e = refl

-- whether one of them has a change
pub any_more : (f : List ℕ → Bool) (before here : Bool) (done more : List (List ℕ)) (d : List ℕ) → more ≡ done ++ d ∷ [] → before ≡ list_any f done → here ≡ f d → (before || here) ≡ list_any f more
any_more f before here done more d are so_far is =
    ap (λ b. b || here) so_far ∙ ap (λ b. list_any f done || b) is ∙ sym (any_last f done d) ∙ ap (list_any f) (sym are)
