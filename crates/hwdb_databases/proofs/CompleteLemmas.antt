-- What `diff --samples` says of two databases: each device of it gets something else, and if there is none no device does.
use Rattle.std.proofs.Common.{◌≡◌, ◌∙◌, subst, ◌&&◌, ◌||◌, ◌==◌, ap, sym, refl, ℕ, Bool, true, false, cond, not, List, [], ◌∷◌, ◌++◌, filter, flat_map, map, Option, length}
use Rattle.std.specs.FinMap as finite
use Rattle.std.specs.List.{AllByRecursion, list_any}
use Rattle.std.specs.Ordering.{match_ordering}
use Rattle.std.specs.declared.cmp.Ordering.{Ordering}
use Rattle.std.specs.declared.cmp.Ordering.TheVariants.{Less, Equal, Greater}
use Rattle.std.specs.List.{starts_with}
use Rattle.std.specs.Prelude.{nat_eq}
use Rattle.std.specs.List.Sorted.{IsStrictlySortedBy}
use Rattle.std.proofs.lemmas.Cmp.{nat_list_cmp_total}
use Rattle.hwdb_spec.specs.Answers.{effective_of, has_key, last_of_each}
use Rattle.hwdb_spec.specs.Assignment.{Assignment, ascending, assignment_cmp, in_order, put, text_cmp}
use Rattle.hwdb_spec.specs.Folders.{same}
use Rattle.hwdb_spec.specs.Lemmas.Orders.{equal_text, same_text, then_equal}
use Rattle.hwdb_spec.specs.Lemmas.Places.{assignment_total}
use Rattle.hwdb_spec.specs.Tree.{IsTree, Tree, answers, entry_of, members_under, place_cmp}
use Rattle.hwdb_spec_commands.specs.Comparisons.{device_changes}
use Rattle.hwdb_spec_commands.specs.DeviceDifferences.{counting_answers, device_differences, gifts, given_to}
use Rattle.hwdb_spec_commands.specs.Differences.{Change, are_some, change_between}
use Rattle.hwdb_spec_commands.specs.Differences.Change.{Came, Went, Changed}
use Rattle.hwdb_spec_commands.specs.Dump.{dumped}
use Rattle.hwdb_spec_commands.specs.Reviews.{Review, change_counts, given_change, is_among, passes, reviewed}
use Rattle.hwdb_spec_commands.specs.SampleDevices.{assigned_texts, devices_shown, found_between, keyed_texts, left_undecided, rules_in, sample_devices, samples_differ, undecided_patterns}
use Rattle.hwdb_spec_commands.specs.SampleRules.{IsSame, RuleTexts, Shows, given}
use Rattle.hwdb_spec_commands.specs.SamplesFound.{Found, KeyedRule, found_at, key_in, rules_of, samples_by_key, samples_of}
use Rattle.hwdb_text.specs.Lemmas.Members.{in_order_rises, ordered_again}
use Rattle.hwdb_samples.specs.Keys.{RulesGiveValues, in_turn, keyed_rules, properties, value_at}
use Rattle.hwdb_samples.specs.Laws.{IsNothing, NothingIsSameOfAll, SamplesShow}
use Rattle.hwdb_databases.specs.Internal.Merging.{by_place, merged, merged_from}
use Rattle.hwdb_databases.specs.Laws.{GiftsAreEffective, GiveSame, LeavesNoneOut, SamplesAreComplete, SamplesShowChanges}
use Rattle.hwdb_databases.proofs.GiftLemmas.{entries_of_gifts, gift_differences}
use Rattle.hwdb_databases.proofs.ToldLemmas.{answers_are, dumped_apart, last_apart, last_are}

-- ---- lists without members

front_none : {A : Type 0} (xs ys : List A) → xs ++ ys ≡ [] → xs ≡ []
front_none [] ys e = refl
front_none (x ∷ xs) ys e = absurd (cc)

rest_none : {A : Type 0} (xs ys : List A) → xs ++ ys ≡ [] → ys ≡ []
rest_none [] ys e = e
rest_none (x ∷ xs) ys e = absurd (cc)

map_none : {A B : Type 0} (f : A → B) (xs : List A) → map f xs ≡ [] → xs ≡ []
map_none f [] e = refl
map_none f (x ∷ xs) e = absurd (cc)

put_some : (x : List ℕ) (ys : List (List ℕ)) → put text_cmp x ys ≡ [] → ⊥
unfolding put
put_some x [] e = cc
put_some x (y ∷ ys) e =
    elim (text_cmp x y) as (λ o. match_ordering o (x ∷ y ∷ ys) (y ∷ ys) (y ∷ put text_cmp x ys) ≡ [] → ⊥) [
      | Less ↦ λ k. cc
      | Equal ↦ λ k. cc
      | Greater ↦ λ k. cc
    ] e

ascending_none : (xs : List (List ℕ)) → ascending xs ≡ [] → xs ≡ []
unfolding ascending
ascending_none [] e = refl
ascending_none (x ∷ xs) e = absurd (put_some x (ascending xs) e)

put_all_pass : (P : List ℕ → Type 0) (x : List ℕ) (ys : List (List ℕ)) → P x → AllByRecursion P ys → AllByRecursion P (put text_cmp x ys)
unfolding put
put_all_pass P x [] p all = (p, tt)
put_all_pass P x (y ∷ ys) p all =
    let again = put_all_pass P x ys p all.1 in
    elim (text_cmp x y) as (λ o. AllByRecursion P (match_ordering o (x ∷ y ∷ ys) (y ∷ ys) (y ∷ put text_cmp x ys))) [
      | Less ↦ (p, all)
      | Equal ↦ all
      | Greater ↦ (all.0, again)
    ]

ascending_pass : (P : List ℕ → Type 0) (xs : List (List ℕ)) → AllByRecursion P xs → AllByRecursion P (ascending xs)
unfolding ascending
ascending_pass P [] all = tt
ascending_pass P (x ∷ xs) all = put_all_pass P x (ascending xs) all.0 (ascending_pass P xs all.1)

both_pass : (P : List ℕ → Type 0) (xs ys : List (List ℕ)) → AllByRecursion P xs → AllByRecursion P ys → AllByRecursion P (xs ++ ys)
both_pass P [] ys a b = b
both_pass P (x ∷ xs) ys a b = (a.0, both_pass P xs ys a.1 b)

-- ---- what a database assigns, as rules

dumped_rises : (t : Tree) → IsStrictlySortedBy assignment_cmp (dumped t)
unfolding dumped
dumped_rises t = in_order_rises assignment_cmp assignment_total (members_under [] t)

-- all that it assigns counts, in the order that it has
own_turn : (t : Tree) → IsTree t → in_turn (dumped t) ≡ dumped t
own_turn t ascends =
    ap (in_order assignment_cmp) (last_apart (dumped t) (dumped_apart t ascends)) ∙ ordered_again assignment_cmp assignment_total (dumped t) (dumped_rises t)

own_rules : (t : Tree) → IsTree t → keyed_rules (dumped t) ≡ rules_in t
own_rules t ascends = ap (map keyed_texts) (own_turn t ascends)

own_properties : (device : List ℕ) (t : Tree) → IsTree t → properties device (dumped t) ≡ effective_of (answers device t)
own_properties device t ascends =
    ap effective_of (last_are device (dumped t) (dumped_rises t) (dumped_apart t ascends) ∙ sym (answers_are device t ascends))

rules_at : (key : List ℕ) (all : List Assignment) → rules_of key (map keyed_texts all) ≡ map assigned_texts (filter (has_key key) all)
rules_at key [] = refl
rules_at key (f ∷ all) =
    let again : rules_of key (map keyed_texts all) ≡ map assigned_texts (filter (has_key key) all) = rules_at key all in
    elim (has_key key f) as (λ b. map (λ (p : KeyedRule). p.1) (cond b (keyed_texts f ∷ filter (λ (p : KeyedRule). same key p.0) (map keyed_texts all)) (filter (λ (p : KeyedRule). same key p.0) (map keyed_texts all)))
    ≡ map assigned_texts (cond b (f ∷ filter (has_key key) all) (filter (has_key key) all))) [
      | true ↦ ap (λ l. assigned_texts f ∷ l) again
      | false ↦ again
    ]

-- what a device gets of a key
own_value : RulesGiveValues → (key device : List ℕ) (t : Tree) → IsTree t → value_at key (effective_of (answers device t)) ≡ given device (rules_of key (rules_in t))
own_value give key device t ascends =
    ap (value_at key) (sym (own_properties device t ascends))
    ∙ give key (dumped t) (rules_of key (rules_in t)) (rules_at key (dumped t) ∙ ap (λ l. map assigned_texts (filter (has_key key) l)) (sym (own_turn t ascends))) device

-- ---- each sample shows a change

module _ (show : SamplesShow) (give : RulesGiveValues) (old new : Tree) (is_old : IsTree old) (is_new : IsTree new) where
  abbrev GetsOther : List ℕ → Type 0
  GetsOther device = ¬ GiveSame old new device

  gets_other : (key : List ℕ) (sample : List ℕ × List ℕ) → Shows (rules_of key (rules_in old)) (rules_of key (rules_in new)) sample → GetsOther sample.1
  gets_other key sample shows alike =
      shows.differs (sym (own_value give key sample.1 old is_old) ∙ ap (value_at key) alike ∙ own_value give key sample.1 new is_new)

  of_key : (key : List ℕ) (samples : List (List ℕ × List ℕ)) → AllByRecursion (Shows (rules_of key (rules_in old)) (rules_of key (rules_in new))) samples → AllByRecursion GetsOther (map (λ (s : List ℕ × List ℕ). s.1) samples)
  of_key key [] all = tt
  of_key key (s ∷ samples) all = (gets_other key s all.0, of_key key samples all.1)

  of_keys : (keys : List (List ℕ)) → AllByRecursion GetsOther (flat_map devices_shown (map (found_at (rules_in old) (rules_in new)) keys))
  of_keys [] = tt
  of_keys (key ∷ keys) =
      both_pass GetsOther (devices_shown (found_at (rules_in old) (rules_in new) key)) (flat_map devices_shown (map (found_at (rules_in old) (rules_in new)) keys))
      (of_key key (samples_of (rules_of key (rules_in old)) (rules_of key (rules_in new))).shown (show (rules_of key (rules_in old)) (rules_of key (rules_in new)))) (of_keys keys)

  samples_change : AllByRecursion GetsOther (sample_devices old new)
  samples_change =
      ascending_pass GetsOther (flat_map devices_shown (found_between old new)) (of_keys (in_order text_cmp (map key_in (rules_in old) ++ map key_in (rules_in new))))

pub samples_show_changes : SamplesShow → RulesGiveValues → SamplesShowChanges
samples_show_changes show give old new is_old is_new = samples_change show give old new is_old is_new

-- ---- nothing is shown

nothing_in : (found : List (List ℕ × Found)) → flat_map devices_shown found ≡ [] → flat_map left_undecided found ≡ [] → AllByRecursion IsNothing found
nothing_in [] s u = tt
nothing_in (f ∷ more) s u = (
  (
    map_none (λ (s : List ℕ × List ℕ). s.1) f.1.shown (front_none (devices_shown f) (flat_map devices_shown more) s),
    front_none (left_undecided f) (flat_map left_undecided more) u,
  ),
  nothing_in more (rest_none (devices_shown f) (flat_map devices_shown more) s) (rest_none (left_undecided f) (flat_map left_undecided more) u),
)

nothing_changes : NothingIsSameOfAll → (old new : Tree) → IsTree old → IsTree new → sample_devices old new ≡ [] → undecided_patterns old new ≡ [] → (device : List ℕ) → GiveSame old new device
nothing_changes same_of old new is_old is_new s u device =
    let none = nothing_in (found_between old new) (ascending_none (flat_map devices_shown (found_between old new)) s) (ascending_none (flat_map left_undecided (found_between old new)) u) in
    let own : (rules_in old, rules_in new) ≡ (keyed_rules (dumped old), keyed_rules (dumped new)) = λ i. (sym (own_rules old is_old) i, sym (own_rules new is_new) i) in
    sym (own_properties device old is_old)
    ∙ same_of (dumped old) (dumped new) (subst (λ (r : List KeyedRule × List KeyedRule). AllByRecursion IsNothing (samples_by_key r.0 r.1)) own none) device
    ∙ own_properties device new is_new

-- ---- no change is told

-- without a change two lists say the same of each key
abbrev said_pair : Assignment → List ℕ × List ℕ
said_pair f = (f.position.key, f.value)

values_same : (x y : Assignment) → change_between x y ≡ [] → x.value ≡ y.value
values_same x y e =
    elim (same x.value y.value) as (λ b. same x.value y.value ≡ b → cond b [] (Changed x y ∷ []) ≡ [] → x.value ≡ y.value) [
      | true ↦ λ s k. same_text x.value y.value s
      | false ↦ λ s k. absurd (cc)
    ] refl e

pair_same : (x y : Assignment) → by_place x y ≡ Equal → change_between x y ≡ [] → said_pair x ≡ said_pair y
pair_same x y place e =
    let key = equal_text x.position.key y.position.key (then_equal (text_cmp x.position.pattern y.position.pattern) (text_cmp x.position.key y.position.key) place).1 in
    let value = values_same x y e in
    λ i. (key i, value i)

first_apart : (x : Assignment) (rest : List Assignment → List Change) (y : Assignment) (ys : List Assignment)
    → merged_from x rest (y ∷ ys) ≡ [] → (by_place x y ≡ Equal) × (change_between x y ≡ []) × (rest ys ≡ [])
unfolding merged_from
first_apart x rest y ys e =
    elim (by_place x y) as (λ o. by_place x y ≡ o → match_ordering o (Went x ∷ rest (y ∷ ys)) (change_between x y ++ rest ys) (Came y ∷ merged_from x rest ys) ≡ [] → (by_place x y ≡ Equal) × (change_between x y ≡ []) × (rest ys ≡ [])) [
      | Less ↦ λ o k. absurd (cc)
      | Equal ↦ λ o k. (o, front_none (change_between x y) (rest ys) k, rest_none (change_between x y) (rest ys) k)
      | Greater ↦ λ o k. absurd (cc)
    ] refl e

none_merged : (olds news : List Assignment) → merged olds news ≡ [] → map said_pair olds ≡ map said_pair news
unfolding merged merged_from
none_merged [] [] e = refl
none_merged [] (y ∷ ys) e = absurd (cc)
none_merged (x ∷ xs) [] e = absurd (cc)
none_merged (x ∷ xs) (y ∷ ys) e =
    let p = first_apart x (merged xs) y ys e in
    let first = pair_same x y p.0 p.1 in
    let more = none_merged xs ys p.2 in
    λ i. first i ∷ more i

abbrev entry_pair : (List ℕ × List ℕ) × Assignment → List ℕ × List ℕ
entry_pair e = (e.0.1, e.1.value)

pairs_of : (all : List Assignment) → map entry_pair (map entry_of all) ≡ map said_pair all
pairs_of [] = refl
pairs_of (f ∷ all) = ap (λ l. said_pair f ∷ l) (pairs_of all)

told_by_gifts : GiftsAreEffective → (device : List ℕ) (t : Tree) → effective_of (answers device t) ≡ map said_pair (map (given_to device) (counting_answers device t))
told_by_gifts are device t = sym (are device t) ∙ ap (map entry_pair) (entries_of_gifts device t) ∙ pairs_of (map (given_to device) (counting_answers device t))

none_differs : GiftsAreEffective → (device : List ℕ) (old new : Tree) → device_differences device old new ≡ [] → GiveSame old new device
none_differs are device old new e =
    let before = map (given_to device) (counting_answers device old) in
    let after = map (given_to device) (counting_answers device new) in
    told_by_gifts are device old
    ∙ none_merged before after (gift_differences device old new before after refl refl ∙ e)
    ∙ sym (told_by_gifts are device new)

-- ---- a review that leaves nothing out

true_false : true ≡ false → ⊥
true_false e = cc

passes_all : (r : Review) (f : Assignment) → LeavesNoneOut r → passes r f ≡ true
passes_all r f (o, w, p) = cc

counts_all : (r : Review) (c : Change) → LeavesNoneOut r → change_counts r c ≡ true
counts_all r (Came new) all = passes_all r new all
counts_all r (Went old) all = passes_all r old all
counts_all r (Changed old new) all = ap (λ (b : Bool). b || passes r new) (passes_all r old all)

none_reviewed : (r : Review) (changes : List Change) → LeavesNoneOut r → are_some (reviewed r changes) ≡ false → changes ≡ []
none_reviewed r [] all e = refl
none_reviewed r (c ∷ more) all e =
    let rest = filter (change_counts r) (map given_change more) in
    absurd (true_false (sym (ap (λ (b : Bool). are_some (cond b (given_change c ∷ rest) rest)) (counts_all r (given_change c) all)) ∙ e))

none_any : (p : List ℕ → Bool) (xs : List (List ℕ)) (P : List ℕ → Type 0) → ((x : List ℕ) → p x ≡ false → ¬ P x) → AllByRecursion P xs → list_any p xs ≡ false → xs ≡ []
none_any p [] P never all e = refl
none_any p (x ∷ xs) P never all e =
    elim (p x) as (λ (b : Bool). p x ≡ b → (b || list_any p xs) ≡ false → x ∷ xs ≡ []) [
      | true ↦ λ k q. absurd (cc)
      | false ↦ λ k q. absurd (never x k all.0)
    ] refl e

pub samples_are_complete : SamplesShow → NothingIsSameOfAll → RulesGiveValues → GiftsAreEffective → SamplesAreComplete
samples_are_complete show same_of give are r old new is_old is_new all differ undecided device =
    let none = none_any (λ d. are_some (device_changes r old new d)) (sample_devices old new) (λ d. ¬ GiveSame old new d)
    (λ d k other. other (none_differs are d old new (none_reviewed r (device_differences d old new) all k)))
    (samples_change show give old new is_old is_new) differ in
    nothing_changes same_of old new is_old is_new none undecided device
