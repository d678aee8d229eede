-- Properties by which a pattern that went is found again, changes by pattern, and what is known of properties.
use Rattle.std.proofs.Common.{◌≡◌, ◌∙◌, ◌<◌, ◌≤◌, ◌+◌, ◌-◌, ◌++◌, add-one, ap, append_assoc, arith, cond, refl, subst, sym, suc, zero, ℕ, Bool, true, false, List, [], ◌∷◌, drop, take, get_or, length, map, not, None, Option, Some, option_map, take_all}
use Rattle.std.specs.Prelude.{flat_map}
use Rattle.std.proofs.lemmas.List.Concat.{flat_map-append}
use Rattle.std.proofs.Math.Seq.{drop-cons}
use Rattle.std.proofs.lemmas.List.{append-nil, drop-drop, drop-map, drop_all, map-append, map_more}
use Rattle.std.specs.Borrow.{Bor}
use Rattle.std.specs.BTreeMap.{is_at}
use Rattle.std.specs.Map.{lookup}
use Rattle.std.specs.List.{position_or_len}
use Rattle.std.specs.Ordering.{is_eq}
use Rattle.std.proofs.lemmas.Cmp.{nat_list_cmp_total}
use Rattle.hwdb_spec.specs.Assignment.{Assignment, text_cmp}
use Rattle.hwdb_spec.specs.Folders.{same}
use Rattle.hwdb_spec.specs.Lemmas.Orders.{equal_of, equal_text, turned}
use Rattle.hwdb_spec_commands.specs.Differences.{Change}
use Rattle.hwdb_spec_commands.specs.Renamed as spec
use Rattle.hwdb_spec_commands.specs.Renamed.{any_went, came_text, changed_pattern, first_came, group_of, group_text, groups, in_front, is_told, onto, pair_text, properties, sided, text_among, unless_first, unless_renamed, went_text, with_property}
use Rattle.hwdb_databases.specs.Views.{change_shown}
use Rattle.std.specs.BTreeMap.{get_by}
use Rattle.hwdb_databases.specs.Internal.Renaming.{IsCameNoted, IsOf, IsWentNoted, Known, Moves, at, group_in, group_shown, is_other, or_nothing, run, run_in, shown}
use Rattle.hwdb_databases.specs.declared.groups.Group.{Group}
use Rattle.hwdb_databases.specs.declared.renamed.Moved.{Moved}
use Rattle.hwdb_databases.specs.declared.pairs.Pair.{Pair}

-- ---- properties

pub onto_nothing : (o : Option (List ℕ)) → o ≡ onto [] o
onto_nothing None = refl
onto_nothing (Some rest) = refl

onto_both : (a b : List ℕ) (o : Option (List ℕ)) → onto a (onto b o) ≡ onto (a ++ b) o
onto_both a b None = refl
onto_both a b (Some rest) = ap Some (sym (append_assoc a b rest))

more_properties : (came : Bool) (c : Change) (more : List Change) → properties came (c ∷ more) ≡ with_property (sided came c) (properties came more)
unfolding properties
more_properties came c more = refl

no_properties : (came : Bool) → properties came [] ≡ Some []
unfolding properties
no_properties came = refl

-- the properties from a place on
from_here : (came : Bool) (all : List Pair) (i : ℕ) (d : Pair) (o : Option Assignment) → i < length all → o ≡ sided came (change_shown (get_or all i d))
    → properties came (map change_shown (drop i all)) ≡ with_property o (properties came (map change_shown (drop (i + 1) all)))
from_here came all i d o h is =
    let next : drop (suc i) all ≡ drop (i + 1) all = ap (λ (n : ℕ). drop n all) (sym (add-one i)) in
    ap (λ ps. properties came (map change_shown ps)) (drop-cons all i d h) ∙ more_properties came (change_shown (get_or all i d)) (map change_shown (drop (suc i) all))
    ∙ ap (λ (s : Option Assignment). with_property s (properties came (map change_shown (drop (suc i) all)))) (sym is)
    ∙ ap (λ ps. with_property o (properties came (map change_shown ps))) next

pub property_taken : (came : Bool) (all : List Pair) (i : ℕ) (d : Pair) (f : Assignment) (text now : List ℕ) (whole : Option (List ℕ)) → i < length all → Some f ≡ sided came (change_shown (get_or all i d))
    → now ≡ text ++ pair_text f → whole ≡ onto text (properties came (map change_shown (drop i all))) → whole ≡ onto now (properties came (map change_shown (drop (i + 1) all)))
property_taken came all i d f text now whole h is told so_far =
    let more = properties came (map change_shown (drop (i + 1) all)) in
    so_far ∙ ap (onto text) (from_here came all i d (Some f) h is) ∙ onto_both text (pair_text f) more ∙ ap (λ (t : List ℕ). onto t more) (sym told)

pub property_lacks : (came : Bool) (all : List Pair) (i : ℕ) (d : Pair) (text : List ℕ) (whole : Option (List ℕ)) → i < length all → None ≡ sided came (change_shown (get_or all i d))
    → whole ≡ onto text (properties came (map change_shown (drop i all))) → None ≡ whole
property_lacks came all i d text whole h is so_far = sym (so_far ∙ ap (onto text) (from_here came all i d None h is))

pub properties_over : (came : Bool) (all : List Pair) (i : ℕ) (text : List ℕ) (whole : Option (List ℕ)) → length all ≤ i → whole ≡ onto text (properties came (map change_shown (drop i all))) → Some text ≡ whole
properties_over came all i text whole h so_far =
    sym (so_far ∙ ap (λ ps. onto text (properties came (map change_shown ps))) (drop_all i all h) ∙ ap (onto text) (no_properties came) ∙ ap Some (append-nil text))

-- ---- changes by pattern

-- as many of what is shown
run_shown : (p : List ℕ) (ps : List Pair) → run p (map change_shown ps) ≡ run_in p ps
run_shown p [] = refl
run_shown p (x ∷ ps) = ap (λ (n : ℕ). cond (not (is_other p (change_shown x))) (1 + n) 0) (run_shown p ps)

flipped : (a b : List ℕ) → same a b ≡ same b a
flipped a b = ap is_eq (nat_list_cmp_total.antisymm a b) ∙ turned (text_cmp b a)

pub one_text : (a b : List ℕ) → same a b ≡ true → a ≡ b
one_text a b e = equal_text a b (equal_of _ e)

-- the first changes with the pattern of the first one are a group, and those after them are grouped by themselves
pub first_group : (c : Change) (more : List Change)
    → groups (c ∷ more) ≡ group_in (c ∷ take (run (changed_pattern c) more) more) ∷ groups (drop (run (changed_pattern c) more) more)
unfolding groups
first_group c [] = refl
first_group c (d ∷ rest) =
    let p = changed_pattern c in
    let q = changed_pattern d in
    let m = run q rest in
    let again = first_group d rest in
    ap (in_front c) again
    ∙ elim (same q p) as (λ b. same q p ≡ b → cond b (record { pattern = q; changes = c ∷ d ∷ take m rest } ∷ groups (drop m rest)) (group_of c ∷ group_in (d ∷ take m rest) ∷ groups (drop m rest))
    ≡ group_in (c ∷ take (run p (d ∷ rest)) (d ∷ rest)) ∷ groups (drop (run p (d ∷ rest)) (d ∷ rest))) [
      | true ↦ λ e.
          let one : q ≡ p = one_text q p e in
          let runs : run p (d ∷ rest) ≡ suc m = ap (λ (b : Bool). cond (not (not b)) (1 + run p rest) 0) (flipped p q ∙ e) ∙ ap (λ (t : List ℕ). 1 + run t rest) (sym one) ∙ omega arith in
          ap (λ (t : List ℕ). record { pattern = t; changes = c ∷ d ∷ take m rest } ∷ groups (drop m rest)) one
          ∙ ap (λ (n : ℕ). group_in (c ∷ take n (d ∷ rest)) ∷ groups (drop n (d ∷ rest))) (sym runs)
      | false ↦ λ e.
          let runs : run p (d ∷ rest) ≡ 0 = ap (λ (b : Bool). cond (not (not b)) (1 + run p rest) 0) (flipped p q ∙ e) in
          ap (λ (gs : List spec.Group). group_of c ∷ gs) (sym again)
          ∙ ap (λ (n : ℕ). group_in (c ∷ take n (d ∷ rest)) ∷ groups (drop n (d ∷ rest))) (sym runs)
    ] refl

taken_shown : (n : ℕ) (ps : List Pair) → take n (map change_shown ps) ≡ map change_shown (take n ps)
taken_shown zero ps = refl
taken_shown (suc n) [] = refl
taken_shown (suc n) (p ∷ ps) = ap (λ (cs : List Change). change_shown p ∷ cs) (taken_shown n ps)

-- one more group was made of the changes left
pub group_taken : (all : List Pair) (i n : ℕ) (x : Pair) (p : List ℕ) (rest part : List Pair) (old now : List Group) (g : Group) (whole : List spec.Group)
    → i < length all → x ≡ get_or all i x → p ≡ changed_pattern (change_shown x) → rest ≡ drop (i + 1) all → n ≡ run_in p rest → part ≡ take (i + 1 + n - i) (drop i all) → g.changes.now ≡ part
    → now ≡ old ++ g ∷ [] → map shown old ++ groups (map change_shown (drop i all)) ≡ whole → map shown now ++ groups (map change_shown (drop (i + 1 + n) all)) ≡ whole
group_taken all i n x p rest part old now g whole h is pattern left count of_all has pushed so_far =
    let c = change_shown x in
    let more = drop (i + 1) all in
    let cut : drop i all ≡ x ∷ more = drop-cons all i x h ∙ ap (λ (y : Pair). y ∷ drop (suc i) all) (sym is) ∙ ap (λ (k : ℕ). x ∷ drop k all) (sym (add-one i)) in
    let runs : run (changed_pattern c) (map change_shown more) ≡ n = run_shown (changed_pattern c) more ∙ ap (λ (t : List ℕ). run_in t more) (sym pattern) ∙ ap (run_in p) (sym left) ∙ sym count in
    let many : i + 1 + n - i ≡ suc n = omega arith in
    let made : map change_shown g.changes.now ≡ c ∷ map change_shown (take n more) =
    ap (map change_shown) (has ∙ of_all ∙ ap (λ (k : ℕ). take k (drop i all)) many ∙ ap (take (suc n)) cut) in
    let split : groups (map change_shown (drop i all)) ≡ shown g ∷ groups (map change_shown (drop (i + 1 + n) all)) =
    ap (λ (ps : List Pair). groups (map change_shown ps)) cut ∙ first_group c (map change_shown more)
    ∙ ap (λ (k : ℕ). group_in (c ∷ take k (map change_shown more)) ∷ groups (drop k (map change_shown more))) runs
    ∙ ap (λ (cs : List Change). group_in (c ∷ cs) ∷ groups (drop n (map change_shown more))) (taken_shown n more)
    ∙ ap (λ (cs : List Change). group_in cs ∷ groups (drop n (map change_shown more))) (sym made)
    ∙ ap (λ (cs : List Change). shown g ∷ groups cs) (drop-map change_shown n more ∙ ap (map change_shown) (drop-drop n (i + 1) all ∙ ap (λ (k : ℕ). drop k all) (omega arith))) in
    ap (λ (gs : List Group). map shown gs ++ groups (map change_shown (drop (i + 1 + n) all))) pushed
    ∙ ap (λ (gs : List spec.Group). gs ++ groups (map change_shown (drop (i + 1 + n) all))) (map-append shown old (g ∷ []))
    ∙ append_assoc (map shown old) (shown g ∷ []) (groups (map change_shown (drop (i + 1 + n) all))) ∙ ap (λ (gs : List spec.Group). map shown old ++ gs) (sym split) ∙ so_far

-- no change is left
pub groups_over : (all : List Pair) (i : ℕ) (now : List Group) (whole : List spec.Group) → length all ≤ i → map shown now ++ groups (map change_shown (drop i all)) ≡ whole → map shown now ≡ whole
unfolding groups
groups_over all i now whole h so_far =
    sym (append-nil (map shown now)) ∙ ap (λ (ps : List Pair). map shown now ++ groups (map change_shown ps)) (sym (drop_all i all h)) ∙ so_far

-- ---- what is known of properties

pub none_known : (m : Moves) → ((text : List ℕ) → at m text ≡ (None, false)) → IsOf m []
unfolding IsOf first_came any_went
none_known m is text = is text

-- one more pattern was noted
pub noted : (m n o : Moves) (g : spec.Group) (all : List spec.Group) → IsOf m all → IsCameNoted m g n → IsWentNoted n g o → IsOf o (g ∷ all)
unfolding IsOf IsCameNoted IsWentNoted first_came any_went
noted m n o g all is came went text =
    went text
    ∙ ap (λ (k : Option spec.Group × Bool). (k.0, cond (is_told text (properties false g.changes)) true k.1)) (came text)
    ∙ ap (λ (k : Option spec.Group × Bool). (cond (is_told text (properties true g.changes)) (Some g) k.0, cond (is_told text (properties false g.changes)) true k.1)) (is text)

came_noted_by : (m n : Moves) (g : spec.Group) (own : List ℕ) (w : Moved) (q : List ℕ) → group_shown w ≡ (Some g, (at m own).1)
    → get_by (λ j. text_cmp q j.now) n ≡ cond (same own q) (Some w) (get_by (λ j. text_cmp q j.now) m) → at n q ≡ (cond (same own q) (Some g) (at m q).0, (at m q).1)
came_noted_by m n g own w q shows gets =
    ap (λ (o : Option Moved). or_nothing (option_map group_shown o)) gets
    ∙ elim (same own q) as (λ b. same own q ≡ b → or_nothing (option_map group_shown (cond b (Some w) (get_by (λ j. text_cmp q j.now) m))) ≡ (cond b (Some g) (at m q).0, (at m q).1)) [
      | true ↦ λ e. shows ∙ ap (λ (t : List ℕ). (Some g, (at m t).1)) (one_text own q e)
      | false ↦ λ e. refl
    ] refl

pub came_noted : (m n : Moves) (g : spec.Group) (own : List ℕ) (w : Moved) → properties true g.changes ≡ Some own → group_shown w ≡ (Some g, (at m own).1)
    → ((q : List ℕ) → get_by (λ j. text_cmp q j.now) n ≡ cond (same own q) (Some w) (get_by (λ j. text_cmp q j.now) m)) → IsCameNoted m g n
unfolding IsCameNoted
came_noted m n g own w is shows gets q =
    came_noted_by m n g own w q shows (gets q) ∙ ap (λ (o : Option (List ℕ)). (cond (is_told q o) (Some g) (at m q).0, (at m q).1)) (sym is)

pub none_came : (m : Moves) (g : spec.Group) → properties true g.changes ≡ None → IsCameNoted m g m
unfolding IsCameNoted
none_came m g is q = ap (λ (o : Option (List ℕ)). (cond (is_told q o) (Some g) (at m q).0, (at m q).1)) (sym is)

went_noted_by : (m n : Moves) (own : List ℕ) (w : Moved) (q : List ℕ) → group_shown w ≡ ((at m own).0, true)
    → get_by (λ j. text_cmp q j.now) n ≡ cond (same own q) (Some w) (get_by (λ j. text_cmp q j.now) m) → at n q ≡ ((at m q).0, cond (same own q) true (at m q).1)
went_noted_by m n own w q shows gets =
    ap (λ (o : Option Moved). or_nothing (option_map group_shown o)) gets
    ∙ elim (same own q) as (λ b. same own q ≡ b → or_nothing (option_map group_shown (cond b (Some w) (get_by (λ j. text_cmp q j.now) m))) ≡ ((at m q).0, cond b true (at m q).1)) [
      | true ↦ λ e. shows ∙ ap (λ (t : List ℕ). ((at m t).0, true)) (one_text own q e)
      | false ↦ λ e. refl
    ] refl

pub went_noted : (m n : Moves) (g : spec.Group) (own : List ℕ) (w : Moved) → properties false g.changes ≡ Some own → group_shown w ≡ ((at m own).0, true)
    → ((q : List ℕ) → get_by (λ j. text_cmp q j.now) n ≡ cond (same own q) (Some w) (get_by (λ j. text_cmp q j.now) m)) → IsWentNoted m g n
unfolding IsWentNoted
went_noted m n g own w is shows gets q =
    went_noted_by m n own w q shows (gets q) ∙ ap (λ (o : Option (List ℕ)). ((at m q).0, cond (is_told q o) true (at m q).1)) (sym is)

pub none_went : (m : Moves) (g : spec.Group) → properties false g.changes ≡ None → IsWentNoted m g m
unfolding IsWentNoted
none_went m g is q = ap (λ (o : Option (List ℕ)). ((at m q).0, cond (is_told q o) true (at m q).1)) (sym is)

-- no pattern is noted yet
pub nothing_noted : (m : Moves) (gs : List Group) (i : ℕ) → m.entries ≡ [] → length gs ≤ i → IsOf m (map shown (drop i gs))
nothing_noted m gs i none h =
    subst (λ (l : List Group). IsOf m (map shown l)) (sym (drop_all i gs h))
    (none_known m (λ text. ap (λ (es : List (Bor (List ℕ) × Moved)). or_nothing (option_map group_shown (lookup (is_at (λ (j : Bor (List ℕ)). text_cmp text j.now)) es))) none))

-- the pattern before those that were noted is noted
pub known_more : (m n o : Moves) (gs : List Group) (left : ℕ) (x : Group) → 0 < left → left ≤ length gs → x ≡ get_or gs (left - 1) x → IsOf m (map shown (drop left gs))
    → IsCameNoted m (shown x) n → IsWentNoted n (shown x) o → IsOf o (map shown (drop (left - 1) gs))
known_more m n o gs left x pos le is known came went =
    let j = left - 1 in
    let up : suc j ≡ left = omega (arith, pos) in
    let cut : drop j gs ≡ x ∷ drop (suc j) gs = drop-cons gs j x (omega (arith, pos, le)) ∙ ap (λ (y : Group). y ∷ drop (suc j) gs) (sym is) in
    subst (λ (l : List Group). IsOf o (map shown l)) (sym cut)
    (noted m n o (shown x) (map shown (drop (suc j) gs)) (subst (λ (k : ℕ). IsOf m (map shown (drop k gs))) (sym up) known) came went)

-- ---- what is told

pub came_told : (m : Moves) (all : List spec.Group) (g : spec.Group) (own t : List ℕ) (k : Known) → IsOf m all → k ≡ at m t → t ≡ own → Some own ≡ properties true g.changes
    → cond k.1 (unless_first g k.0) (group_text g) ≡ came_text all g (properties true g.changes)
unfolding IsOf
came_told m all g own t k of is same_text told =
    ap (λ (k : Known). cond k.1 (unless_first g k.0) (group_text g)) (is ∙ ap (at m) same_text ∙ of own) ∙ ap (came_text all g) told

pub went_told : (m : Moves) (all : List spec.Group) (g : spec.Group) (own t : List ℕ) (k : Known) → IsOf m all → k ≡ at m t → t ≡ own → Some own ≡ properties false g.changes
    → unless_renamed g k.0 ≡ text_among all g
unfolding IsOf
went_told m all g own t k of is same_text told = ap (λ (k : Known). unless_renamed g k.0) (is ∙ ap (at m) same_text ∙ of own) ∙ ap (went_text all g) told

pub rest_told : (all : List spec.Group) (g : spec.Group) → None ≡ properties false g.changes → came_text all g (properties true g.changes) ≡ text_among all g
rest_told all g told = ap (went_text all g) told

pub plain_told : (all : List spec.Group) (g : spec.Group) → None ≡ properties true g.changes → group_text g ≡ came_text all g (properties true g.changes)
plain_told all g told = ap (came_text all g) told

pub groups_told_more : (F : spec.Group → List ℕ) (gs : List Group) (i : ℕ) (x : Group) (before text now : List ℕ) → i < length gs → x ≡ get_or gs i x → text ≡ before ++ flat_map F (map shown (take i gs))
    → now ≡ text ++ F (shown x) → now ≡ before ++ flat_map F (map shown (take (i + 1) gs))
groups_told_more F gs i x before text now h is so_far step =
    let front = map shown (take i gs) in
    let more : map shown (take (i + 1) gs) ≡ front ++ shown x ∷ [] = map_more shown gs i x h ∙ ap (λ (y : Group). front ++ shown y ∷ []) (sym is) in
    step ∙ ap (λ (t : List ℕ). t ++ F (shown x)) so_far ∙ append_assoc before (flat_map F front) (F (shown x))
    ∙ ap (λ (t : List ℕ). before ++ t) (ap (λ (t : List ℕ). flat_map F front ++ t) (sym (append-nil (F (shown x)))) ∙ sym (flat_map-append F front (shown x ∷ [])) ∙ ap (flat_map F) (sym more))

pub groups_told_all : (F : spec.Group → List ℕ) (gs : List Group) (i : ℕ) (before text : List ℕ) → length gs ≤ i → text ≡ before ++ flat_map F (map shown (take i gs)) → text ≡ before ++ flat_map F (map shown gs)
groups_told_all F gs i before text h so_far = so_far ∙ ap (λ (l : List Group). before ++ flat_map F (map shown l)) (take_all i gs h)
