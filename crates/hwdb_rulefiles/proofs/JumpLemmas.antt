-- Lines, from the last one to the first.
use Rattle.std.proofs.Common.{◌≡◌, ℕ, zero, suc, ◌+◌, ◌-◌, ◌<◌, ◌≤◌, Bool, true, false, cond, ◌||◌, List, [], ◌∷◌, ◌++◌, map, drop, length, get_or, reverse, refl, sym, ap, ◌∙◌, arith, Option, Some, None, is_some, drop-cons, add-one, append_assoc}
use Rattle.std.proofs.lemmas.List.{length-map}
use mathlib.Core.List.{reverse-append}
use Rattle.std.proofs.lemmas.Map.Text.{btree_map_updates_str}
use Rattle.std.specs.Borrow.{Bor}
use Rattle.std.specs.Str.{bytes_eq}
use Rattle.std.specs.BTreeMap.{BTreeMap, UpdatesBy, get_by, is_at}
use Rattle.std.specs.Map.{lookup}
use Rattle.std.specs.Cmp.Lexicographic.{slice_cmp}
use Rattle.std.specs.Ordering.{nat_cmp}
use Rattle.hwdb_rulefiles.specs.RuleTokens.{is_word}
use Rattle.hwdb_rulefiles.specs.RuleLines.{Outcome}
use Rattle.hwdb_rulefiles.specs.RuleJumps.{label_of, goto_of, is_labelled, is_kept, reaches, marks, marked, all_marked, resolved, mark_at}
use Rattle.hwdb_rulefiles.specs.Internal.{AreLabels, knows}

or_some : (b : Bool) (x : Option Bool) (y : Bool) → is_some x ≡ y → is_some (cond b (Some true) x) ≡ (b || y)
or_some true x y e = refl
or_some false x y e = e

-- a name is put among the names
pub learned : (bs : List ℕ) (m n : BTreeMap (Bor (List ℕ)) Bool)
    → UpdatesBy (λ x y. slice_cmp nat_cmp x.now y.now) (λ k. slice_cmp nat_cmp bs k.now) m n (Some true)
    → (o : Outcome) → Some bs ≡ label_of o → (later : List Outcome) → AreLabels m later → AreLabels n (o ∷ later)
learned bs m n u o e later h name =
    ap is_some (btree_map_updates_str bs m n (Some true) u name)
    ∙ or_some (bytes_eq bs name) (get_by (λ k. slice_cmp nat_cmp name k.now) m) (is_labelled name later) (h name)
    ∙ ap (λ (x : Option (List ℕ)). is_word x name || is_labelled name later) e

-- a line without a name changes nothing
pub unlearned : (m : BTreeMap (Bor (List ℕ)) Bool) (o : Outcome) → None ≡ label_of o → (later : List Outcome) → AreLabels m later → AreLabels m (o ∷ later)
unlearned m o e later h name = h name ∙ ap (λ (x : Option (List ℕ)). is_word x name || is_labelled name later) e

pub kept_none : (o : Outcome) (later : List Outcome) → None ≡ goto_of o → true ≡ is_kept o later
kept_none o later e = ap (λ (x : Option (List ℕ)). reaches x later) e

pub kept_some : (labels : BTreeMap (Bor (List ℕ)) Bool) (o : Outcome) (later : List Outcome) (name : List ℕ) → Some name ≡ goto_of o
    → AreLabels labels later → knows labels name ≡ is_kept o later
kept_some labels o later name e h = h name ∙ ap (λ (x : Option (List ℕ)). reaches x later) e

pub marks_on : (o : Outcome) (later : List Outcome) (bs ms : List Bool) (b : Bool) → reverse bs ≡ marks later → ms ≡ bs ++ (b ∷ []) → b ≡ is_kept o later
    → reverse ms ≡ marks (o ∷ later)
unfolding marks
marks_on o later bs ms b e m k =
    ap reverse m ∙ reverse-append bs (b ∷ []) ∙ ap (λ (l : List Bool). b ∷ l) e ∙ ap (λ (c : Bool). c ∷ marks later) k

pub no_marks : marks [] ≡ []
unfolding marks
no_marks = refl

marks_resolve : (os : List Outcome) → all_marked (marks os) os ≡ resolved os
unfolding marks all_marked resolved
marks_resolve [] = refl
marks_resolve (o ∷ os) = ap (λ (l : List Outcome). marked (is_kept o os) o ∷ l) (marks_resolve os)

pub resolves : (ms : List Bool) (os : List Outcome) → ms ≡ marks os → all_marked ms os ≡ resolved os
resolves ms os e = ap (λ (l : List Bool). all_marked l os) e ∙ marks_resolve os

pub marked_snoc : (ms : List Bool) (os : List Outcome) (o : Outcome) → all_marked ms (os ++ (o ∷ [])) ≡ all_marked ms os ++ (marked (mark_at ms (length os)) o ∷ [])
unfolding all_marked
marked_snoc [] [] o = refl
marked_snoc (m ∷ ms) [] o = refl
marked_snoc [] (p ∷ os) o = ap (λ (l : List Outcome). p ∷ l) (marked_snoc [] os o)
marked_snoc (m ∷ ms) (p ∷ os) o = ap (λ (l : List Outcome). marked m p ∷ l) (marked_snoc ms os o)

pub marked_none : (ms : List Bool) → all_marked ms [] ≡ []
unfolding all_marked
marked_none [] = refl
marked_none (m ∷ ms) = refl

pub as_many : (ms : List Bool) (os : List Outcome) → length (all_marked ms os) ≡ length os
unfolding all_marked
as_many [] [] = refl
as_many (m ∷ ms) [] = refl
as_many [] (o ∷ os) = ap (λ (n : ℕ). suc n) (as_many [] os)
as_many (m ∷ ms) (o ∷ os) = ap (λ (n : ℕ). suc n) (as_many ms os)

pub marks_none : (ms : List Bool) (os : List Outcome) → ms ≡ [] → os ≡ [] → reverse ms ≡ marks os
marks_none ms os e o = ap reverse e ∙ sym (ap marks o ∙ no_marks)

pub labels_none : (m : BTreeMap (Bor (List ℕ)) Bool) (os : List Outcome) → m.entries ≡ [] → os ≡ [] → AreLabels m os
labels_none m os e o name =
    ap (λ (es : List (Bor (List ℕ) × Bool)). is_some (lookup (is_at (λ k. slice_cmp nat_cmp name k.now)) es)) e ∙ sym (ap (is_labelled name) o)

module _ {X : Type 0} (f : X → Outcome) where
  pub dropped : (xs : List X) → map f (drop (length xs) xs) ≡ []
  dropped [] = refl
  dropped (x ∷ xs) = dropped xs

  pub one_back : (xs : List X) (at : ℕ) (x : X) → 0 < at → at ≤ length xs → x ≡ get_or xs (at - 1) x → map f (drop (at - 1) xs) ≡ f x ∷ map f (drop at xs)
  one_back xs at x some le e =
      let same : suc (at - 1) ≡ at = omega arith in
      ap (map f) (drop-cons xs (at - 1) x (omega arith) ∙ ap (λ y. y ∷ drop (suc (at - 1)) xs) (sym e)) ∙ ap (λ (n : ℕ). f x ∷ map f (drop n xs)) same

  snoc : (xs : List X) (x : X) → map f (xs ++ (x ∷ [])) ≡ map f xs ++ (f x ∷ [])
  snoc [] x = refl
  snoc (y ∷ xs) x = ap (λ r. f y ∷ r) (snoc xs x)

  pub marked_step : (ms : List Bool) (all next ys : List X) (y new : X) (k : Bool) → map f all ≡ all_marked ms (map f ys) → next ≡ all ++ (new ∷ [])
      → f new ≡ marked k (f y) → k ≡ mark_at ms (length all) → map f next ≡ all_marked ms (map f (ys ++ (y ∷ [])))
  marked_step ms all next ys y new k e n m b =
      let len : length all ≡ length (map f ys) = sym (length-map all f) ∙ ap length e ∙ as_many ms (map f ys) in
      ap (map f) n
      ∙ snoc all new
      ∙ ap (λ (l : List Outcome). l ++ (f new ∷ [])) e
      ∙ ap (λ (o : Outcome). all_marked ms (map f ys) ++ (o ∷ [])) (m ∙ ap (λ (c : Bool). marked c (f y)) (b ∙ ap (mark_at ms) len))
      ∙ sym (ap (all_marked ms) (snoc ys y) ∙ marked_snoc ms (map f ys) (f y))
