-- Steps of functions that tell how the asked database is.
use Rattle.std.proofs.Common.{◌≡◌, ◌≢◌, ◌∙◌, ◌∷◌, ◌==◌, inl, inr, ap, sym, subst, refl, eq-eqb, eqb-true, true≢false, Bool, true, false, List, [], None, Option, Some, Result, Ok, Err, ℕ, option_map}
use Rattle.std.specs.FinMap as finite
use Rattle.std.specs.Prelude.{if◌then◌else◌}
use Rattle.hwdb_spec.specs.Assignment.{Assignment}
use Rattle.hwdb_spec.specs.Folders.{same}
use Rattle.hwdb_spec.specs.Format.{IsDatabase}
use Rattle.hwdb_spec.specs.Lemmas.Orders.{same_itself, same_text}
use Rattle.hwdb_spec.specs.Tree.{Map, Tree, map_of}
use Rattle.hwdb_spec_commands.specs.Differences.{differences}
use Rattle.hwdb_spec_commands.specs.Status.{Amount, IsAmount, IsAmountOf, IsState, IsStateOf, Report, State, report_form, report_of, stale_by, status_of}
use Rattle.hwdb_spec_commands.specs.Status.Amount.{Counted, Uncounted}
use Rattle.hwdb_spec_commands.specs.Status.State.{Alike, Broken, Fresh, Missing, Stale}
use Rattle.hwdb_spec_commands.specs.Told.{IsReadTo, Reads, stop_of}
use Rattle.hwdb_spec_commands.specs.declared.refusals.Refusal.{Refusal}
use Rattle.hwdb_plan.specs.Plans.{End, Ends, IsOfNone, Plan, ReachesValue}
use Rattle.hwdb_plan.specs.Plans.End.{Answers, Stops}
use Rattle.hwdb_plan.specs.Plans.Plan.{Done}
use Rattle.hwdb_plan.specs.Status.{Held, InPlaces, Now, amount_held, are_one, held, if_ignored, ignored_of, is_one, is_one_at, looked_at, report_beside, report_end, say_one, seen_at, state_beside, state_of_tree}
use Rattle.hwdb_plan.specs.Update.{if_seen}

abbrev Entry : Type 0
Entry = (List ℕ × List ℕ) × Assignment

-- ---- two maps say the same if they are one
both_hold : (a b : Bool) → (if a then b else false) ≡ true → (a ≡ true) × (b ≡ true)
both_hold true b e = (refl, e)
both_hold false b e = absurd (true≢false (sym e))

and_true : (a b : Bool) → a ≡ true → b ≡ true → (if a then b else false) ≡ true
and_true a b one two = ap (λ (c : Bool). if c then b else false) one ∙ two

one_is : (x y : Assignment) → is_one x y ≡ true → x ≡ y
one_is x y e =
    let p = both_hold (x.position.priority == y.position.priority) _ e in
    let l = both_hold (x.position.line == y.position.line) _ p.1 in
    let t = both_hold (same x.position.pattern y.position.pattern) _ l.1 in
    let k = both_hold (same x.position.key y.position.key) _ t.1 in
    let v = both_hold (same x.value y.value) _ k.1 in
    let priority = eqb-true x.position.priority y.position.priority p.0 in
    let line = eqb-true x.position.line y.position.line l.0 in
    let pattern = same_text x.position.pattern y.position.pattern t.0 in
    let key = same_text x.position.key y.position.key k.0 in
    let value = same_text x.value y.value v.0 in
    let path = same_text x.path y.path v.1 in
    λ i. record {
      position = record { priority = priority i; line = line i; pattern = pattern i; key = key i };
      value = value i;
      path = path i;
    }

one_itself : (x : Assignment) → is_one x x ≡ true
one_itself x =
    and_true (x.position.priority == x.position.priority) _ (eq-eqb x.position.priority x.position.priority refl)
    (and_true (x.position.line == x.position.line) _ (eq-eqb x.position.line x.position.line refl)
    (and_true (same x.position.pattern x.position.pattern) _ (same_itself x.position.pattern)
    (and_true (same x.position.key x.position.key) _ (same_itself x.position.key) (and_true (same x.value x.value) _ (same_itself x.value) (same_itself x.path)))))

at_is : (x y : Entry) → is_one_at x y ≡ true → x ≡ y
at_is x y e =
    let p = both_hold (same x.0.0 y.0.0) _ e in
    let k = both_hold (same x.0.1 y.0.1) _ p.1 in
    let pattern = same_text x.0.0 y.0.0 p.0 in
    let key = same_text x.0.1 y.0.1 k.0 in
    let assignment = one_is x.1 y.1 k.1 in
    λ i. ((pattern i, key i), assignment i)

at_itself : (x : Entry) → is_one_at x x ≡ true
at_itself x = and_true (same x.0.0 x.0.0) _ (same_itself x.0.0) (and_true (same x.0.1 x.0.1) _ (same_itself x.0.1) (one_itself x.1))

are_itself : (xs : List Entry) → are_one xs xs ≡ true
unfolding are_one
are_itself [] = refl
are_itself (x ∷ xs) = and_true (is_one_at x x) (are_one xs xs) (at_itself x) (are_itself xs)

ones_are : (xs ys : List Entry) → are_one xs ys ≡ true → xs ≡ ys
unfolding are_one
ones_are [] [] e = refl
ones_are [] (y ∷ ys) e = absurd (true≢false (sym e))
ones_are (x ∷ xs) [] e = absurd (true≢false (sym e))
ones_are (x ∷ xs) (y ∷ ys) e =
    let both = both_hold (is_one_at x y) (are_one xs ys) e in
    λ i. at_is x y both.0 i ∷ ones_are xs ys both.1 i

pub say_one_is : (m n : Map) → say_one m n ≡ true → m ≡ n
say_one_is m n e = finite.same_entries_map m n (ones_are (finite.entries m) (finite.entries n) e)

pub say_one_itself : (m n : Map) → m ≡ n → say_one m n ≡ true
say_one_itself m n one = ap (say_one m) (sym one) ∙ are_itself (finite.entries m)

by_false : (b : Bool) → (b ≡ true → ⊥) → b ≡ false
by_false true not = absurd (not refl)
by_false false not = refl

-- ---- bytes that were looked at
-- they are the database of the tree, or of none
abbrev pub IsFound : (bytes : List ℕ) → Option Tree → Type 0
IsFound bytes None = IsOfNone bytes
IsFound bytes (Some t) = IsDatabase bytes t

-- so of bytes that there may be
abbrev pub AreLooked : Option (List ℕ) → Option Held → Type 0
AreLooked None h = h ≡ None
AreLooked (Some bytes) h = (tree : Option Tree) × IsFound bytes tree × (h ≡ Some (held bytes tree))

module _ (w : Reads) where
  found_goes : (bytes : List ℕ) (tree : Option Tree) → IsFound bytes tree → (next : Option Held → Plan) (e : End) → Ends w (next (Some (held bytes tree))) e → Ends w (looked_at (Some bytes) next) e
  unfolding Ends
  found_goes bytes None none next e ends = inr (none, ends)
  found_goes bytes (Some t) is next e ends = inl (t, is, ends)

  pub looked_goes : (o : Option (List ℕ)) (h : Option Held) → AreLooked o h → (next : Option Held → Plan) (e : End) → Ends w (next h) e → Ends w (looked_at o next) e
  looked_goes None h is next e ends = subst (λ (x : Option Held). Ends w (next x) e) is ends
  looked_goes (Some bytes) h (tree, found, is) next e ends = found_goes bytes tree found next e (subst (λ (x : Option Held). Ends w (next x) e) is ends)

  found_leads : (bytes : List ℕ) (next : Option Held → Plan) (e : End) → Ends w (looked_at (Some bytes) next) e → (h : Option Held) × AreLooked (Some bytes) h × Ends w (next h) e
  unfolding Ends
  found_leads bytes next e (inl (t, is, ends)) = (Some (held bytes (Some t)), (Some t, is, refl), ends)
  found_leads bytes next e (inr (none, ends)) = (Some (held bytes None), (None, none, refl), ends)

  -- they were looked at, and the plan goes on
  pub looked_leads : (o : Option (List ℕ)) (next : Option Held → Plan) (e : End) → Ends w (looked_at o next) e → (h : Option Held) × AreLooked o h × Ends w (next h) e
  looked_leads None next e ends = (None, refl, ends)
  looked_leads (Some bytes) next e ends = found_leads bytes next e ends

-- how much is in them
pub amount_looked : (o : Option (List ℕ)) (amount : Option Amount) → IsAmount o amount → (h : Option Held) × AreLooked o h × (amount ≡ option_map amount_held h)
amount_looked None amount is = (None, refl, is)
amount_looked (Some bytes) None is = absurd is
amount_looked (Some bytes) (Some (Counted files assignments size)) (t, of, is) = (Some (held bytes (Some t)), (Some t, of, refl), ap Some is)
amount_looked (Some bytes) (Some (Uncounted size)) (none, is) = (Some (held bytes None), (None, none, refl), ap (λ (n : ℕ). Some (Uncounted n)) is)

-- this much is
found_amount : (bytes : List ℕ) (tree : Option Tree) → IsFound bytes tree → IsAmountOf bytes (amount_held (held bytes tree))
found_amount bytes None none = (none, refl)
found_amount bytes (Some t) is = (t, is, refl)

pub looked_amount : (o : Option (List ℕ)) (h : Option Held) → AreLooked o h → IsAmount o (option_map amount_held h)
looked_amount None h is = ap (option_map amount_held) is
looked_amount (Some bytes) h (tree, found, is) = subst (λ (x : Option Held). IsAmount (Some bytes) (option_map amount_held x)) (sym is) (found_amount bytes tree found)

-- ---- the state of them
module _ (one : (bytes : List ℕ) (t u : Tree) → IsDatabase bytes t → IsDatabase bytes u → t ≡ u) (now : Now) where
  abbrev Of : (bytes : List ℕ) → Option Tree → State
  Of bytes tree = if same bytes now.bytes then Fresh else state_of_tree now.assigned tree

  other_state : (bytes : List ℕ) (tree : Option Tree) → bytes ≢ now.bytes → Of bytes tree ≡ state_of_tree now.assigned tree
  other_state bytes tree other =
      ap (λ (b : Bool). if b then Fresh else state_of_tree now.assigned tree) (by_false (same bytes now.bytes) (λ is. other (same_text bytes now.bytes is)))

  found_state : (bytes : List ℕ) (tree : Option Tree) (s : State) → IsFound bytes tree → IsStateOf now.bytes now.assigned bytes s → s ≡ Of bytes tree
  found_state bytes tree Missing found is = absurd is
  found_state bytes tree Fresh found is =
      let test : same bytes now.bytes ≡ true = ap (same bytes) (sym is) ∙ same_itself bytes in
      sym (ap (λ (b : Bool). if b then Fresh else state_of_tree now.assigned tree) test)
  found_state bytes None Broken found is = sym (other_state bytes None is.0)
  found_state bytes (Some t) Broken found is = absurd (is.1 t found)
  found_state bytes None Alike found is = absurd (found is.1.0 is.1.1)
  found_state bytes (Some t) Alike found (other, (u, of, says)) =
      let test : say_one (map_of t) now.assigned ≡ true = say_one_itself (map_of t) now.assigned (ap map_of (one bytes t u found of) ∙ says) in
      sym (other_state bytes (Some t) other ∙ ap (λ (b : Bool). if b then Alike else stale_by (differences (map_of t) now.assigned)) test)
  found_state bytes None (Stale changes first) found is = absurd (found is.1.0 is.1.1)
  found_state bytes (Some t) (Stale changes first) found (other, (u, of, differs, is)) =
      let tree : u ≡ t = one bytes u t of found in
      let test : say_one (map_of t) now.assigned ≡ false = by_false (say_one (map_of t) now.assigned) (λ e. differs (ap map_of tree ∙ say_one_is (map_of t) now.assigned e)) in
      is ∙ ap (λ (x : Tree). stale_by (differences (map_of x) now.assigned)) tree
      ∙ sym (other_state bytes (Some t) other ∙ ap (λ (b : Bool). if b then Alike else stale_by (differences (map_of t) now.assigned)) test)

  pub looked_state : (o : Option (List ℕ)) (h : Option Held) (s : State) → AreLooked o h → IsState now.bytes now.assigned o s → s ≡ state_beside now h
  looked_state None h s is state = state ∙ ap (state_beside now) (sym is)
  looked_state (Some bytes) h s (tree, found, is) state = found_state bytes tree s found state ∙ ap (state_beside now) (sym is)

-- it is that
module _ (now : Now) where
  other_is : (bytes : List ℕ) → same bytes now.bytes ≡ false → bytes ≢ now.bytes
  other_is bytes e is = absurd (true≢false (sym (ap (same bytes) (sym is) ∙ same_itself bytes) ∙ e))

  tree_state : (bytes : List ℕ) (t : Tree) → bytes ≢ now.bytes → IsDatabase bytes t → IsStateOf now.bytes now.assigned bytes (state_of_tree now.assigned (Some t))
  tree_state bytes t other is = by (say_one (map_of t) now.assigned) refl
    where
      by : (b : Bool) → say_one (map_of t) now.assigned ≡ b → IsStateOf now.bytes now.assigned bytes (if b then Alike else stale_by (differences (map_of t) now.assigned))
      by true e = (other, (t, is, say_one_is (map_of t) now.assigned e))
      by false e = (other, (t, is, (λ (m : map_of t ≡ now.assigned). absurd (true≢false (sym (say_one_itself (map_of t) now.assigned m) ∙ e))), refl))

  state_found : (bytes : List ℕ) (tree : Option Tree) → IsFound bytes tree → (b : Bool) → same bytes now.bytes ≡ b → IsStateOf now.bytes now.assigned bytes (if b then Fresh else state_of_tree now.assigned tree)
  state_found bytes tree found true e = same_text bytes now.bytes e
  state_found bytes None none false e = (other_is bytes e, none)
  state_found bytes (Some t) is false e = tree_state bytes t (other_is bytes e) is

  pub state_looked : (o : Option (List ℕ)) (h : Option Held) → AreLooked o h → IsState now.bytes now.assigned o (state_beside now h)
  state_looked None h is = ap (state_beside now) is
  state_looked (Some bytes) h (tree, found, is) =
      subst (λ (x : Option Held). IsStateOf now.bytes now.assigned bytes (state_beside now x)) (sym is) (state_found bytes tree found (same bytes now.bytes) refl)

-- ---- what is asked
module _ (w : Reads) where
  pub seen_reached : {Y : Type 0} (value : Y → Option (List ℕ)) (path : List ℕ) (result : Result Y Refusal) → IsReadTo value (w.database path) path result → ReachesValue value w (seen_at path) result
  unfolding Ends
  seen_reached value path (Ok y) told = λ next e ends. subst (λ a. Ends w (if_seen path next a) e) (sym told) ends
  seen_reached value path (Err r) (inl memory) = inl memory
  seen_reached value path (Err r) (inr (u, untold, says)) = inr (λ next. subst (λ a. Ends w (if_seen path next a) (Stops (stop_of r))) (sym untold) (ap Stops says))

  pub ignored_reached : {Y : Type 0} (value : Y → List (List ℕ)) (folder : List ℕ) (result : Result Y Refusal) → IsReadTo value (w.ignored folder) folder result → ReachesValue value w (ignored_of folder) result
  unfolding Ends
  ignored_reached value folder (Ok y) told = λ next e ends. subst (λ a. Ends w (if_ignored folder next a) e) (sym told) ends
  ignored_reached value folder (Err r) (inl memory) = inl memory
  ignored_reached value folder (Err r) (inr (u, untold, says)) = inr (λ next. subst (λ a. Ends w (if_ignored folder next a) (Stops (stop_of r))) (sym untold) (ap Stops says))

  -- ---- what is reported
  module _ (one : (bytes : List ℕ) (t u : Tree) → IsDatabase bytes t → IsDatabase bytes u → t ≡ u) (root : List ℕ) (json quiet : Bool) (now : Now) (places : InPlaces) where
    pub report_ends : (holds hidden : Option Amount) (state : State) (r : Report) (status : ℕ) (err out : List ℕ) → IsAmount places.asked holds → IsAmount places.hidden hidden
        → IsState now.bytes now.assigned places.asked state → r ≡ report_of root places.etc places.usr holds hidden now.masked now.ignored now.bare state → status ≡ status_of r → err ≡ []
        → out ≡ report_form json quiet r
        → Ends w (looked_at places.asked (λ asked. looked_at places.hidden (λ hidden. Done (report_end json quiet (report_beside root now places asked hidden))))) (Answers status err out)
    unfolding Ends
    report_ends holds hidden state r status err out is_held is_hidden stands of says none is =
        let asked = amount_looked places.asked holds is_held in
        let hides = amount_looked places.hidden hidden is_hidden in
        let how : state ≡ state_beside now asked.0 = looked_state one now places.asked asked.0 state asked.1 stands in
        let same : r ≡ report_beside root now places asked.0 hides.0 = of
        ∙ ap (λ (a : Option Amount). report_of root places.etc places.usr a hidden now.masked now.ignored now.bare state) asked.2
        ∙ ap (λ (a : Option Amount). report_of root places.etc places.usr (option_map amount_held asked.0) a now.masked now.ignored now.bare state) hides.2
        ∙ ap (report_of root places.etc places.usr (option_map amount_held asked.0) (option_map amount_held hides.0) now.masked now.ignored now.bare) how in
        let end : Answers status err out ≡ report_end json quiet (report_beside root now places asked.0 hides.0) =
        ap (λ (n : ℕ). Answers n err out) says ∙ ap (λ (e : List ℕ). Answers (status_of r) e out) none ∙ ap (Answers (status_of r) []) is ∙ ap (report_end json quiet) same in
        looked_goes w places.asked asked.0 asked.1 (λ a. looked_at places.hidden (λ h. Done (report_end json quiet (report_beside root now places a h)))) (Answers status err out)
        (looked_goes w places.hidden hides.0 hides.1 (λ h. Done (report_end json quiet (report_beside root now places asked.0 h))) (Answers status err out) end)
