-- Two databases that assign the same, one assignment after another.
use Rattle.std.proofs.Common.{◌≡◌, ◌≢◌, ◌∙◌, ap, sym, refl, subst, eqb-true, eq-eqb, true≢false, not, Bool, true, false, List, [], ◌∷◌, ◌++◌, ℕ, ◌==◌, Option, None, Some, IfNone, map, is_some}
use Rattle.std.specs.Prelude.{flat_map, if◌then◌else◌}
use Rattle.std.specs.FinMap as finite
use Rattle.hwdb_spec.specs.Assignment.{Assignment}
use Rattle.hwdb_spec_commands.specs.Differences.{Change, change_at, differences, places}
use Rattle.hwdb_spec_commands.specs.Differences.Change.{Changed}
use Rattle.hwdb_spec.specs.Folders.{same}
use Rattle.hwdb_spec.specs.Format.{IsDatabase}
use Rattle.hwdb_spec.specs.Lemmas.Orders.{same_itself, same_text}
use Rattle.hwdb_spec_commands.specs.Status.{IsStateOf, State, stale_by}
use Rattle.hwdb_spec_commands.specs.Status.State.{Alike, Broken, Fresh, Missing, Stale}
use Rattle.hwdb_spec.specs.Tree.{IsTree, Map, Tree, entry_of, map_of, members_under}
use Rattle.hwdb_reader.specs.declared.unread.UnreadEntry.{UnreadEntry}
use Rattle.hwdb_databases.specs.Internal.Alike.{IsHow, are_one, is_head, is_one, is_unchanged}
use Rattle.hwdb_databases.specs.Internal.Meeting.{IsUnderWay, after_next, head_of, left_of, unread_of}
use Rattle.hwdb_databases.specs.Internal.Trails.{path_of}
use Rattle.hwdb_databases.specs.declared.members.Members.{Members}
use Rattle.hwdb_databases.proofs.MeetingLemmas.{next_is, none_left}
use Rattle.hwdb_databases.proofs.OrderLemmas.{entries_of_tree}

-- ---- two assignments

-- what holds of one that a test lets through
both_hold : (a b : Bool) → (if a then b else false) ≡ true → (a ≡ true) × (b ≡ true)
both_hold true b e = (refl, e)
both_hold false b e = absurd (true≢false (sym e))

module _ (x y : Assignment) where
  pub one_is : is_one x y ≡ true → x ≡ y
  one_is e =
      let p = both_hold (x.position.priority == y.position.priority) _ e in
      let l = both_hold (x.position.line == y.position.line) _ p.1 in
      let t = both_hold (same x.position.pattern y.position.pattern) _ l.1 in
      let k = both_hold (same x.position.key y.position.key) _ t.1 in
      let v = both_hold (same x.value y.value) _ k.1 in
      let priority = eqb-true x.position.priority y.position.priority p.0 in
      let line = eqb-true x.position.line y.position.line l.0 in
      let pattern = same_text x.position.pattern y.position.pattern t.0 in
      let key = same_text x.position.key y.position.key k.0 in
      let value = same_text x.value y.value v.0 in
      let path = same_text x.path y.path v.1 in
      λ i. record {
        position = record { priority = priority i; line = line i; pattern = pattern i; key = key i };
        value = value i;
        path = path i;
      }

and_true : (a b : Bool) → a ≡ true → b ≡ true → (if a then b else false) ≡ true
and_true a b one two = ap (λ (c : Bool). if c then b else false) one ∙ two

pub one_itself : (x : Assignment) → is_one x x ≡ true
one_itself x =
    and_true (x.position.priority == x.position.priority) _ (eq-eqb x.position.priority x.position.priority refl)
    (and_true (x.position.line == x.position.line) _ (eq-eqb x.position.line x.position.line refl)
    (and_true (same x.position.pattern x.position.pattern) _ (same_itself x.position.pattern)
    (and_true (same x.position.key x.position.key) _ (same_itself x.position.key)
    (and_true (same x.value x.value) _ (same_itself x.value) (same_itself x.path)))))

-- ---- two lists

pub are_itself : (xs : List Assignment) → are_one xs xs ≡ true
unfolding are_one
are_itself [] = refl
are_itself (x ∷ xs) = and_true (is_one x x) (are_one xs xs) (one_itself x) (are_itself xs)

pub ones_are : (xs ys : List Assignment) → are_one xs ys ≡ true → xs ≡ ys
unfolding are_one
ones_are [] [] e = refl
ones_are [] (y ∷ ys) e = absurd (true≢false (sym e))
ones_are (x ∷ xs) [] e = absurd (true≢false (sym e))
ones_are (x ∷ xs) (y ∷ ys) e =
    let both = both_hold (is_one x y) (are_one xs ys) e in
    λ i. one_is x y both.0 i ∷ ones_are xs ys both.1 i

pub ones_differ : (xs ys : List Assignment) → are_one xs ys ≡ false → xs ≢ ys
ones_differ xs ys e one = absurd (true≢false (sym (ap (are_one xs) (sym one) ∙ are_itself xs) ∙ e))

-- ---- a step of two walks

-- the next one of the other is this one
head_on : (x : Assignment) (head xs rest : List Assignment) → is_head x head ≡ true → (y : Assignment) → head ≡ y ∷ [] → are_one (x ∷ xs) (head ++ rest) ≡ are_one xs rest
unfolding are_one
head_on x head xs rest e y is =
    ap (λ (h : List Assignment). are_one (x ∷ xs) (h ++ rest)) is
    ∙ ap (λ (b : Bool). if b then are_one xs rest else false) (sym (ap (is_head x) is) ∙ e)

-- it is another one
head_off : (x : Assignment) (xs ys : List Assignment) (y : Assignment) → is_one x y ≡ false → are_one (x ∷ xs) (y ∷ ys) ≡ false
unfolding are_one
head_off x xs ys y e = ap (λ (b : Bool). if b then are_one xs ys else false) e

short : (x : Assignment) (xs : List Assignment) → are_one (x ∷ xs) [] ≡ false
unfolding are_one
short x xs = refl

-- the walk of the other one goes on as that of the first
pub walked_on : (pattern : List ℕ) (x : UnreadEntry) (xs : List Assignment) (m now : Members) → true ≡ is_head (unread_of pattern x) (head_of (path_of m.walk.trail) m.next)
    → left_of now ≡ after_next m → are_one (unread_of pattern x ∷ xs) (left_of m) ≡ are_one xs (left_of now)
walked_on pattern x xs m now e left = go m.next refl
  where
    go : (next : Option UnreadEntry) → m.next ≡ next → are_one (unread_of pattern x ∷ xs) (left_of m) ≡ are_one xs (left_of now)
    go None is = absurd (true≢false (e ∙ ap (λ (o : Option UnreadEntry). is_head (unread_of pattern x) (head_of (path_of m.walk.trail) o)) is))
    go (Some y) is =
        head_on (unread_of pattern x) (head_of (path_of m.walk.trail) m.next) xs (after_next m) (sym e) (unread_of (path_of m.walk.trail) y) (ap (head_of (path_of m.walk.trail)) is)
        ∙ ap (are_one xs) (sym left)

-- they part there
pub walks_part : (pattern : List ℕ) (x : UnreadEntry) (xs : List Assignment) (m : Members) (t : Tree) → IsUnderWay t m → IfNone m.next (m.walk.at ≡ None)
    → is_head (unread_of pattern x) (head_of (path_of m.walk.trail) m.next) ≡ false → are_one (unread_of pattern x ∷ xs) (left_of m) ≡ false
walks_part pattern x xs m t way end e = go m.next refl
  where
    go : (next : Option UnreadEntry) → m.next ≡ next → are_one (unread_of pattern x ∷ xs) (left_of m) ≡ false
    go None is = ap (are_one (unread_of pattern x ∷ xs)) (none_left m t way end is) ∙ short (unread_of pattern x) xs
    go (Some y) is =
        ap (are_one (unread_of pattern x ∷ xs)) (next_is m y is)
        ∙ head_off (unread_of pattern x) xs (after_next m) (unread_of (path_of m.walk.trail) y)
        (sym (ap (λ (o : Option UnreadEntry). is_head (unread_of pattern x) (head_of (path_of m.walk.trail) o)) is) ∙ e)

unnot : (b c : Bool) → c ≡ not b → not c ≡ b
unnot true c e = ap not e
unnot false c e = ap not e

-- the first walk is done
pub walk_done : (m : Members) (t : Tree) (b : Bool) → IsUnderWay t m → IfNone m.next (m.walk.at ≡ None) → is_some m.next ≡ not b → are_one [] (left_of m) ≡ b
unfolding are_one
walk_done m t b way end e = go m.next refl
  where
    go : (next : Option UnreadEntry) → m.next ≡ next → are_one [] (left_of m) ≡ b
    go None is = ap (are_one []) (none_left m t way end is) ∙ ap (λ (o : Option UnreadEntry). not (is_some o)) (sym is) ∙ unnot b (is_some m.next) e
    go (Some y) is = ap (are_one []) (next_is m y is) ∙ ap (λ (o : Option UnreadEntry). not (is_some o)) (sym is) ∙ unnot b (is_some m.next) e

-- ---- two maps

-- the assignments of some entries
assigned : (xs : List Assignment) → map (λ (e : (List ℕ × List ℕ) × Assignment). e.1) (map entry_of xs) ≡ xs
assigned [] = refl
assigned (x ∷ xs) = ap (λ (l : List Assignment). x ∷ l) (assigned xs)

members_of : (xs ys : List Assignment) → map entry_of xs ≡ map entry_of ys → xs ≡ ys
members_of xs ys e = sym (assigned xs) ∙ ap (map (λ (e : (List ℕ × List ℕ) × Assignment). e.1)) e ∙ assigned ys

module _ (t u : Tree) where
  -- the trees assign the same, so they have one map
  pub one_map : are_one (members_under [] t) (members_under [] u) ≡ true → map_of t ≡ map_of u
  unfolding map_of
  one_map e = ap (λ (l : List Assignment). finite.from_entries (map entry_of l)) (ones_are (members_under [] t) (members_under [] u) e)

  -- they don't, so they have two
  pub two_maps : IsTree t → IsTree u → are_one (members_under [] t) (members_under [] u) ≡ false → map_of t ≢ map_of u
  two_maps is are e one =
      ones_differ (members_under [] t) (members_under [] u) e
      (members_of (members_under [] t) (members_under [] u) (sym (entries_of_tree t is) ∙ ap (λ (m : Map). finite.entries m) one ∙ entries_of_tree u are))

-- what has no change to another map
no_change : (o : Option Assignment) → change_at o o ≡ []
no_change None = refl
no_change (Some a) = ap (λ (b : Bool). if b then [] else Changed a a ∷ []) (same_itself a.value)

all_unchanged : (m : Map) (ps : List (List ℕ × List ℕ)) → flat_map (λ place. change_at (finite.get m place) (finite.get m place)) ps ≡ []
all_unchanged m [] = refl
all_unchanged m (p ∷ ps) = ap (λ (l : List Change). l ++ flat_map (λ place. change_at (finite.get m place) (finite.get m place)) ps) (no_change (finite.get m p)) ∙ all_unchanged m ps

pub unchanged_itself : (m : Map) → differences m m ≡ []
unfolding differences
unchanged_itself m = all_unchanged m (places m m)

-- changes were counted, so the maps are two
pub changed_maps : (old new : Map) (s : State) → s ≡ stale_by (differences old new) → is_unchanged s ≡ false → old ≢ new
changed_maps old new s is e one =
    absurd (true≢false (ap is_unchanged (sym (is ∙ ap (λ (m : Map). stale_by (differences old m)) (sym one) ∙ ap stale_by (unchanged_itself old))) ∙ e))

-- a state that was counted, of two maps
pub stale_how : (old new : Map) (s : State) → s ≡ stale_by (differences old new) → old ≢ new → IsHow old new s
stale_how old new s is two = subst (IsHow old new) (sym is) (two, refl)

-- ---- the state of bytes

-- how a database is beside a map says its state
pub state_how : (bytes made : List ℕ) (m : Map) (t : Tree) (s : State) → bytes ≢ made → IsDatabase bytes t → IsHow (map_of t) m s → IsStateOf made m bytes s
state_how bytes made m t Missing other is how = absurd how
state_how bytes made m t Broken other is how = absurd how
state_how bytes made m t Fresh other is how = absurd how
state_how bytes made m t Alike other is how = (other, (t, is, how))
state_how bytes made m t (Stale changes first) other is how = (other, (t, is, how.0, how.1))
