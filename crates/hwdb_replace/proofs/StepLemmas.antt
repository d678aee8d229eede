-- What one step more makes of the contents, and of what a crash may leave.
use Rattle.std.proofs.Common.{◌≡◌, ◌≢◌, ◌⊎◌, inl, inr, ⊎_elim, ℕ, zero, suc, ◌+◌, ◌≤◌, Bool, true, false, cond, ◌||◌, ◌&&◌, bytes_eq, List, [], ◌∷◌, ◌++◌, length, take, Option, Some, None, Contains, option_map, Result, Ok, Err, IsOkAnd, IfOk, refl, sym, ap, ◌∙◌, subst, arith, length-append}
use Rattle.std.proofs.lemmas.List.{take_all, take-append-le}
use Rattle.std.specs.Prelude.{unwrap_or}
use Rattle.std.proofs.lemmas.Bool.{true≢false}
use Rattle.std.proofs.lemmas.List.Elements.{Contains-append_cases}
use Rattle.std.proofs.lemmas.Bool.Decides.{leb_tells}
use Rattle.std.proofs.lemmas.Slice.Eq.{bytes_eq-Decides}
use Rattle.hwdb_spec.specs.Store.{Stored, Contents, Outcomes, Cleared, IsPartPath, OldOrCleared, SameBut, Same, NoMore, NoMoreBut, Removed, Renamed, NoMoreRenamed, Always, Elapses, Created}
use Rattle.hwdb_replace.specs.declared.calls.CallFailed.{CallFailed}
use Rattle.std.specs.Borrow.{Bor}
use Rattle.hwdb_replace.specs.declared.memory.File.{File}
use Rattle.hwdb_replace.specs.declared.memory.PathState.{PathState}
use Rattle.hwdb_replace.specs.declared.memory.Step.{Step}
use Rattle.hwdb_replace.specs.declared.memory.Step.TheVariants.{Changed, Synced, Moved, Removed as Gone, Kept}
use Rattle.hwdb_spec.specs.Crashes.{Traces, begin, changed, MayLeave}
use Rattle.hwdb_replace.specs.Memory.{stored, lent, after, state_of, seen_of, left_of, is_whole_of, since_of, IsChange, IsSync, IsMove, IsRemoval, IsClearing, IsCreation}
use Rattle.hwdb_replace.proofs.MomentLemmas.{elapses_on, elapses_start}
use Rattle.hwdb_spec.specs.Lemmas.Orders.{one_or_two}

pub state_on : (p : List ℕ) (s : Traces) (xs : List Step) (x : Step) → state_of p s (xs ++ x ∷ []) ≡ after p (state_of p s xs) x
state_on p s [] x = refl
state_on p s (y ∷ xs) x = state_on p (after p s y) xs x

here : (p q : List ℕ) → q ≡ p → bytes_eq p q ≡ true
here p q e = (bytes_eq-Decides p q).1 (sym e)

elsewhere : (p q r : List ℕ) → q ≡ r → p ≢ r → bytes_eq p q ≡ false
elsewhere p q r e ne = by (bytes_eq p q) refl
  where
    by : (b : Bool) → bytes_eq p q ≡ b → bytes_eq p q ≡ false
    by true is = absurd (ne ((bytes_eq-Decides p q).0 is ∙ e))
    by false is = is

no_member : (v : Option Stored) → Contains [] v → ⊥
no_member v c = omega (arith, c.1)

last_member : (vs : List (Option Stored)) (v : Option Stored) → Contains (vs ++ v ∷ []) v
last_member [] v = (0, omega arith, refl)
last_member (w ∷ vs) v = let rest = last_member vs v in (suc rest.0, omega (arith, rest.1), rest.2)

only_member : (x v : Option Stored) → Contains (x ∷ []) v → v ≡ x
only_member x v (zero, lt, e) = sym e
only_member x v (suc k, lt, e) = absurd (omega (arith, lt))

or_true : (b : Bool) → (b || true) ≡ true
or_true true = refl
or_true false = refl

-- what may be left once something else is there
pub changed_left : (now : Option Stored) (s : Traces) (v : Option Stored) → MayLeave (changed now false s) v → MayLeave s v ⊎ (v ≡ now)
changed_left now s v (inl is) = inr is
changed_left now s v (inr (inl was)) = ⊎_elim (λ b. inl (inr (inl b))) (λ one. inl (inl (only_member s.now v one))) (Contains-append_cases s.before (s.now ∷ []) v was)
changed_left now s v (inr (inr torn)) = inl (inr (inr (or_false s.torn torn)))
  where
    or_false : (b : Bool) → (b || false) ≡ true → b ≡ true
    or_false true e = refl
    or_false false e = e

module _ (xs ys : List Step) (s : Step) (is : ys ≡ xs ++ s ∷ []) where
  on : (p : List ℕ) → state_of p begin ys ≡ after p (state_of p begin xs) s
  on p = ap (λ l. state_of p begin l) is ∙ state_on p begin xs s

  left_on : (p : List ℕ) (t : Traces) → after p (state_of p begin xs) s ≡ t → (v : Option Stored) → left_of ys p v → MayLeave t v
  left_on p t e v left = subst (λ (u : Traces). MayLeave u v) (on p ∙ e) left

-- a file changes
change_here : (s : Step) (p : List ℕ) (f : Stored) (t : Traces) → IsChange s p f → after p t s ≡ changed (Some f) true t
change_here (Changed path file) p f t is = ap (λ b. cond b (changed (Some (stored file)) true t) t) (here p path.items is.0) ∙ ap (λ g. changed (Some g) true t) is.1
change_here _ p f t is = absurd is

change_else : (s : Step) (p q : List ℕ) (f : Stored) (t : Traces) → IsChange s p f → q ≢ p → after q t s ≡ t
change_else (Changed path file) p q f t is ne = ap (λ b. cond b (changed (Some (stored file)) true t) t) (elsewhere q path.items p is.0 ne)
change_else _ p q f t is ne = absurd is

module _ (xs ys : List Step) (s : Step) (is : ys ≡ xs ++ s ∷ []) (p : List ℕ) (f : Stored) (change : IsChange s p f) where
  pub change_seen : seen_of ys p ≡ Some f
  change_seen = ap (λ (t : Traces). t.now) (on xs ys s is p ∙ change_here s p f (state_of p begin xs) change)

  pub change_others : SameBut p (seen_of xs) (seen_of ys)
  change_others q ne = ap (λ (t : Traces). t.now) (on xs ys s is q ∙ change_else s p q f (state_of q begin xs) change ne)

  pub change_torn : (v : Option Stored) → left_of ys p v
  change_torn v = inr (inr (ap (λ (t : Traces). t.torn) (on xs ys s is p ∙ change_here s p f (state_of p begin xs) change) ∙ or_true (state_of p begin xs).torn))

  pub change_crash : NoMoreBut p (left_of xs) (left_of ys)
  change_crash q v ne left = left_on xs ys s is q _ (change_else s p q f (state_of q begin xs) change ne) v left

-- a file is removed
removal_here : (s : Step) (p : List ℕ) (t : Traces) → IsRemoval s p → after p t s ≡ changed None false t
removal_here (Gone path) p t is = ap (λ b. cond b (changed None false t) t) (here p path.items is)
removal_here _ p t is = absurd is

removal_else : (s : Step) (p q : List ℕ) (t : Traces) → IsRemoval s p → q ≢ p → after q t s ≡ t
removal_else (Gone path) p q t is ne = ap (λ b. cond b (changed None false t) t) (elsewhere q path.items p is ne)
removal_else _ p q t is ne = absurd is

module _ (xs ys : List Step) (s : Step) (is : ys ≡ xs ++ s ∷ []) (p : List ℕ) (removal : IsRemoval s p) where
  pub removal_seen : Removed p (seen_of xs) (seen_of ys)
  removal_seen = record {
    gone = ap (λ (t : Traces). t.now) (on xs ys s is p ∙ removal_here s p (state_of p begin xs) removal);
    others = λ q ne. ap (λ (t : Traces). t.now) (on xs ys s is q ∙ removal_else s p q (state_of q begin xs) removal ne);
  }

  pub removal_crash : NoMoreBut p (left_of xs) (left_of ys)
  removal_crash q v ne left = left_on xs ys s is q _ (removal_else s p q (state_of q begin xs) removal ne) v left

  removal_left : (v : Option Stored) → left_of ys p v → left_of xs p v ⊎ (v ≡ None)
  removal_left v left = changed_left None (state_of p begin xs) v (left_on xs ys s is p _ (removal_here s p (state_of p begin xs) removal) v left)

  -- of new files whose leftovers may go, one more
  module _ (folder : List ℕ) (part : IsPartPath folder p) where
    removal_cleared : (old : Contents) → Cleared folder old (seen_of xs) → Cleared folder old (seen_of ys)
    removal_cleared old was q =
        ⊎_elim (λ e. inr (subst (IsPartPath folder) (sym e) part, ap (seen_of ys) e ∙ removal_seen.gone))
        (λ ne. ⊎_elim (λ same. inl (removal_seen.others q ne ∙ same)) (λ gone. inr (gone.0, removal_seen.others q ne ∙ gone.1)) (was q)) (one_or_two q p)

    removal_or_cleared : (before : Outcomes) → NoMore (OldOrCleared folder before) (left_of xs) → NoMore (OldOrCleared folder before) (left_of ys)
    removal_or_cleared before was q v left =
        ⊎_elim (λ e. ⊎_elim (λ l. was q v (subst (λ r. left_of xs r v) (sym e) l)) (λ none. inr (subst (IsPartPath folder) (sym e) part, none))
        (removal_left v (subst (λ r. left_of ys r v) e left)))
        (λ ne. was q v (removal_crash q v ne left)) (one_or_two q p)

-- a file is on the disk
settled_trace : Traces → Traces
settled_trace t = record { now = t.now; loose = false; before = t.before; torn = t.torn }

sync_either : (s : Step) (p q : List ℕ) (t : Traces) → IsSync s p → (after q t s ≡ settled_trace t) ⊎ (after q t s ≡ t)
unfolding settled_trace
sync_either (Synced path) p q t is = by (bytes_eq q path.items)
  where
    by : (b : Bool) → (cond b (settled_trace t) t ≡ settled_trace t) ⊎ (cond b (settled_trace t) t ≡ t)
    by true = inl refl
    by false = inr refl
sync_either _ p q t is = absurd is

sync_here : (s : Step) (p : List ℕ) (t : Traces) → IsSync s p → after p t s ≡ settled_trace t
unfolding settled_trace
sync_here (Synced path) p t is = ap (λ b. cond b (settled_trace t) t) (here p path.items is)
sync_here _ p t is = absurd is

module _ (xs ys : List Step) (s : Step) (is : ys ≡ xs ++ s ∷ []) (p : List ℕ) (sync : IsSync s p) where
  pub sync_whole : is_whole_of ys p
  unfolding settled_trace
  sync_whole = ap (λ (t : Traces). t.loose) (on xs ys s is p ∙ sync_here s p (state_of p begin xs) sync)

  pub sync_seen : Same (seen_of xs) (seen_of ys)
  unfolding settled_trace
  sync_seen q = ⊎_elim (λ e. ap (λ (t : Traces). t.now) (on xs ys s is q ∙ e)) (λ e. ap (λ (t : Traces). t.now) (on xs ys s is q ∙ e)) (sync_either s p q (state_of q begin xs) sync)

  pub sync_crash : NoMore (left_of xs) (left_of ys)
  unfolding settled_trace
  sync_crash q v left = ⊎_elim (λ e. left_on xs ys s is q _ e v left) (λ e. left_on xs ys s is q _ e v left) (sync_either s p q (state_of q begin xs) sync)

-- all names are on the disk
pub kept_left : (t : Traces) (v : Option Stored) → MayLeave (record { now = t.now; loose = t.loose; before = []; torn = t.torn && t.loose }) v → (v ≡ t.now) ⊎ ((t.torn && t.loose) ≡ true)
kept_left t v (inl e) = inl e
kept_left t v (inr (inl c)) = absurd (no_member v c)
kept_left t v (inr (inr e)) = inr e

pub both : (a b : Bool) → (a && b) ≡ true → (a ≡ true) × (b ≡ true)
both true b e = (refl, e)
both false b e = absurd (true≢false (sym e))

module _ (xs ys : List Step) (is : ys ≡ xs ++ Kept ∷ []) where
  pub kept_seen : Same (seen_of xs) (seen_of ys)
  kept_seen q = ap (λ (t : Traces). t.now) (on xs ys Kept is q)

  pub kept_crash : NoMore (left_of xs) (left_of ys)
  kept_crash q v left = ⊎_elim (λ e. inl e) (λ e. inr (inr (both (state_of q begin xs).torn (state_of q begin xs).loose e).0))
      (kept_left (state_of q begin xs) v (left_on xs ys Kept is q _ refl v left))

  pub kept_durable : (p : List ℕ) → is_whole_of xs p → Always p (seen_of xs p) (left_of ys)
  kept_durable p whole v left = ⊎_elim (λ e. e) (λ e. absurd (true≢false (sym (both (state_of p begin xs).torn (state_of p begin xs).loose e).1 ∙ whole)))
      (kept_left (state_of p begin xs) v (left_on xs ys Kept is p _ refl v left))

-- a file has another name
move_to : (s : Step) (from to : List ℕ) (f : Stored) (loose : Bool) (t : Traces) → IsMove s from to f loose → after to t s ≡ changed (Some f) loose t
move_to (Moved old new file is_loose) from to f loose t is =
    ap (λ b. cond b (changed (Some (stored file)) is_loose t) (cond (bytes_eq to old.items) (changed None false t) t)) (here to new.items is.1)
    ∙ ap (λ g. changed (Some g) is_loose t) is.2 ∙ ap (λ b. changed (Some f) b t) is.3
move_to _ from to f loose t is = absurd is

move_from : (s : Step) (from to : List ℕ) (f : Stored) (loose : Bool) (t : Traces) → IsMove s from to f loose → from ≢ to → after from t s ≡ changed None false t
move_from (Moved old new file is_loose) from to f loose t is ne =
    ap (λ b. cond b (changed (Some (stored file)) is_loose t) (cond (bytes_eq from old.items) (changed None false t) t)) (elsewhere from new.items to is.1 ne)
    ∙ ap (λ b. cond b (changed None false t) t) (here from old.items is.0)
move_from _ from to f loose t is ne = absurd is

move_else : (s : Step) (from to q : List ℕ) (f : Stored) (loose : Bool) (t : Traces) → IsMove s from to f loose → q ≢ from → q ≢ to → after q t s ≡ t
move_else (Moved old new file is_loose) from to q f loose t is nf nt =
    ap (λ b. cond b (changed (Some (stored file)) is_loose t) (cond (bytes_eq q old.items) (changed None false t) t)) (elsewhere q new.items to is.1 nt)
    ∙ ap (λ b. cond b (changed None false t) t) (elsewhere q old.items from is.0 nf)
move_else _ from to q f loose t is nf nt = absurd is

module _ (xs ys : List Step) (s : Step) (is : ys ≡ xs ++ s ∷ []) (from to : List ℕ) (f : Stored) (there : seen_of xs from ≡ Some f) (move : IsMove s from to f (state_of from begin xs).loose) where
  pub move_seen : Renamed from to (seen_of xs) (seen_of ys)
  move_seen = record {
    there = ap (λ (t : Traces). t.now) (on xs ys s is to ∙ move_to s from to f _ (state_of to begin xs) move) ∙ sym there;
    gone = λ ne. ap (λ (t : Traces). t.now) (on xs ys s is from ∙ move_from s from to f _ (state_of from begin xs) move ne);
    others = λ q nf nt. ap (λ (t : Traces). t.now) (on xs ys s is q ∙ move_else s from to q f _ (state_of q begin xs) move nf nt);
  }

  pub move_undone : left_of ys to (seen_of xs to)
  move_undone = inr (inl (subst (λ (t : Traces). Contains t.before (seen_of xs to)) (sym (on xs ys s is to ∙ move_to s from to f _ (state_of to begin xs) move))
      (last_member (state_of to begin xs).before (seen_of xs to))))

  pub move_whole : is_whole_of xs from → is_whole_of ys to
  move_whole whole = ap (λ (t : Traces). t.loose) (on xs ys s is to ∙ move_to s from to f _ (state_of to begin xs) move) ∙ whole

  pub move_crash : NoMoreRenamed from to (seen_of xs from) (is_whole_of xs from) (left_of xs) (left_of ys)
  move_crash = record {
    there = λ whole v left. ⊎_elim (λ was. inl was) (λ now. inr (now ∙ sym there))
        (changed_left (Some f) (state_of to begin xs) v
        (left_on xs ys s is to _ (move_to s from to f _ (state_of to begin xs) move ∙ ap (λ b. changed (Some f) b (state_of to begin xs)) whole) v left));
    others = λ q v nf nt left. left_on xs ys s is q _ (move_else s from to q f _ (state_of q begin xs) move nf nt) v left;
  }

-- time goes on
pub elapses_on_step : (xs ys : List Step) (s : Step) → ys ≡ xs ++ s ∷ [] → Elapses (length xs) (length ys) (since_of xs) (since_of ys) (left_of ys)
elapses_on_step xs ys s is = record { later = omega (arith, size); nothing_else = past; nothing_less = kept }
  where
    size : length ys ≡ length xs + 1
    size = ap length is ∙ length-append xs (s ∷ [])

    by : (k t : ℕ) (p : List ℕ) (v : Option Stored) → t ≤ k → (k ≤ length xs) ⊎ (length xs + 1 ≤ k) → left_of (take k ys) p v → since_of xs t p v ⊎ left_of ys p v
    by k t p v le (inl short) left = inl (k, le, short, subst (λ l. left_of l p v) (ap (λ l. take k l) is ∙ take-append-le k xs (s ∷ []) short) left)
    by k t p v le (inr long) left = inr (subst (λ l. left_of l p v) (take_all k ys (omega (arith, long, size))) left)

    split : (k : ℕ) → k ≤ length ys → (k ≤ length xs) ⊎ (length xs + 1 ≤ k)
    split k le = ⊎_elim (λ (a : _). inl a.1) (λ (b : _). inr (omega (arith, b.1))) (leb_tells k (length xs))

    past : (t : ℕ) (p : List ℕ) (v : Option Stored) → t ≤ length xs → since_of ys t p v → since_of xs t p v ⊎ left_of ys p v
    past t p v le (k, lo, hi, left) = by k t p v lo (split k hi) left

    kept : (t : ℕ) (p : List ℕ) (v : Option Stored) → t ≤ length xs → since_of xs t p v → since_of ys t p v
    kept t p v le (k, lo, hi, left) = (k, lo, omega (arith, hi, size), subst (λ l. left_of l p v) (sym (ap (take k) is ∙ take-append-le k xs (s ∷ []) hi)) left)

pub elapses_same : (xs ys : List Step) → ys ≡ xs → Elapses (length xs) (length ys) (since_of xs) (since_of ys) (left_of ys)
elapses_same xs ys is = record { later = omega (arith, ap length is); nothing_else = λ t p v le left. inl (subst (λ l. since_of l t p v) is left); nothing_less = λ t p v le left. subst (λ l. since_of l t p v) (sym is) left }

pub same_same : (xs ys : List Step) → ys ≡ xs → Same (seen_of xs) (seen_of ys)
same_same xs ys is q = ap (λ l. seen_of l q) is

pub no_more_same : (xs ys : List Step) → ys ≡ xs → NoMore (left_of xs) (left_of ys)
no_more_same xs ys is q v left = subst (λ l. left_of l q v) is left

-- what was looked up
pub standing : (state : PathState) (steps xs : List Step) (path p : List ℕ) (f : Bor File) → lent state ≡ state_of path begin steps → steps ≡ xs → path ≡ p → state.now ≡ Some f
    → seen_of xs p ≡ Some (stored f.now)
standing state steps xs path p f is same1 same2 now =
    ap (λ l. seen_of l p) (sym same1) ∙ ap (λ q. seen_of steps q) (sym same2) ∙ ap (λ (t : Traces). t.now) (sym is) ∙ ap (λ o. option_map (λ (g : Bor File). stored g.now) o) now

-- the step that a call took
abbrev pub Took : (xs ys : List Step) (Q : Step → Type 0) → Type 0
Took xs ys Q = (s : Step) × (ys ≡ xs ++ s ∷ []) × Q s

pub took : (Q : Step → Type 0) (xs ys : List Step) (r : Result Step CallFailed) → IsOkAnd r (λ s. ys ≡ xs ++ s ∷ []) → IfOk r Q → Took xs ys Q
took Q xs ys (Ok s) is q = (s, is, q)
took Q xs ys (Err e) is q = absurd is

pub time_of : (xs ys : List Step) (r : Result Step CallFailed) → IsOkAnd r (λ s. ys ≡ xs ++ s ∷ []) → Elapses (length xs) (length ys) (since_of xs) (since_of ys) (left_of ys)
time_of xs ys (Ok s) is = elapses_on_step xs ys s is
time_of xs ys (Err e) is = absurd is

-- a file was made
pub created : (xs ys : List Step) (s : Step) (is : ys ≡ xs ++ s ∷ []) (p q part : List ℕ) → q ≡ p → part ≡ p → IsCreation (Some s) q (seen_of xs q)
    → Created true p part (seen_of xs) (seen_of ys) × NoMoreBut p (left_of xs) (left_of ys)
created xs ys s is p q part e same creation =
    let there = subst (λ (r : List ℕ). IsCreation (Some s) r (seen_of xs r)) e creation in (
      (
        there.0,
        same,
        record {
          there = change_seen xs ys s is p _ there.1;
          others = λ r ne. change_others xs ys s is p _ there.1 r ne;
        },
      ),
      change_crash xs ys s is p _ there.1,
    )

-- a path has one file
pub same_file : (f g : Stored) → Some f ≡ Some g → f ≡ g
same_file f g e = ap (λ (o : Option Stored). unwrap_or o f) e

-- one clearing more
pub record ClearedSoFar (folder : List ℕ) (start xs : List Step) : Type 0 where
  pub seen : Cleared folder (seen_of start) (seen_of xs)
  pub crash : NoMore (OldOrCleared folder (left_of start)) (left_of xs)
  pub time : Elapses (length start) (length xs) (since_of start) (since_of xs) (OldOrCleared folder (left_of start))

pub nothing_cleared : (folder : List ℕ) (start : List Step) → ClearedSoFar folder start start
nothing_cleared folder start = record { seen = λ p. inl refl; crash = λ p v left. inl left; time = elapses_start (length start) (since_of start) (OldOrCleared folder (left_of start)) }

pub cleared_on : (folder : List ℕ) (start xs ys : List Step) → ClearedSoFar folder start xs → IsClearing folder xs ys → ClearedSoFar folder start ys
cleared_on folder start xs ys was (inl same) = subst (ClearedSoFar folder start) (sym same) was
cleared_on folder start xs ys was (inr (s, p, is, removal, part)) = record {
  seen = removal_cleared xs ys s is p removal folder part (seen_of start) was.seen;
  crash = crash;
  time = elapses_on _ _ _ _ _ _ _ _ was.time (elapses_on_step xs ys s is) crash;
}
  where
    crash : NoMore (OldOrCleared folder (left_of start)) (left_of ys)
    crash = removal_or_cleared xs ys s is p removal folder part (left_of start) was.crash
