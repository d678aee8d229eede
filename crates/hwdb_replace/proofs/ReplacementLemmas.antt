-- The new file is filled, and takes the database's place.
use Rattle.std.proofs.Common.{◌≡◌, ◌≢◌, ◌⊎◌, ◌≤◌, inl, inr, ⊎_elim, ℕ, List, ◌∷◌, Option, Some, sym, ap, ◌∙◌, subst, arith, get_or, Result, Ok, Err, MatchResult}
use Rattle.std.specs.Result.{IsErrAnd}
use Rattle.std.proofs.lemmas.List.{append_cancel_left}
use Rattle.hwdb_spec.specs.Store.{Stored, Contents, Outcomes, ModeSet, NoMore, NoMoreBut, NoMoreRenamed, Removed, Renamed, Replaced, Same, SameBut, Written, database_file, database_mode, database_name, part_mode, part_name}
use Rattle.hwdb_spec.specs.Lemmas.Orders.{one_or_two}
use Rattle.hwdb_spec.specs.declared.errors.Unreplaced.{Unreplaced}
use Rattle.hwdb_spec.specs.declared.errors.Unreplaced.TheVariants.{Undone, NamesTaken, LeftBehind, Unsynced}
use Rattle.hwdb_replace.specs.declared.calls.Store.{Ghosts}
use Rattle.hwdb_replace.specs.Internal.{Step, OrAt, OrFile, Moved, IsNew, Makes, NotMade, Fills, Touches, Settles, Places, Exchanges, Fails, empty_file, place}
use Rattle.hwdb_replace.proofs.ComposedLemmas.{Call, and_call, composed, weaker}

-- the bytes are written, the mode is set, and a sync changes nothing
pub filled_of : (part p1 p2 path bytes : List ℕ) (old written set synced : Contents) → p1 ≡ part → p2 ≡ p1 → part ≡ path
    → old path ≡ Some empty_file → Written part bytes old written → ModeSet p1 database_mode written set → synced p2 ≡ set p2
    → synced path ≡ Some (database_file bytes)
filled_of part p1 p2 path bytes old written set synced is1 is2 is empty wrote moded same =
    let there : written p1 ≡ Some (record { bytes = bytes; mode = part_mode }) = ap written is1 ∙ wrote empty_file (ap old is ∙ empty) in
    let here : p2 ≡ path = is2 ∙ is1 ∙ is in
    ap synced (sym here) ∙ same ∙ ap set is2 ∙ moded (record { bytes = bytes; mode = part_mode }) there

module _ {D : Type 0} {g : Ghosts D} where
  -- before the rename
  pub filled_at : {path : List ℕ} {old mid : D} → Fills g old mid → g.part old ≡ path → Touches g path old mid
  filled_at {old = old} {mid = mid} fills is = subst (λ q. Touches g q old mid) is fills.step

  -- the rename failed
  pub not_renamed : {path : List ℕ} {old mid new : D} → Touches g path old mid → (g.tells → Same (g.seen mid) (g.seen new))
      → NoMore (g.may_leave mid) (g.may_leave new) → Call g mid new → Touches g path old new
  not_renamed step same less time = and_call step (λ t others p ne. same t p ∙ others p ne) (λ p v left. left)
      (λ p v left. step.left p v (less p v left)) time

  -- the file, which is whole, has the other name
  module _ (path target bytes : List ℕ) {old mid : D} (step : Touches g path old mid)
      (there : g.seen mid path ≡ Some (database_file bytes)) (whole : g.is_whole mid path) where
    abbrev Allowed : Outcomes
    Allowed = OrFile (λ p. p ≡ path) target (database_file bytes) (g.may_leave old)

    left_at : (new : D) → NoMoreRenamed path target (g.seen mid path) (g.is_whole mid path) (g.may_leave mid) (g.may_leave new)
        → NoMore Allowed (g.may_leave new)
    left_at new crash p v left = ⊎_elim (λ e. inr (inr e))
        (λ ne. ⊎_elim (λ e. at_target e) (λ nt. up (crash.others p v ne nt left)) (one_or_two p target)) (one_or_two p path)
      where
        up : g.may_leave mid p v → Allowed p v
        up was = ⊎_elim (λ o. inl o) (λ e. inr (inr e)) (step.left p v was)

        at_target : p ≡ target → Allowed p v
        at_target e = ⊎_elim (λ was. up (subst (λ q. g.may_leave mid q v) (sym e) was)) (λ is. inr (inl (e, is ∙ there)))
            (crash.there whole v (subst (λ q. g.may_leave new q v) e left))

    pub renamed : {new : D} → g.seen new target ≡ g.seen mid path → g.may_leave new target (g.seen mid path)
        → (g.is_whole mid path → g.is_whole new target) → (g.tells → Renamed path target (g.seen mid) (g.seen new))
        → NoMoreRenamed path target (g.seen mid path) (g.is_whole mid path) (g.may_leave mid) (g.may_leave new)
        → Call g mid new → Settles g path target bytes old new
    renamed {new = new} is put kept seen crash time = record {
      there = is ∙ there;
      put = subst (λ (v : Option Stored). g.may_leave new target v) there put;
      whole = kept whole;
      step = and_call step (λ t others. record { gone = (seen t).gone; others = λ p ne nt. (seen t).others p ne nt ∙ others p ne })
          (λ p v left. ⊎_elim (λ was. inl was) (λ e. inr (inr e)) left) (left_at new crash) time;
    }

  -- the new file's name isn't the database's
  part_apart : {folder part : List ℕ} {old : D} → IsNew g folder old part → part ≢ place folder
  part_apart {folder = folder} is e =
      let same : 47 ∷ part_name is.number ≡ 47 ∷ database_name =
      append_cancel_left folder (47 ∷ part_name is.number) (47 ∷ database_name) (sym is.is ∙ e) in
      let first : 46 ≡ 104 = ap (λ (l : List ℕ). get_or l 1 0) same in
      absurd (omega (arith, first))

  module _ {folder part : List ℕ} {s0 s1 : D} (makes : Makes g folder part s0 s1) where
    abbrev OrNew : Outcomes
    OrNew = OrAt (IsNew g folder s0) (g.may_leave s0)

    abbrev OrPlaced : (bytes : List ℕ) → Outcomes
    OrPlaced bytes = OrFile (IsNew g folder s0) (place folder) (database_file bytes) (g.may_leave s0)

    is_new : (p : List ℕ) → p ≡ part → IsNew g folder s0 p
    is_new p e = subst (λ q. IsNew g folder s0 q) (sym e) makes.is

    new_at : NoMore OrNew (OrAt (λ p. p ≡ part) (g.may_leave s0))
    new_at p v (inl was) = inl was
    new_at p v (inr e) = inr (is_new p e)

    -- the file was filled and renamed: it is in the database's place
    pub settled : {bytes : List ℕ} {s2 : D} → Settles g part (place folder) bytes s1 s2 → Places g folder bytes s0 s2
    settled {bytes = bytes} {s2 = s2} settles = composed makes.step settles.step
        (λ t was now. record { there = settles.there; others = others t was now }) (λ p v left. up p v (new_at p v left)) allowed
      where
        up : NoMore (OrPlaced bytes) OrNew
        up p v left = ⊎_elim (λ was. inl was) (λ is. inr (inr is)) left

        allowed : NoMore (OrPlaced bytes) (OrFile (λ p. p ≡ part) (place folder) (database_file bytes) (g.may_leave s1))
        allowed p v (inl was) = up p v (new_at p v (makes.step.left p v was))
        allowed p v (inr (inl file)) = inr (inl file)
        allowed p v (inr (inr e)) = inr (inr (is_new p e))

        others : g.tells → Replaced part empty_file (g.seen s0) (g.seen s1) → Moved part (place folder) (g.seen s1) (g.seen s2)
            → SameBut (place folder) (g.seen s0) (g.seen s2)
        others t was now p nt = ⊎_elim (λ e. ap (g.seen s2) e ∙ now.gone (part_apart makes.is) ∙ sym (ap (g.seen s0) e ∙ makes.is.free t))
            (λ ne. now.others p ne nt ∙ was.others p ne) (one_or_two p part)

    -- the last sync changes nothing
    pub synced : {bytes : List ℕ} {s2 s3 : D} → Settles g part (place folder) bytes s1 s2 → (g.tells → Same (g.seen s2) (g.seen s3))
        → NoMore (g.may_leave s2) (g.may_leave s3) → Call g s2 s3 → Places g folder bytes s0 s3
    synced settles same less time = and_call (settled settles)
        (λ t was. record { there = same t (place folder) ∙ was.there; others = λ p ne. same t p ∙ was.others p ne })
        (λ p v left. left) (λ p v left. (settled settles).left p v (less p v left)) time

    -- what was in the place might have been left since
    pub was_put : ((d : D) (p : List ℕ) (v : Option Stored) → g.may_leave d p v → g.left_since d (g.moment d) p v)
        → ((d : D) (t u : ℕ) (p : List ℕ) (v : Option Stored) → t ≤ u → g.left_since d u p v → g.left_since d t p v)
        → {bytes : List ℕ} {s2 s3 : D} → Settles g part (place folder) bytes s1 s2 → Call g s2 s3
        → g.left_since s3 (g.moment s0) (place folder) (Some (database_file bytes))
    was_put from_now earlier {s2 = s2} settles time =
        let later = (settled settles).time.later in
        time.nothing_less (g.moment s0) _ _ later (earlier s2 (g.moment s0) (g.moment s2) _ _ later (from_now s2 _ _ settles.put))

    -- a call failed before the rename, or that one; then the file is removed, or stays
    failed : {s2 : D} → Touches g part s1 s2 → Touches g part s0 s2
    failed step = composed makes.step step (λ t was now p ne. now p ne ∙ was.others p ne) (λ p v left. left)
        (λ p v left. ⊎_elim (λ was. makes.step.left p v was) (λ e. inr e) left)

    gone : {s2 s3 : D} → Touches g part s1 s2 → NoMoreBut part (g.may_leave s2) (g.may_leave s3) → NoMore OrNew (g.may_leave s3)
    gone step less p v left = new_at p v (⊎_elim (λ e. inr e) (λ ne. (failed step).left p v (less p v ne left)) (one_or_two p part))

    pub removed : {s2 s3 : D} → Touches g part s1 s2 → (g.tells → Removed part (g.seen s2) (g.seen s3))
        → NoMoreBut part (g.may_leave s2) (g.may_leave s3) → Call g s2 s3 → Step g Same OrNew s0 s3
    removed {s3 = s3} step seen less time = and_call (failed step)
        (λ t others p. ⊎_elim (λ e. ap (g.seen s3) e ∙ (seen t).gone ∙ sym (ap (g.seen s0) e ∙ makes.is.free t))
        (λ ne. (seen t).others p ne ∙ others p ne) (one_or_two p part))
        new_at (gone step less) time

    pub left_behind : {s2 s3 : D} → Touches g part s1 s2 → (g.tells → Same (g.seen s2) (g.seen s3))
        → NoMoreBut part (g.may_leave s2) (g.may_leave s3) → Call g s2 s3
        → Step g (λ a b. (p : List ℕ) → (b p ≡ a p) ⊎ IsNew g folder s0 p) OrNew s0 s3
    left_behind step seen less time = and_call (failed step)
        (λ t others p. ⊎_elim (λ e. inr (is_new p e)) (λ ne. inl (seen t p ∙ others p ne)) (one_or_two p part))
        new_at (gone step less) time

-- nothing was made
pub unmade : {D : Type 0} (g : Ghosts D) (folder bytes : List ℕ) (old new : D) (r : Result (Unit {0}) Unreplaced) (e : Unreplaced)
    → IsErrAnd r (λ x. x ≡ e) → NotMade g folder old new e
    → MatchResult r (λ _. Exchanges g folder bytes old new) (Fails g folder bytes old new)
unmade g folder bytes old new (Ok x) e is made = absurd is
unmade g folder bytes old new (Err x) e is made = subst (Fails g folder bytes old new) (sym is) (fails e made)
  where
    fails : (u : Unreplaced) → NotMade g folder old new u → Fails g folder bytes old new u
    fails Undone step = weaker step (λ t same. same) (λ p v was. inl was)
    fails NamesTaken step = step
    fails LeftBehind never = absurd never
    fails Unsynced never = absurd never
