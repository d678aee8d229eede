-- A replacement once leftovers of killed updates are gone.
use Rattle.std.proofs.Common.{◌≡◌, ◌∙◌, inl, inr, ⊎_elim, ℕ, List, None, sym, ap, subst, Result, Ok, Err, MatchResult}
use Rattle.hwdb_spec.specs.Sharing.{OldOrOurs}
use Rattle.hwdb_spec.specs.Store.{Contents, Outcomes, AreTaken, Cleared, Installed, IsKept, IsPart, IsPartPath, NoMore, OldOrCleared, OldOrNew, OldOrPart, Replaced, database_file, most_parts, part_name, path_in}
use Rattle.hwdb_spec.specs.NotReplaced.{IsLeft, IsSeen, failures_after}
use Rattle.hwdb_spec.specs.declared.errors.Unreplaced.{Unreplaced}
use Rattle.hwdb_spec.specs.declared.errors.Unreplaced.TheVariants.{Undone, NamesTaken, LeftBehind, Unsynced}
use Rattle.hwdb_replace.specs.declared.calls.Store.{Ghosts}
use Rattle.hwdb_replace.specs.Internal.{Step, OrAt, OrFile, IsNew, Exchanges, Fails, place}
use Rattle.hwdb_replace.proofs.ComposedLemmas.{composed, weaker}

-- clearing is no failed call
pub counted : (r : Result (Unit {0}) Unreplaced) (start mid end : ℕ) → mid ≡ start
    → MatchResult r (λ _. end ≡ mid) (λ e. end ≡ failures_after e mid)
    → MatchResult r (λ _. end ≡ start) (λ e. end ≡ failures_after e start)
counted r start mid end same h = subst (λ (n : ℕ). MatchResult r (λ _. end ≡ n) (λ e. end ≡ failures_after e n)) same h

module _ {D : Type 0} (g : Ghosts D) (folder bytes : List ℕ) (s0 s1 s2 : D)
    (clears : Step g (Cleared folder) (OldOrCleared folder (g.may_leave s0)) s0 s1) where
  abbrev Leaves : Result (Unit {0}) Unreplaced → Type 0
  Leaves r = MatchResult r (λ _. Exchanges g folder bytes s1 s2) (Fails g folder bytes s1 s2)

  -- in any case no more is left than after an exchange
  abbrev Any : Contents → Contents → Type 0
  Any old new = Unit {0}

  abbrev Allowed : Outcomes
  Allowed = OrFile (IsNew g folder s1) (place folder) (database_file bytes) (g.may_leave s1)

  in_any : (r : Result (Unit {0}) Unreplaced) → Leaves r → Step g Any Allowed s1 s2
  in_any (Ok x) done = weaker done.step (λ t c. tt) (λ p v left. left)
  in_any (Err Undone) step = weaker step (λ t c. tt) (λ p v left. ⊎_elim (λ was. inl was) (λ is. inr (inr is)) left)
  in_any (Err NamesTaken) step = weaker step (λ t c. tt) (λ p v was. inl was)
  in_any (Err LeftBehind) step = weaker step (λ t c. tt) (λ p v left. ⊎_elim (λ was. inl was) (λ is. inr (inr is)) left)
  in_any (Err Unsynced) step = weaker step (λ t c. tt) (λ p v left. left)

  -- beside others
  pub shared : (r : Result (Unit {0}) Unreplaced) → Leaves r → Step g Any (OldOrOurs folder bytes (g.may_leave s0)) s0 s2
  shared r leaves = composed clears (in_any r leaves) (λ t a b. tt)
      (λ p v left. ⊎_elim (λ was. inl was) (λ gone. inr (inr gone.0)) left) ours
    where
      ours : NoMore (OldOrOurs folder bytes (g.may_leave s0)) Allowed
      ours p v (inl was) = ⊎_elim (λ b. inl b) (λ gone. inr (inr gone.0)) (clears.left p v was)
      ours p v (inr (inl file)) = inr (inl file)
      ours p v (inr (inr is)) = inr (inr (record { number = is.number; tried = is.tried; is = is.is }))

  -- alone
  module _ (t : g.tells) where
    -- a name that is still taken was taken
    were_taken : (number : ℕ) → AreTaken folder number (g.seen s1) → AreTaken folder number (g.seen s0)
    were_taken number taken k lt none =
        ⊎_elim (λ same. taken k lt (same ∙ none)) (λ gone. taken k lt gone.1) (clears.seen t (path_in folder (part_name k)))

    is_part : (p : List ℕ) → IsNew g folder s1 p → IsPart folder (g.seen s0) p
    is_part p is = record { number = is.number; tried = is.tried; is = is.is; lower = were_taken is.number (is.first t) }

    or_part : NoMore (OldOrPart folder (g.seen s0) (g.may_leave s0)) (OrAt (IsNew g folder s1) (g.may_leave s1))
    or_part p v (inl was) = ⊎_elim (λ b. inl b) (λ gone. inr (inr gone)) (clears.left p v was)
    or_part p v (inr is) = inr (inl (is_part p is))

    or_new : NoMore (OldOrNew folder bytes (g.seen s0) (g.may_leave s0)) Allowed
    or_new p v (inl was) = ⊎_elim (λ b. inl b) (λ gone. inr (inr (inr gone))) (clears.left p v was)
    or_new p v (inr (inl file)) = inr (inl file)
    or_new p v (inr (inr is)) = inr (inr (inl (is_part p is)))

    pub alone : (r : Result (Unit {0}) Unreplaced) → Leaves r → Step g Any (OldOrNew folder bytes (g.seen s0) (g.may_leave s0)) s0 s2
    alone r leaves = composed clears (in_any r leaves) (λ u a b. tt)
        (λ p v left. ⊎_elim (λ was. inl was) (λ gone. inr (inr (inr gone))) left) or_new

    kept : (p : List ℕ) → g.seen s2 p ≡ g.seen s1 p → IsKept folder (g.seen s0) (g.seen s2) p
    kept p e = ⊎_elim (λ same. inl (e ∙ same)) (λ gone. inr (gone.0, e ∙ gone.1)) (clears.seen t p)

    pub installed : Replaced (place folder) (database_file bytes) (g.seen s1) (g.seen s2) → Installed folder bytes (g.seen s0) (g.seen s2)
    installed r = record { there = r.there; others = λ p ne. kept p (r.others p ne) }

    pub seen_then : (e : Unreplaced) → Fails g folder bytes s1 s2 e → IsSeen folder bytes (g.seen s0) (g.seen s2) e
    seen_then Undone step = λ p. kept p (step.seen t p)
    seen_then NamesTaken step = (
      λ p. ⊎_elim (λ e. e) (λ (gone : IsPartPath folder p × (g.seen s2 p ≡ None)). absurd (still p gone)) (kept p ((step.seen t).0 p)),
      were_taken most_parts (step.seen t).1,
    )
      where
        still : (p : List ℕ) → IsPartPath folder p × (g.seen s2 p ≡ None) → ⊥
        still p gone = (step.seen t).1 gone.0.number gone.0.tried
            (ap (g.seen s1) (sym gone.0.is) ∙ sym ((step.seen t).0 p) ∙ gone.1)
    seen_then LeftBehind step = λ p. ⊎_elim (λ e. inl (kept p e)) (λ is. inr (is_part p is)) (step.seen t p)
    seen_then Unsynced step = installed (step.seen t)

    pub left_then : (e : Unreplaced) → Fails g folder bytes s1 s2 e → IsLeft folder bytes (g.seen s0) (g.may_leave s0) (g.may_leave s2) e
    left_then Undone step = λ p v left. or_part p v (step.left p v left)
    left_then NamesTaken step = λ p v left. clears.left p v (step.left p v left)
    left_then LeftBehind step = λ p v left. or_part p v (step.left p v left)
    left_then Unsynced step = λ p v left. or_new p v (step.left p v left)
