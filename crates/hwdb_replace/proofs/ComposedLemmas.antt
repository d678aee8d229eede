-- Two steps of a replacement are one.
use Rattle.std.proofs.Common.{◌≡◌, ◌∙◌, inl, inr, ⊎_elim, ℕ, List, Option, refl, arith}
use Rattle.hwdb_spec.specs.Store.{Stored, Contents, Outcomes, Elapses, LeavesOnly, NoMore, NoMoreBut, SameBut}
use Rattle.hwdb_spec.specs.Lemmas.Orders.{one_or_two}
use Rattle.hwdb_replace.specs.declared.calls.Store.{Ghosts}
use Rattle.hwdb_replace.specs.Internal.{Step, Fills}
use Rattle.hwdb_replace.proofs.MomentLemmas.{elapses_more, elapses_on, elapses_start, same_but_on}

-- time goes on during a call of the store: what a crash may leave meanwhile it may leave after it
abbrev pub Call : {D : Type 0} (g : Ghosts D) (old new : D) → Type 0
Call g old new = Elapses (g.moment old) (g.moment new) (g.left_since old) (g.left_since new) (g.may_leave new)

module _ {D : Type 0} {g : Ghosts D} where
  -- what both change is a change of the third kind, and what both allow is allowed
  pub composed : {A B C : Contents → Contents → Type 0} {X Y Z : Outcomes} {old mid new : D}
      → Step g A X old mid → Step g B Y mid new
      → (g.tells → A (g.seen old) (g.seen mid) → B (g.seen mid) (g.seen new) → C (g.seen old) (g.seen new))
      → NoMore Z X → NoMore Z Y → Step g C Z old new
  composed first second change one two = record {
    seen = λ t. change t (first.seen t) (second.seen t);
    left = λ p v l. two p v (second.left p v l);
    time = elapses_on _ _ _ _ _ _ _ _ (elapses_more _ _ _ _ _ _ first.time one) second.time two;
  }

  -- one that says more
  pub weaker : {A C : Contents → Contents → Type 0} {X Z : Outcomes} {old new : D} → Step g A X old new
      → (g.tells → A (g.seen old) (g.seen new) → C (g.seen old) (g.seen new)) → NoMore Z X → Step g C Z old new
  weaker step change up = record {
    seen = λ t. change t (step.seen t);
    left = λ p v left. up p v (step.left p v left);
    time = elapses_more _ _ _ _ _ _ step.time up;
  }

  -- a call of the store is the second one
  pub and_call : {A C : Contents → Contents → Type 0} {X Z : Outcomes} {old mid new : D} → Step g A X old mid
      → (g.tells → A (g.seen old) (g.seen mid) → C (g.seen old) (g.seen new))
      → NoMore Z X → NoMore Z (g.may_leave new) → Call g mid new → Step g C Z old new
  and_call first change one two time = record {
    seen = λ t. change t (first.seen t);
    left = two;
    time = elapses_on _ _ _ _ _ _ _ _ (elapses_more _ _ _ _ _ _ first.time one) time two;
  }

  -- what is left at each moment
  pub leaves_only : {A : Contents → Contents → Type 0} {X : Outcomes} {old new : D} → Step g A X old new
      → ((d : D) (p : List ℕ) (v : Option Stored) → g.left_since d (g.moment d) p v → g.may_leave d p v)
      → NoMore X (g.may_leave old) → LeavesOnly g.moment g.left_since old new X
  leaves_only {old = old} step only_now from = record {
    each = λ p v left. ⊎_elim (λ past. from p v (only_now old p v past)) (λ more. more)
        (step.time.nothing_else (g.moment old) p v (omega arith) left);
    time = step.time;
  }

  -- nothing is written yet
  pub fills_nothing : (d : D) → Fills g d d
  fills_nothing d = record {
    part = refl;
    own = λ p is. is;
    step = record { seen = λ t p ne. refl; left = λ p v left. inl left; time = elapses_start _ _ _ };
  }

  -- a call that changes one's own file alone
  pub fills_by : (old new : D) → g.part new ≡ g.part old → ((p : List ℕ) → g.is_own old p → g.is_own new p)
      → (g.tells → SameBut (g.part old) (g.seen old) (g.seen new))
      → NoMoreBut (g.part old) (g.may_leave old) (g.may_leave new) → Call g old new → Fills g old new
  fills_by old new part own others crash time = record {
    part = part;
    own = own;
    step = and_call (fills_nothing old).step (λ t same. others t) (λ p v left. left)
        (λ p v left. ⊎_elim (λ e. inr e) (λ ne. inl (crash p v ne left)) (one_or_two p (g.part old))) time;
  }

  pub fills_on : {old mid new : D} → Fills g old mid → Fills g mid new → Fills g old new
  fills_on first second = record {
    part = second.part ∙ first.part;
    own = λ p is. second.own p (first.own p is);
    step = composed first.step second.step (λ t a b. same_but_on _ _ _ _ _ first.part a b) (λ p v left. left)
        (λ p v left. ⊎_elim (λ was. first.step.left p v was) (λ e. inr (e ∙ first.part)) left);
  }
