-- The new file is made.
use Rattle.std.proofs.Common.{◌≡◌, ◌≢◌, inl, inr, ⊎_elim, ℕ, ◌+◌, ◌<◌, Bool, true, false, List, Some, None, sym, ap, ◌∙◌, subst, arith, refl}
use Rattle.std.proofs.lemmas.Bool.{true≢false}
use Rattle.std.proofs.lemmas.Bool.Decides.{eqb_tells}
use Rattle.hwdb_spec.specs.Store.{Contents, AreTaken, Created, NoMoreCreated, Same, most_parts, part_name, path_in}
use Rattle.hwdb_spec.specs.Lemmas.Orders.{one_or_two}
use Rattle.hwdb_replace.specs.declared.calls.Store.{Ghosts}
use Rattle.hwdb_replace.specs.Internal.{Step, Makes, Touches, empty_file}
use Rattle.hwdb_replace.proofs.ComposedLemmas.{Call, and_call}

-- one name more is taken
pub still_taken : (folder name part : List ℕ) (number : ℕ) (b : Bool) (old mid new : Contents) → AreTaken folder number old → Same old mid
    → b ≡ false → name ≡ part_name number → Created b (path_in folder name) part mid new → AreTaken folder (number + 1) old
still_taken folder name part number true old mid new taken same is named seen k lt = absurd (true≢false is)
still_taken folder name part number false old mid new taken same is named seen k lt =
    let there : old (path_in folder name) ≢ None = λ none. seen.0 (same (path_in folder name) ∙ none) in
    ⊎_elim (λ (one : _). subst (λ (n : List ℕ). old (path_in folder n) ≢ None) (named ∙ ap part_name (sym one.1)) there)
    (λ (other : _). taken k (omega (arith, lt, other.1))) (eqb_tells k number)

module _ {D : Type 0} {g : Ghosts D} where
  -- the name was taken
  pub still_same : (path : List ℕ) (b : Bool) {old mid new : D} → Step g Same (g.may_leave old) old mid → b ≡ false
      → (g.tells → Created b path (g.part new) (g.seen mid) (g.seen new)) → NoMoreCreated b path (g.may_leave mid) (g.may_leave new)
      → Call g mid new → Step g Same (g.may_leave old) old new
  still_same path true step is seen crash time = absurd (true≢false is)
  still_same path false step is seen crash time = and_call step (λ t same p. (seen t).1 p ∙ same p) (λ p v left. left)
      (λ p v left. step.left p v (crash p v left)) time

  -- it was free
  pub made : (folder name : List ℕ) (number : ℕ) (b : Bool) {old mid new : D} → Step g Same (g.may_leave old) old mid
      → (g.tells → AreTaken folder number (g.seen old)) → number < most_parts → b ≡ true → name ≡ part_name number
      → (b ≡ true → g.is_own new (path_in folder name))
      → (g.tells_own → b ≡ true → (g.part new ≡ path_in folder name) × (g.seen new (path_in folder name) ≡ Some empty_file))
      → (g.tells → Created b (path_in folder name) (g.part new) (g.seen mid) (g.seen new))
      → NoMoreCreated b (path_in folder name) (g.may_leave mid) (g.may_leave new) → Call g mid new
      → Makes g folder (path_in folder name) old new
  made folder name number false step taken tried is named own empty seen crash time = absurd (true≢false (sym is))
  made folder name number true step taken tried is named own empty seen crash time = record {
    is = record {
      number = number;
      tried = tried;
      is = ap (λ (n : List ℕ). path_in folder n) named;
      free = λ t. sym (step.seen t (path_in folder name)) ∙ (seen t).0;
      first = taken;
    };
    own = own refl;
    empty = λ t. record { is = (empty t refl).0; seen = (empty t refl).1 };
    step = and_call step (λ t same. record { there = (seen t).2.there; others = λ p ne. (seen t).2.others p ne ∙ same p })
        (λ p v left. inl left)
        (λ p v left. ⊎_elim (λ e. inr e) (λ ne. inl (step.left p v (crash p v ne left))) (one_or_two p (path_in folder name))) time;
  }

  -- its path, by the name as a text
  pub made_under : {folder name text : List ℕ} {old new : D} → text ≡ name → Makes g folder (path_in folder name) old new
      → Makes g folder (path_in folder text) old new
  made_under {folder = folder} {old = old} {new = new} same makes =
      subst (λ n. Makes g folder (path_in folder n) old new) (sym same) makes

  -- and what has changed there
  pub touched_under : (folder : List ℕ) {name text : List ℕ} {old new : D} → text ≡ name → Touches g (path_in folder name) old new
      → Touches g (path_in folder text) old new
  touched_under folder {old = old} {new = new} same touches = subst (λ n. Touches g (path_in folder n) old new) (sym same) touches
