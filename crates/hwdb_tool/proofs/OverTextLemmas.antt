-- A task over the text files: what is done over the database that they make, and what fails before it.
use Rattle.std.proofs.Common.{◌≡◌, ◌&&◌, sym, refl, subst, true, false, true≢false, List, ℕ, Bool, Option, None, Some}
use Rattle.std.specs.Borrow.{Bor}
use Rattle.std.specs.Prelude.{not, option_map}
use Rattle.hwdb_spec_program.specs.Program.{IsUpdate, is_update}
use Rattle.hwdb_spec_commands.specs.declared.job.Task.{Task}

and_false : {X : Type 0} (b : Bool) → (b && false) ≡ true → X
and_false true e = absurd (true≢false (sym e))
and_false false e = absurd (true≢false (sym e))

-- an update doesn't take it
pub no_update : (text : Bool) (task : Task) → (text && not (is_update task)) ≡ true → IsUpdate task → ⊥
no_update text task takes is = and_false text (subst (λ t. (text && not (is_update t)) ≡ true) is.1 takes)

-- words that fit
pub no_misfit : (found : Option (Bor (List ℕ))) → ((text : Bor (List ℕ)) → found ≡ Some text → ⊥) → option_map (λ t. t.now) found ≡ None
no_misfit None none = refl
no_misfit (Some text) none = absurd (none text refl)
