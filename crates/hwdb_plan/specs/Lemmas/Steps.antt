-- Steps of functions that follow plans.
use Rattle.std.proofs.Common.{◌≡◌, ◌∙◌, ◌⊎◌, inl, inr, ap, sym, subst, List, None, Some, Result, Ok, Err, ℕ}
use Rattle.std.specs.Result.{IsErrAnd}
use Rattle.hwdb_spec.specs.declared.errors.ToolError.TheVariants as error
use Rattle.hwdb_spec_commands.specs.declared.refusals.Refusal.{Refusal}
use Rattle.hwdb_spec_commands.specs.declared.refusals.Refusal.TheVariants as refusal
use Rattle.hwdb_spec_commands.specs.declared.unread.Unread.{Unread}
use Rattle.hwdb_spec_commands.specs.Told.{IsUnreadAs, Reads, Stop, stop_of, unread_stop}
use Rattle.hwdb_spec_commands.specs.Told.Stop.{Plain}
use Rattle.hwdb_plan.specs.Asking.{if_read, if_there}
use Rattle.hwdb_plan.specs.Plans.{End, Ends, Follows, Next, Plan, Reaches}
use Rattle.hwdb_plan.specs.Plans.End.{Stops}
use Rattle.hwdb_plan.specs.Plans.Plan.{Database, Input}

-- ---- one question
-- it was told, and what follows ends so
pub input_told : (w : Reads) (at path bytes : List ℕ) (next : Next) (e : End) → w.input at ≡ Ok bytes → path ≡ at → Ends w (next path bytes) e → Ends w (Input at (if_read at next)) e
unfolding Ends
input_told w at path bytes next e told same ends =
    subst (λ r. Ends w (if_read at next r) e) (sym told) (subst (λ p. Ends w (next p bytes) e) same ends)

pub there_told : (w : Reads) (at path bytes : List ℕ) (next : Next) (none : Plan) (e : End) → w.database at ≡ Ok (Some bytes) → path ≡ at → Ends w (next path bytes) e
    → Ends w (Database at (if_there at next none)) e
unfolding Ends
there_told w at path bytes next none e told same ends =
    subst (λ r. Ends w (if_there at next none r) e) (sym told) (subst (λ p. Ends w (next p bytes) e) same ends)

pub none_told : (w : Reads) (at : List ℕ) (next : Next) (none : Plan) (e : End) → w.database at ≡ Ok None → Ends w none e → Ends w (Database at (if_there at next none)) e
unfolding Ends
none_told w at next none e told ends = subst (λ r. Ends w (if_there at next none r) e) (sym told) ends

-- it wasn't, and that ends the plan
pub input_untold : (w : Reads) (at : List ℕ) (u : Unread) (next : Next) (s : Stop) → w.input at ≡ Err u → s ≡ unread_stop at u → Ends w (Input at (if_read at next)) (Stops s)
unfolding Ends
input_untold w at u next s told is = subst (λ r. Ends w (if_read at next r) (Stops s)) (sym told) (ap Stops is)

pub there_untold : (w : Reads) (at : List ℕ) (u : Unread) (next : Next) (none : Plan) (s : Stop) → w.database at ≡ Err u → s ≡ unread_stop at u
    → Ends w (Database at (if_there at next none)) (Stops s)
unfolding Ends
there_untold w at u next none s told is = subst (λ r. Ends w (if_there at next none r) (Stops s)) (sym told) (ap Stops is)

-- ---- steps that others begin with
-- an error that was handed on
pub input_stops : {Y : Type 0} (path bytes : Y → List ℕ) (w : Reads) (at : List ℕ) (r : Refusal) (result : Result Y Refusal) → IsUnreadAs (w.input at) at r → IsErrAnd result (λ x. x ≡ r)
    → Reaches path bytes w (λ next. Input at (if_read at next)) result
input_stops path bytes w at r (Ok y) why is = absurd is
input_stops path bytes w at r (Err x) (inl memory) is = inl (is ∙ memory)
input_stops path bytes w at r (Err x) (inr (u, told, says)) is = inr (λ next. input_untold w at u next (stop_of x) told (ap stop_of is ∙ says))

-- ---- what follows a step
-- its error is the result
pub stopped : {X Y : Type 0} (path bytes : X → List ℕ) (end_of : Y → End) (w : Reads) (p : Next → Plan) (next : Next) (r : Refusal) (result : Result Y Refusal)
    → (r ≡ refusal.Plain error.Memory) ⊎ ((n : Next) → Ends w (p n) (Stops (stop_of r))) → IsErrAnd result (λ x. x ≡ r) → Follows end_of w (p next) result
stopped path bytes end_of w p next r (Ok y) why is = absurd is
stopped path bytes end_of w p next r (Err x) (inl memory) is = inl (is ∙ memory)
stopped path bytes end_of w p next r (Err x) (inr ends) is = inr (subst (λ (y : Refusal). Ends w (p next) (Stops (stop_of y))) (sym is) (ends next))

-- an error that says that there was no memory
pub plainly : (r : Refusal) → stop_of r ≡ Plain error.Memory → r ≡ refusal.Plain error.Memory
plainly (refusal.Plain e) is = let same : e ≡ error.Memory = cc in ap refusal.Plain same
plainly (refusal.At e p c) is = cc
plainly refusal.NoDatabase is = cc
plainly (refusal.InWords text) is = cc
