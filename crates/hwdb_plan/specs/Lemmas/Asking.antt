-- The same of functions that begin with the database that is asked.
use Rattle.std.proofs.Common.{◌≡◌, ◌∙◌, inl, inr, ap, refl, subst, option_map, IfSome, List, Option, None, Some, Result, Ok, Err, ℕ, true, false}
use Rattle.std.specs.Result.{IsErrAnd}
use Rattle.hwdb_spec_commands.specs.Asked.{database_path}
use Rattle.hwdb_spec_commands.specs.declared.refusals.Refusal.{Refusal}
use Rattle.hwdb_spec_commands.specs.Told.{IsUnreadAs, Reads, stop_of}
use Rattle.hwdb_spec_commands.specs.Told.Stop.{NoDatabase}
use Rattle.hwdb_plan.specs.Asking.{asked, if_there}
use Rattle.hwdb_plan.specs.Plans.{End, Ends, Next, Reaches}
use Rattle.hwdb_plan.specs.Plans.End.{Stops}
use Rattle.hwdb_plan.specs.Plans.Plan.{Database, Done}
use Rattle.hwdb_plan.specs.Lemmas.Steps.{none_told, there_told, there_untold}

pub first_stops : {Y : Type 0} (path bytes : Y → List ℕ) (w : Reads) (root : List ℕ) (r : Refusal) (result : Result Y Refusal)
    → IsUnreadAs (w.database (database_path false root)) (database_path false root) r → IsErrAnd result (λ x. x ≡ r) → Reaches path bytes w (asked root) result
first_stops path bytes w root r (Ok y) why is = absurd is
first_stops path bytes w root r (Err x) (inl memory) is = inl (is ∙ memory)
first_stops path bytes w root r (Err x) (inr (u, told, says)) is =
    inr (λ next. there_untold w (database_path false root) u next (Database (database_path true root) (if_there (database_path true root) next (Done (Stops NoDatabase)))) (stop_of x) told (ap stop_of is ∙ says))

pub second_stops : {Y : Type 0} (path bytes : Y → List ℕ) (w : Reads) (root : List ℕ) (r : Refusal) (result : Result Y Refusal) → w.database (database_path false root) ≡ Ok None
    → IsUnreadAs (w.database (database_path true root)) (database_path true root) r → IsErrAnd result (λ x. x ≡ r) → Reaches path bytes w (asked root) result
second_stops path bytes w root r (Ok y) none why is = absurd is
second_stops path bytes w root r (Err x) none (inl memory) is = inl (is ∙ memory)
second_stops path bytes w root r (Err x) none (inr (u, told, says)) is =
    inr (λ next. none_told w (database_path false root) next (Database (database_path true root) (if_there (database_path true root) next (Done (Stops NoDatabase)))) (Stops (stop_of x)) none
    (there_untold w (database_path true root) u next (Done (Stops NoDatabase)) (stop_of x) told (ap stop_of is ∙ says)))

-- ---- the database that is asked
pub first_found : {F : Type 0} (path bytes : F → List ℕ) (w : Reads) (root : List ℕ) (found : Option F) (f : F) → w.database (database_path false root) ≡ Ok (option_map bytes found)
    → IfSome found (λ x. path x ≡ database_path false root) → found ≡ Some f → (next : Next) (e : End) → Ends w (next (path f) (bytes f)) e → Ends w (asked root next) e
first_found path bytes w root found f told at is next e ends =
    there_told w (database_path false root) (path f) (bytes f) next (Database (database_path true root) (if_there (database_path true root) next (Done (Stops NoDatabase)))) e
    (told ∙ ap (λ o. Ok (option_map bytes o)) is) (subst (λ o. IfSome o (λ x. path x ≡ database_path false root)) is at) ends

pub second_found : {F : Type 0} (path bytes : F → List ℕ) (w : Reads) (root : List ℕ) (found : Option F) (f : F) → w.database (database_path false root) ≡ Ok None
    → w.database (database_path true root) ≡ Ok (option_map bytes found) → IfSome found (λ x. path x ≡ database_path true root) → found ≡ Some f
    → (next : Next) (e : End) → Ends w (next (path f) (bytes f)) e → Ends w (asked root next) e
second_found path bytes w root found f none told at is next e ends =
    none_told w (database_path false root) next (Database (database_path true root) (if_there (database_path true root) next (Done (Stops NoDatabase)))) e none
    (there_told w (database_path true root) (path f) (bytes f) next (Done (Stops NoDatabase)) e
    (told ∙ ap (λ o. Ok (option_map bytes o)) is) (subst (λ o. IfSome o (λ x. path x ≡ database_path true root)) is at) ends)

pub none_found : (w : Reads) (root : List ℕ) → w.database (database_path false root) ≡ Ok None → w.database (database_path true root) ≡ Ok None → (next : Next) → Ends w (asked root next) (Stops NoDatabase)
unfolding Ends
none_found w root none none2 next =
    none_told w (database_path false root) next (Database (database_path true root) (if_there (database_path true root) next (Done (Stops NoDatabase)))) (Stops NoDatabase) none
    (none_told w (database_path true root) next (Done (Stops NoDatabase)) (Stops NoDatabase) none2 refl)

-- ---- by the path of the one that is there
pub asked_first : (w : Reads) (root path : List ℕ) → path ≡ database_path false root → (next : Next) (bytes : List ℕ) (e : End) → w.database path ≡ Ok (Some bytes) → Ends w (next path bytes) e → Ends w (asked root next) e
asked_first w root path at next bytes e told ends =
    there_told w (database_path false root) path bytes next (Database (database_path true root) (if_there (database_path true root) next (Done (Stops NoDatabase)))) e
    (subst (λ (p : List ℕ). w.database p ≡ Ok (Some bytes)) at told) at ends

pub asked_second : (w : Reads) (root first path : List ℕ) → first ≡ database_path false root → w.database first ≡ Ok None → path ≡ database_path true root → (next : Next) (bytes : List ℕ) (e : End)
    → w.database path ≡ Ok (Some bytes) → Ends w (next path bytes) e → Ends w (asked root next) e
asked_second w root first path hidden none at next bytes e told ends =
    none_told w (database_path false root) next (Database (database_path true root) (if_there (database_path true root) next (Done (Stops NoDatabase)))) e
    (subst (λ (p : List ℕ). w.database p ≡ Ok None) hidden none)
    (there_told w (database_path true root) path bytes next (Done (Stops NoDatabase)) e (subst (λ (p : List ℕ). w.database p ≡ Ok (Some bytes)) at told) at ends)
