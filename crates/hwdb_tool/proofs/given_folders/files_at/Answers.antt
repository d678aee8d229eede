use Rattle.std.proofs.Common.{map, refl, string_bytes, subst, sym, Err, Global, List, Ok, Option, Result, Some, String, Vec, ℕ}
use Rattle.std.specs.Prelude.{option_map}
use Rattle.hwdb_spec_commands.specs.Told.{IsListedTo}
use Rattle.hwdb_spec_commands.specs.declared.refusals.Refusal.{Refusal}
use Rattle.hwdb_plan.specs.GivenFolders.{if_folder}
use Rattle.hwdb_plan.specs.Lemmas.GivenFolders.{alone_reached, files_reached, folder_found, folder_stops}
use Rattle.hwdb_plan.specs.Plans.{ReachesValue}
use Rattle.hwdb_tool.proofs.given_folders.files_at.Goals as goal

abbrev items : Vec (String Global) Global → List (List ℕ)
items v = map string_bytes v.items

abbrev found_in : Option (Vec (String Global) Global) → Option (List (List ℕ))
found_in found = option_map items found

pub returns-in-Ok-Some-clause-told : goal.returns-in-Ok-Some-clause-told
returns-in-Ok-Some-clause-told g c = λ tells.
    let w = g.D.System.reads c.args.system.now in
    let path = c.args.path.now in
    let result = c.files_in.result in
    folder_found w items path found_in c.in-Ok-Some.field-0 result
    (subst (λ p. IsListedTo found_in (w.folder p) p (Ok c.in-Ok-Some.field-0)) c.folder_of.ensures (c.in-Ok-Some.ensures.told tells))
    (subst (λ (o : Option (Vec (String Global) Global)). ReachesValue items w (if_folder path (found_in o)) result) (sym c.in-Ok-Some.field-0-is)
    (subst (λ l. ReachesValue items w (if_folder path (Some (map string_bytes l))) result) c.deref.ensures.value
    (files_reached w items path (map string_bytes c.deref.result.now) result c.files_in.ensures.files c.files_in.ensures.few c.files_in.ensures.refused)))

pub returns-in_ok-alone-in-Ok-None-clause-told : goal.returns-in_ok-alone-in-Ok-None-clause-told
returns-in_ok-alone-in-Ok-None-clause-told g c = λ tells.
    let w = g.D.System.reads c.args.system.now in
    let path = c.args.path.now in
    let result : Result (Vec (String Global) Global) Refusal = Ok c.in_ok-alone-in-Ok-None.field-0 in
    folder_found w items path found_in c.in-Ok-None.field-0 result
    (subst (λ p. IsListedTo found_in (w.folder p) p (Ok c.in-Ok-None.field-0)) c.folder_of.ensures (c.in-Ok-None.ensures.told tells))
    (subst (λ (o : Option (Vec (String Global) Global)). ReachesValue items w (if_folder path (found_in o)) result) (sym c.in-Ok-None.field-0-is)
    (alone_reached w items path result c.in_ok-alone-in-Ok-None.ensures tt))

pub returns-in-Err-clause-told : goal.returns-in-Err-clause-told
returns-in-Err-clause-told g c = λ tells.
    let w = g.D.System.reads c.args.system.now in
    let r = c.in-Err.refusal in
    folder_stops w items c.args.path.now found_in r (Err r) (subst (λ p. IsListedTo found_in (w.folder p) p (Err r)) c.folder_of.ensures (c.in-Err.ensures.told tells)) (refl {A = Refusal} {a = r})
