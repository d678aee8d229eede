use Rattle.std.proofs.Common.{List, map, string_bytes, subst, sym, Some, Global, Ok, Err, Option, String, Vec, ℕ}
use Rattle.std.specs.Prelude.{option_map}
use Rattle.hwdb_plan.specs.Folders.{if_listed}
use Rattle.hwdb_plan.specs.Lemmas.Folders.{folder_asked, value_stops, value_then}
use Rattle.hwdb_plan.specs.Plans.{Plan, ReachesValue}
use Rattle.hwdb_plan.specs.Plans.Plan.{Folder}
use Rattle.hwdb_plan.specs.Sides.{bytes_if}
use Rattle.hwdb_spec_commands.specs.CheckedFiles.{folder_of}
use Rattle.hwdb_spec_commands.specs.Told.{IsListedTo}
use Rattle.hwdb_tool.proofs.SidePlanLemmas.{items}
use Rattle.hwdb_tool.proofs.sides.plain_side.Goals as goal

abbrev found_in : Option (Vec (String Global) Global) → Option (List (List ℕ))
found_in found = option_map (λ names. map string_bytes names.items) found

abbrev asks : (path : List ℕ) → (Option (List (List ℕ)) → Plan) → Plan
asks path next = Folder (folder_of path) (if_listed (folder_of path) next)

pub returns-in_err-found : goal.returns-in_err-found
returns-in_err-found g c = record {
  told = λ tells.
      let w = g.D.System.reads c.args.system.now in
      let path = c.args.path.now in
      let r = c.in_err-found.field-0.0 in
      value_stops w found_in items (asks path) (bytes_if path) r c.from_residual.result
      (folder_asked w found_in (folder_of path) (Err r) (subst (λ p. IsListedTo found_in (w.folder p) p (Err r)) c.folder_of.ensures (c.in_err-found.ensures.told tells))) c.from_residual.ensures.1;
}

pub returns-in-Some : goal.returns-in-Some
returns-in-Some g c = record {
  told = λ tells.
      let w = g.D.System.reads c.args.system.now in
      let path = c.args.path.now in
      let found = c.in_ok-found.found in
      value_then w found_in items (asks path) (bytes_if path) found c.folder_at.result
      (folder_asked w found_in (folder_of path) (Ok found) (subst (λ p. IsListedTo found_in (w.folder p) p (Ok found)) c.folder_of.ensures (c.in_ok-found.ensures.told tells)))
      (subst (λ (o : Option (Vec (String Global) Global)). ReachesValue items w (bytes_if path (found_in o)) c.folder_at.result) (sym c.in-Some.is)
      (subst (λ l. ReachesValue items w (bytes_if path (Some (map string_bytes l))) c.folder_at.result) c.deref.ensures.value (c.folder_at.ensures.told tells)));
}

pub returns-in-None : goal.returns-in-None
returns-in-None g c = record {
  told = λ tells.
      let w = g.D.System.reads c.args.system.now in
      let path = c.args.path.now in
      let found = c.in_ok-found.found in
      value_then w found_in items (asks path) (bytes_if path) found c.file_at.result
      (folder_asked w found_in (folder_of path) (Ok found) (subst (λ p. IsListedTo found_in (w.folder p) p (Ok found)) c.folder_of.ensures (c.in_ok-found.ensures.told tells)))
      (subst (λ (o : Option (Vec (String Global) Global)). ReachesValue items w (bytes_if path (found_in o)) c.file_at.result) (sym c.in-None.is) (c.file_at.ensures.told tells));
}
