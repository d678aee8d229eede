use Rattle.std.proofs.Common.{map, string_bytes, subst, List, Global, Vec, String, ℕ, Ok, Err}
use Rattle.hwdb_plan.specs.GivenFolders.{if_few}
use Rattle.hwdb_plan.specs.Lemmas.Folders.{value_stops, value_then}
use Rattle.hwdb_plan.specs.Lemmas.GivenFolders.{files_reached}
use Rattle.hwdb_plan.specs.Plans.{ReachesValue}
use Rattle.hwdb_plan.specs.Sides.{made_at}
use Rattle.hwdb_tool.proofs.SidePlanLemmas.{items}
use Rattle.hwdb_tool.proofs.sides.named_texts.Goals as goal

abbrev paths_of : Vec (String Global) Global → List (List ℕ)
paths_of v = map string_bytes v.items

pub returns : goal.returns
returns g c = record {
  told = λ tells.
      let w = g.D.System.reads c.args.system.now in
      let path = c.args.path.now in
      let found = map string_bytes c.args.names.now in
      value_then w paths_of items (if_few path found) (λ own next. made_at path own next) c.in_ok-own.own c.texts_at.result
      (files_reached w paths_of path found (Ok c.in_ok-own.own) c.in_ok-own.ensures.files c.in_ok-own.ensures.few tt)
      (subst (λ l. ReachesValue items w (made_at path (map string_bytes l)) c.texts_at.result) c.deref.ensures.value (c.texts_at.ensures.told tells));
}

pub returns-in_err-own : goal.returns-in_err-own
returns-in_err-own g c = record {
  told = λ tells.
      let w = g.D.System.reads c.args.system.now in
      let path = c.args.path.now in
      let found = map string_bytes c.args.names.now in
      let r = c.in_err-own.field-0.0 in
      value_stops w paths_of items (if_few path found) (λ own next. made_at path own next) r c.from_residual.result (files_reached w paths_of path found (Err r) tt tt c.in_err-own.ensures.refused)
      c.from_residual.ensures.1;
}
