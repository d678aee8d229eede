use Rattle.std.proofs.Common.{ap, map, string_bytes, subst, ◌∙◌, ◌∷◌, [], List, ℕ}
use Rattle.hwdb_plan.specs.Lemmas.Sides.{memory_reached}
use Rattle.hwdb_plan.specs.Plans.{ReachesValue}
use Rattle.hwdb_plan.specs.Sides.{made_at}
use Rattle.hwdb_tool.proofs.SidePlanLemmas.{items}
use Rattle.hwdb_tool.proofs.sides.text_file_at.Goals as goal

pub returns : goal.returns
returns g c = record {
  told = λ tells.
      let path = c.args.path.now in
      subst (λ (l : List (List ℕ)). ReachesValue items (g.D.System.reads c.args.system.now) (made_at path l) c.texts_at.result) (ap (map string_bytes) c.deref.ensures.value ∙ c.in_ok-own.ensures)
      (c.texts_at.ensures.told tells);
}

pub returns-in_err-own : goal.returns-in_err-own
returns-in_err-own g c = record {
  told = λ tells.
      memory_reached (g.D.System.reads c.args.system.now) items (made_at c.args.path.now (c.args.path.now ∷ [])) c.from_residual.result c.from_residual.ensures.1;
}
