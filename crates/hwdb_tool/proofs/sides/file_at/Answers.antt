use Rattle.std.proofs.Common.{sym, ◌∙◌}
use Rattle.hwdb_plan.specs.Lemmas.Sides.{database_reached, text_reached}
use Rattle.hwdb_tool.proofs.SidePlanLemmas.{items}
use Rattle.hwdb_tool.proofs.sides.file_at.Goals as goal

pub returns-then-names_text : goal.returns-then-names_text
returns-then-names_text g c = record {
  told = λ tells.
      text_reached (g.D.System.reads c.args.system.now) items c.args.path.now c.text_file_at.result (sym c.names_text.ensures ∙ c.if-names_text.true) (c.text_file_at.ensures.told tells);
}

pub returns-else-names_text : goal.returns-else-names_text
returns-else-names_text g c = record {
  told = λ tells.
      database_reached (g.D.System.reads c.args.system.now) items c.args.path.now c.database_at.result (sym c.names_text.ensures ∙ c.if-names_text.false) (c.database_at.ensures.told tells);
}
