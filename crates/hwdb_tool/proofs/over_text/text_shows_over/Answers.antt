use Rattle.hwdb_tool.proofs.TextPlanLemmas.{text_shows}
use Rattle.hwdb_tool.proofs.over_text.text_shows_over.Goals as goal

pub returns : goal.returns
returns c = λ root made w p ib im before now result within shows. text_shows root made w within c.only_asked_matters.ensures c.over_is_over.ensures p ib im before now result shows
