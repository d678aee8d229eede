use Rattle.hwdb_tool.proofs.AskedPartLemmas.{of_opened}
use Rattle.hwdb_tool.proofs.in_parts.text_in_parts.Goals as goal

pub returns : goal.returns
returns g c = λ tells. of_opened _ _ _ _ _ (c.in_ok-file.ensures.opened tells) _ c.text_of_opened.ensures
