use Rattle.std.proofs.Common.{List, Bool, ap, ◌∙◌, ◌==◌, length}
use Rattle.hwdb_pattern.specs.Internal.Tables.{said}
use Rattle.hwdb_pattern.proofs.TableLemmas.{empty_said}
use Rattle.hwdb_pattern.proofs.met.LengthTable.is_empty.Goals as goal

pub returns : goal.returns
returns c =
    empty_said c.args.self.now.least c.deref-says.result.now c.has_some.result c.has_some.ensures
    ∙ ap (λ (l : List Bool). length (said c.args.self.now.least l) == 0) c.deref-says.ensures.value
