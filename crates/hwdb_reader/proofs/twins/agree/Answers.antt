use Rattle.std.proofs.Common.{◌∙◌, sym}
use Rattle.hwdb_spec.specs.Lemmas.Orders.{same_text}
use Rattle.hwdb_reader.proofs.SharedLemmas.{cut_to}
use Rattle.hwdb_reader.proofs.twins.agree.Goals as goal

pub returns : goal.returns
returns c t = cut_to c.args.a.now c.args.b.now c.args.x c.args.y c.args.count (same_text _ _ (sym c.is_same.ensures ∙ t))
