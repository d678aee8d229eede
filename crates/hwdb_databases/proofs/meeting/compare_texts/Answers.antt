use Rattle.std.proofs.Common.{◌∙◌, sym}
use Rattle.hwdb_spec.specs.Assignment.{text_cmp}
use Rattle.hwdb_spec.specs.Lemmas.Orders.{equal_of}
use Rattle.hwdb_databases.proofs.meeting.compare_texts.Goals as goal

pub returns-then-is_same : goal.returns-then-is_same
returns-then-is_same c = sym (equal_of (text_cmp c.args.one.now c.args.other.now) (sym c.is_same.ensures ∙ c.if-is_same.true))
