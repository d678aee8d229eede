use Rattle.std.proofs.Common.{◌∙◌, sym}
use Rattle.hwdb_spec.specs.Lemmas.Orders.{less_of}
use Rattle.hwdb_reader.proofs.passes.EntryLemmas.{less_there}
use Rattle.hwdb_reader.proofs.passes.entries.is_less.Goals as goal

pub returns : goal.returns
returns c h file is =
    less_there c.args.o file c.text_front-left.result.now c.text_front-right.result.now c.args.left c.args.right is c.args.o.ends c.requires.left.above c.requires.right.above c.text_front-left.ensures c.text_front-right.ensures
    (sym c.cmp.ensures ∙ less_of c.cmp.result (sym c.is_lt.ensures ∙ h))
