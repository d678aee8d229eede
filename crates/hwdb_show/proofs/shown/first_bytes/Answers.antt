use Rattle.std.proofs.Common.{sym, arith}
use Rattle.std.proofs.lemmas.List.{length-take-le, take_all}
use Rattle.hwdb_show.proofs.shown.first_bytes.Goals as goal

pub slice_bounds-result-end : goal.slice_bounds-result-end
slice_bounds-result-end c = sym (length-take-le c.args.most c.args.text.now (omega arith))

pub returns-else-text-most : goal.returns-else-text-most
returns-else-text-most c = sym (take_all c.args.most c.args.text.now (omega arith))
