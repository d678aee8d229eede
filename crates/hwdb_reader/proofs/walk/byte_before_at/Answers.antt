use Rattle.std.proofs.Common.{◌∙◌, ap, sym, arith}
use Rattle.hwdb_spec.specs.Format.{byte_before, child_byte}
use Rattle.hwdb_reader.proofs.NodeLemmas.{byte_before_some, bytes_begin}
use Rattle.hwdb_reader.proofs.walk.byte_before_at.Goals as goal

pub returns-then-i-eq0 : goal.returns-then-i-eq0
returns-then-i-eq0 c = bytes_begin c.args.l.sizes c.args.b.now c.args.off ∙ ap (byte_before c.args.l.sizes c.args.b.now c.args.off) (sym c.if-i-eq0.true)

pub returns : goal.returns
returns c = ap (child_byte c.args.b.now) c.child_entry_at.ensures.place ∙ sym (byte_before_some c.args.l.sizes c.args.b.now c.args.off c.args.i (omega arith))
