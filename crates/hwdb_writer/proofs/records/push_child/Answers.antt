use Rattle.std.proofs.Common.{◌∙◌, ◌++◌, ap, List, ℕ, arith}
use Rattle.std.proofs.lemmas.Result.{on_ok_weaker}
use Rattle.byteorder.specs.Endian.{little_bytes}
use Rattle.hwdb_writer.proofs.NumberLemmas.{one_byte}
use Rattle.hwdb_writer.proofs.records.push_child.Goals as goal

pub returns : goal.returns
returns c =
    on_ok_weaker c.push_two.result
    (λ h. h ∙ ap (λ (t : List ℕ). c.args.entries.now.items ++ (t ++ little_bytes 8 c.args.place)) (one_byte c.args.byte (omega arith)))
    c.push_two.ensures
