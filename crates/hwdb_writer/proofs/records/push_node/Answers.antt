use Rattle.std.proofs.Common.{◌∙◌, ◌++◌, ap, List, ℕ, arith}
use Rattle.std.proofs.lemmas.Result.{on_ok_weaker}
use Rattle.byteorder.specs.Endian.{little_bytes}
use Rattle.hwdb_writer.proofs.NumberLemmas.{one_byte}
use Rattle.hwdb_writer.proofs.records.push_node.Goals as goal

pub returns : goal.returns
returns c =
    on_ok_weaker c.push_three.result
    (λ h. h ∙ ap (λ (t : List ℕ). c.args.out.now.items ++ (little_bytes 8 c.args.prefix ++ (t ++ little_bytes 8 c.args.values))) (one_byte c.args.children (omega arith)))
    c.push_three.ensures
