use Rattle.std.proofs.Common.{arith}
use Rattle.hwdb_writer.proofs.RecordLemmas.{root_at_end, some_node}
use Rattle.hwdb_writer.proofs.output.root_place.Goals as goal

pub returns-in-Some : goal.returns-in-Some
returns-in-Some c = λ place places es ns order p size.
    let some = some_node place places es ns c.args.nodes.now order p in
    let at = root_at_end place places es ns c.args.nodes.now order p c.in-Some.root.now some c.in-Some.ensures.item.1 80 in
    omega (arith, at, c.record_length.ensures, size, c.requires.7)

pub overflow_add-result : goal.overflow_add-result
overflow_add-result c = omega (arith, c.requires.7)

pub overflow_sub-result : goal.overflow_sub-result
overflow_sub-result c =
    let some = some_node c.requires.0 c.requires.1 c.requires.2 c.requires.3 c.args.nodes.now c.requires.4 c.requires.5 in
    let at = root_at_end c.requires.0 c.requires.1 c.requires.2 c.requires.3 c.args.nodes.now c.requires.4 c.requires.5 c.in-Some.root.now some c.in-Some.ensures.item.1 80 in
    omega (arith, at, c.record_length.ensures, c.requires.6, c.requires.7)

pub returns-in-None : goal.returns-in-None
returns-in-None c = λ place places es ns order p size.
    let some = some_node place places es ns c.args.nodes.now order p in
    omega (arith, some, c.in-None.ensures.item.3)
