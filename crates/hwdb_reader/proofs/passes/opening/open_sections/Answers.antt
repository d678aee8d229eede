use Rattle.std.proofs.Common.{arith}
use Rattle.hwdb_reader.proofs.passes.HeaderLemmas.{sections}
use Rattle.hwdb_reader.proofs.passes.opening.open_sections.Goals as goal

pub returns-clause-sections : goal.returns-clause-sections
returns-clause-sections c file p size =
    sections file c.args.header.now c.args.size c.u64_at-nodes.result c.u64_at.result c.u64_at-node_size.result c.u64_at-child_size.result c.u64_at-value_size.result c.u64_at-nodes_len.result c.u64_at-2.result c.u64_at-3.result
    p size (omega arith) (c.is_signed.ensures c.if-not-is_signed.false) c.u64_at.ensures c.u64_at-nodes.ensures c.u64_at-node_size.ensures c.u64_at-child_size.ensures c.u64_at-value_size.ensures
    c.u64_at-3.ensures c.u64_at-nodes_len.ensures c.u64_at-2.ensures c.if-u64_at-size.false (omega arith) (omega arith) (omega arith) (omega arith) (omega arith) (omega arith) c.if-u64_at-size-2.false
