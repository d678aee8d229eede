use Rattle.std.proofs.Common.{ap, arith}
use Rattle.hwdb_spec.specs.Format.{child_byte}
use Rattle.hwdb_reader.proofs.walk.next_child.Goals as goal

pub returns-then-b-entry-clause-err : goal.returns-then-b-entry-clause-err
returns-then-b-entry-clause-err c h =
    let byte = c.byte_before_at-byte.ensures in
    let low = c.if-b-entry.true in
    let here = ap (child_byte c.args.b.now) c.child_entry_at-entry.ensures.place in
    omega (arith, byte, low, here, h)

pub returns-then-b-entry-clause-fault : goal.returns-then-b-entry-clause-fault
returns-then-b-entry-clause-fault c levels from limit =
    let byte = c.byte_before_at-byte.ensures in
    let low = c.if-b-entry.true in
    (c.args.i, c.requires.below, c.child_entry_at-entry.ensures.place, λ h. omega (arith, byte, low, h))

pub returns-clause-ok : goal.returns-clause-ok
returns-clause-ok c =
    let byte = c.byte_before_at-byte.ensures in
    let high = c.if-b-entry.false in
    let here = ap (child_byte c.args.b.now) c.child_entry_at-entry.ensures.place in
    omega (arith, byte, high, here)
