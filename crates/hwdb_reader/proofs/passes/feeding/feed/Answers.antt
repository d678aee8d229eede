use Rattle.std.proofs.Common.{◌<◌, ◌-◌, length, arith}
use Rattle.hwdb_reader.proofs.passes.NodeLemmas.{record_room}
use Rattle.hwdb_reader.proofs.passes.feeding.feed.Goals as goal

pub loop-end-smaller : goal.loop-end-smaller
loop-end-smaller c =
    let last = c.in-Some.ensures.0.1 in
    let is = c.in-Some.ensures.1 in
    let room = record_room c.args.o.frame.sizes c.args.piece.now c.loop-end.off c.args.o.frame.node_fields in
    let less : length c.args.piece.now - c.in-Some.end < length c.args.piece.now - c.loop-end.off = omega (arith, last, is, room) in
    less
