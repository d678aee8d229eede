use Rattle.hwdb_writer.proofs.RecordLemmas.{none_done, one_done, all_done, known, few, room, enough, own_values}
use Rattle.hwdb_writer.proofs.records.push_records.Goals as goal

pub loop-node-init : goal.loop-node-init
loop-node-init c = λ place es ns r. none_done place c.args.places.now es ns c.args.nodes.now c.args.values.now r c.args.out.now.items _ c.new-children.ensures.items

pub loop-node-preserved : goal.loop-node-preserved
loop-node-preserved c = λ place es ns r.
    one_done place c.args.places.now es ns c.args.nodes.now c.args.values.now r c.loop-node.node-index _ c.loop-node-test.true c.args.out.now.items c.loop-node.out.items c.loop-node.children.items c.loop-node.rest.now (c.loop-node.invariant place es ns r)
    c.split_at.result.0.now c.split_at.result.1.now c.split_at.ensures.front c.split_at.ensures.back c.push_record.new.out.items c.push_record.new.children.items
    (c.in_ok-push_record.ensures.record place _ (own_values place c.args.places.now es ns c.args.nodes.now c.args.values.now r c.loop-node.node-index _ c.loop-node-test.true c.args.out.now.items c.loop-node.out.items c.loop-node.children.items c.loop-node.rest.now (c.loop-node.invariant place es ns r) c.split_at.result.0.now c.split_at.ensures.front)) c.in_ok-push_record.ensures.entry

pub split_at-requires : goal.split_at-requires
split_at-requires c =
    enough c.requires.0 c.args.places.now c.requires.1 c.requires.2 c.args.nodes.now c.args.values.now c.requires.3 c.loop-node.node-index _ c.loop-node-test.true c.args.out.now.items c.loop-node.out.items c.loop-node.children.items c.loop-node.rest.now (c.loop-node.invariant c.requires.0 c.requires.1 c.requires.2 c.requires.3)

pub push_record-requires : goal.push_record-requires
push_record-requires c =
    record {
      known = known c.requires.0 c.args.places.now c.requires.1 c.requires.2 c.args.nodes.now c.args.values.now c.requires.3 c.loop-node.node-index _ c.loop-node-test.true c.args.out.now.items c.loop-node.out.items c.loop-node.children.items c.loop-node.rest.now (c.loop-node.invariant c.requires.0 c.requires.1 c.requires.2 c.requires.3);
      values = (c.requires.0, _, own_values c.requires.0 c.args.places.now c.requires.1 c.requires.2 c.args.nodes.now c.args.values.now c.requires.3 c.loop-node.node-index _ c.loop-node-test.true c.args.out.now.items c.loop-node.out.items c.loop-node.children.items c.loop-node.rest.now (c.loop-node.invariant c.requires.0 c.requires.1 c.requires.2 c.requires.3) c.split_at.result.0.now c.split_at.ensures.front);
      room = room c.requires.0 c.args.places.now c.requires.1 c.requires.2 c.args.nodes.now c.args.values.now c.requires.3 c.loop-node.node-index _ c.loop-node-test.true c.args.out.now.items c.loop-node.out.items c.loop-node.children.items c.loop-node.rest.now (c.loop-node.invariant c.requires.0 c.requires.1 c.requires.2 c.requires.3);
      few = few c.requires.0 c.args.places.now c.requires.1 c.requires.2 c.args.nodes.now c.args.values.now c.requires.3 c.loop-node.node-index _ c.loop-node-test.true c.args.out.now.items c.loop-node.out.items c.loop-node.children.items c.loop-node.rest.now (c.loop-node.invariant c.requires.0 c.requires.1 c.requires.2 c.requires.3);
    }

pub returns : goal.returns
returns c = λ place es ns r.
    all_done place c.args.places.now es ns c.args.nodes.now c.args.values.now r c.loop-node.node-index c.loop-node-test.false c.args.out.now.items c.loop-node.out.items c.loop-node.children.items c.loop-node.rest.now
    (c.loop-node.invariant place es ns r)
