use Rattle.hwdb_samples.proofs.GroupLemmas.{found_all, found_begun, found_one}
use Rattle.hwdb_samples.proofs.groups.Groups.samples.Goals as goal

pub loop-key-init : goal.loop-key-init
loop-key-init c = found_begun c.into_iter-key-iterator.result c.args.self.sides.entries c.new-list.result.items c.into_iter-key-iterator.ensures.into_iter_gives.0 c.new-list.ensures.items

pub loop-key-preserved : goal.loop-key-preserved
loop-key-preserved c =
    found_one c.loop-key.key-iterator c.next.new.self c.args.self.sides.entries c.loop-key.list.items c.push.new.self.items c.in-Some.key c.in-Some.sides c.in_ok-found.found
    c.in-Some.ensures.steps c.in_ok-push.ensures.items c.in_ok-found.ensures.key c.in_ok-found.ensures.found c.loop-key.invariant

pub returns : goal.returns
returns c = record {
  found = found_all c.loop-key.key-iterator c.args.self.sides.entries c.loop-key.list.items c.in-None.ensures.steps.0 c.loop-key.invariant;
  ascends = c.into_iter-key-iterator.ensures.into_iter_gives.5;
}
