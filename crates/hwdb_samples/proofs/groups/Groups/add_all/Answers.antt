use Rattle.std.proofs.Common.{refl}
use Rattle.hwdb_samples.proofs.GroupLemmas.{adds_more, adds_whole}
use Rattle.hwdb_samples.proofs.groups.Groups.add_all.Goals as goal

pub loop-property-preserved : goal.loop-property-preserved
loop-property-preserved c =
    adds_more c.args.self.now c.loop-property.self c.add.new.self c.args.side c.args.list.now c.loop-property.property-index _ _ c.loop-property-test.true refl
    c.loop-property.invariant c.in_ok-add.ensures

pub returns : goal.returns
returns c = adds_whole c.args.self.now c.loop-property.self c.args.side c.args.list.now c.loop-property.property-index c.loop-property-test.false c.loop-property.invariant
