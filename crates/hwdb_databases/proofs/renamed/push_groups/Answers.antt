use Rattle.std.proofs.Common.{arith}
use Rattle.hwdb_spec_commands.specs.Renamed.{text_among}
use Rattle.hwdb_databases.proofs.RenamedLemmas.{groups_told_all, groups_told_more}
use Rattle.hwdb_databases.proofs.renamed.push_groups.Goals as goal

pub loop-group-preserved : goal.loop-group-preserved
loop-group-preserved c = λ all of.
    groups_told_more (text_among all) c.args.groups.now c.loop-group.group-index c.group-item.result c.args.text.now.items c.loop-group.text.items c.push_group.new.text.items c.loop-group-test.true c.group-item.is
    (c.loop-group.invariant all of) (c.in_ok-push_group.ensures all of)

pub returns : goal.returns
returns c = λ all of. groups_told_all (text_among all) c.args.groups.now c.loop-group.group-index c.args.text.now.items c.loop-group.text.items c.loop-group-test.false (c.loop-group.invariant all of)
