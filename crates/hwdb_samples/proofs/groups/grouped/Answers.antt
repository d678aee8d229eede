use Rattle.std.proofs.Common.{[]}
use Rattle.hwdb_samples.specs.Groups.{rules_at}
use Rattle.hwdb_samples.proofs.GroupLemmas.{none_at}
use Rattle.hwdb_samples.proofs.groups.grouped.Goals as goal

pub returns : goal.returns
returns c = λ key. c.in_ok-add_all-2.ensures key (rules_at key c.args.old.now, []) (c.in_ok-add_all.ensures key ([], []) (none_at c.new-groups.result c.new-groups.ensures key))
