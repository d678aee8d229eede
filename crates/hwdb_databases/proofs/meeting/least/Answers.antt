use Rattle.std.proofs.Common.{ap, IfSome, List, Option, subst}
use Rattle.hwdb_reader.specs.Unread.{IsFrom, new_file, old_file}
use Rattle.hwdb_reader.specs.declared.unread.UnreadEntry.{UnreadEntry}
use Rattle.hwdb_spec.specs.Assignment.{Assignment}
use Rattle.hwdb_databases.specs.Internal.Merging.{merged}
use Rattle.hwdb_databases.proofs.MeetingLemmas.{alone_new, alone_old, none_left}
use Rattle.hwdb_databases.proofs.meeting.least.Goals as goal

pub returns-in-None-None-clause-none : goal.returns-in-None-None-clause-none
unfolding merged
returns-in-None-None-clause-none c =
    let old = none_left c.args.old.now c.requires.old_walk.0 c.requires.old_walk.1 c.requires.old_end c.in-None-None.is-0 in
    let new = none_left c.args.new.now c.requires.new_walk.0 c.requires.new_walk.1 c.requires.new_end c.in-None-None.is-1 in
    ap (λ (g : List Assignment × List Assignment). merged g.0 g.1) (λ i. (old i, new i))

pub returns-in-None-Some-clause-met : goal.returns-in-None-Some-clause-met
returns-in-None-Some-clause-met c =
    alone_new c.args.old.now c.args.new.now c.in-None-Some.y (none_left c.args.old.now c.requires.old_walk.0 c.requires.old_walk.1 c.requires.old_end c.in-None-Some.is-0)

pub returns-in-Some-None-clause-met : goal.returns-in-Some-None-clause-met
returns-in-Some-None-clause-met c =
    alone_old c.args.old.now c.args.new.now c.in-Some-None.x (none_left c.args.new.now c.requires.new_walk.0 c.requires.new_walk.1 c.requires.new_end c.in-Some-None.is-1)

pub returns-in-None-Some-clause-files : goal.returns-in-None-Some-clause-files
returns-in-None-Some-clause-files c = subst (λ (o : Option UnreadEntry). IfSome o (IsFrom (new_file c.args.twins.now))) c.in-None-Some.is-1 c.requires.new_file

pub returns-in-Some-None-clause-files : goal.returns-in-Some-None-clause-files
returns-in-Some-None-clause-files c = subst (λ (o : Option UnreadEntry). IfSome o (IsFrom (old_file c.args.twins.now))) c.in-Some-None.is-0 c.requires.old_file

pub lesser-requires-clause-old_file : goal.lesser-requires-clause-old_file
lesser-requires-clause-old_file c = subst (λ (o : Option UnreadEntry). IfSome o (IsFrom (old_file c.args.twins.now))) c.in-Some-Some.is-0 c.requires.old_file

pub lesser-requires-clause-new_file : goal.lesser-requires-clause-new_file
lesser-requires-clause-new_file c = subst (λ (o : Option UnreadEntry). IfSome o (IsFrom (new_file c.args.twins.now))) c.in-Some-Some.is-1 c.requires.new_file
