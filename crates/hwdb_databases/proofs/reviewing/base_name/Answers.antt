use Rattle.std.proofs.Common.{◌+◌, ◌∙◌}
use Rattle.std.proofs.lemmas.List.{take_rest}
use Rattle.hwdb_databases.proofs.ReviewLemmas.{named_after, named_whole}
use Rattle.hwdb_databases.proofs.reviewing.base_name.Goals as goal

pub returns-in-Some : goal.returns-in-Some
returns-in-Some c =
    let found = rw c.in-Some.is at c.memrchr.ensures in
    take_rest c.args.path.now (c.in-Some.at + 1) ∙ named_after c.args.path.now c.in-Some.at found.0.high found.1 found.0.after

pub returns-in-None : goal.returns-in-None
returns-in-None c = named_whole c.args.path.now (rw c.in-None.is at c.memrchr.ensures)
