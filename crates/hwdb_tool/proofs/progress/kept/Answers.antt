use Rattle.std.proofs.Common.{ap, length}
use Rattle.hwdb_databases.specs.Views.{assignment_of}
use Rattle.hwdb_tool.proofs.ProgressLemmas.{kept_count}
use Rattle.hwdb_tool.proofs.progress.kept.Goals as goal

pub returns-in_ok-all-in-Ok : goal.returns-in_ok-all-in-Ok
returns-in_ok-all-in-Ok c =
    kept_count assignment_of c.args.database.now _ _ _ c.members_are_the_map.ensures c.law_ascending.ensures c.law_one_tree.ensures
    c.in-Ok.ensures.accepted c.in_ok-all-in-Ok.ensures.list (ap length c.as_slice.ensures.value)
