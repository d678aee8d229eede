use Rattle.std.proofs.Common.{inl, length}
use Rattle.std.proofs.lemmas.Result.{on_ok_weaker}
use Rattle.hwdb_spec.specs.Store.{database_file, database_name, path_in}
use Rattle.hwdb_replace.proofs.OthersLemmas.{old_ours_or_theirs, ours_or_theirs, was_put}
use Rattle.hwdb_replace.proofs.others.replace_beside.Goals as goal

pub returns-clause-moments : goal.returns-clause-moments
returns-clause-moments g c = λ v left.
    old_ours_or_theirs g.O.Others.whole c.args.folder.now c.args.bytes.now c.args.store.now.memory.steps.items v
    ((c.replace.ensures.shared tt).each (path_in c.args.folder.now database_name) v (inl left))

pub returns-clause-last : goal.returns-clause-last
returns-clause-last g c =
    on_ok_weaker c.replace.result (λ last v left. ours_or_theirs g.O.Others.whole c.args.folder.now c.args.bytes.now c.args.store.now.memory.steps.items v (last v (inl left))) (c.replace.ensures.shared_last tt)

pub returns-clause-put : goal.returns-clause-put
returns-clause-put g c =
    on_ok_weaker c.replace.result
    (was_put g.O.Others.whole c.args.folder.now c.args.bytes.now c.replace.new.store.memory.steps.items (length c.args.store.now.memory.steps.items) (database_file c.args.bytes.now))
    (c.replace.ensures.shared_put tt)
