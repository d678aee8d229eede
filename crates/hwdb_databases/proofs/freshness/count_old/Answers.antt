use Rattle.std.proofs.lemmas.Result.{on_ok_weaker}
use Rattle.hwdb_databases.proofs.InventoryLemmas.{held_after, held_before}
use Rattle.hwdb_databases.proofs.freshness.count_old.Goals as goal

pub add-requires-clause-last : goal.add-requires-clause-last
add-requires-clause-last c =
    let are = c.requires.last in
    held_before are.0 c.args.held.now c.in-Old.x are.2 (rw c.in-Old.is at are.3)

pub add-requires-in-Both-clause-last : goal.add-requires-in-Both-clause-last
add-requires-in-Both-clause-last c =
    let are = c.requires.last in
    held_before are.0 c.args.held.now c.in-Both.x are.2 (rw c.in-Both.is at are.3).0

pub returns-in-Old-clause-last : goal.returns-in-Old-clause-last
returns-in-Old-clause-last c =
    on_ok_weaker c.add.result (λ held f g before are. held_after f c.add.new.self c.in-Old.x held (rw c.in-Old.is at are)) c.add.ensures.last

pub returns-in-Both-clause-last : goal.returns-in-Both-clause-last
returns-in-Both-clause-last c =
    on_ok_weaker c.add-in-Both.result (λ held f g before are. held_after f c.add-in-Both.new.self c.in-Both.x held (rw c.in-Both.is at are).0) c.add-in-Both.ensures.last
