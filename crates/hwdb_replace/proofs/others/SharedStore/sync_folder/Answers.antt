use Rattle.std.proofs.Common.{inl}
use Rattle.std.proofs.lemmas.Result.{on_ok_weaker}
use Rattle.hwdb_spec.specs.Store.{path_in}
use Rattle.hwdb_replace.proofs.OthersLemmas.{last_with, no_more_with, time_with}
use Rattle.hwdb_replace.proofs.others.SharedStore.sync_folder.Goals as goal

pub returns-clause-crash : goal.returns-clause-crash
returns-clause-crash g c = no_more_with c.wait.ensures.went c.sync_folder.new.self.steps.items c.sync_folder.ensures.crash

pub returns-clause-time : goal.returns-clause-time
returns-clause-time g c = time_with c.wait.ensures.went c.sync_folder.new.self.steps.items _ _ c.sync_folder.ensures.time (λ p v l. inl l)

pub returns-clause-last : goal.returns-clause-last
returns-clause-last g c = λ t.
    on_ok_weaker c.sync_folder.result
    (λ always name whole v left. last_with c.wait.ensures.went (path_in c.args.folder.now name) c.sync_folder.new.self.steps.items
    (λ here v l. always name here v l) whole v left)
    (c.sync_folder.ensures.durable tt)
