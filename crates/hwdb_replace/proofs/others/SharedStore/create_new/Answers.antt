use Rattle.std.proofs.Common.{inl}
use Rattle.hwdb_spec.specs.Store.{path_in}
use Rattle.hwdb_replace.proofs.OthersLemmas.{made_with, time_with}
use Rattle.hwdb_replace.proofs.others.SharedStore.create_new.Goals as goal

pub returns-clause-crash : goal.returns-clause-crash
returns-clause-crash g c =
    made_with c.wait.ensures.went (path_in c.args.folder.now c.args.name.now) c.create_new.new.self.steps.items
    c.create_new.result c.create_new.ensures.crash

pub returns-clause-time : goal.returns-clause-time
returns-clause-time g c = time_with c.wait.ensures.went c.create_new.new.self.steps.items _ _ c.create_new.ensures.time (λ p v l. inl l)
