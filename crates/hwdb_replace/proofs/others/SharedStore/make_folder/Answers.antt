use Rattle.std.proofs.Common.{inl}
use Rattle.hwdb_replace.proofs.OthersLemmas.{no_more_with, time_with}
use Rattle.hwdb_replace.proofs.others.SharedStore.make_folder.Goals as goal

pub returns-clause-crash : goal.returns-clause-crash
returns-clause-crash g c = no_more_with c.wait.ensures.went c.make_folder.new.self.steps.items c.make_folder.ensures.crash

pub returns-clause-time : goal.returns-clause-time
returns-clause-time g c = time_with c.wait.ensures.went c.make_folder.new.self.steps.items _ _ c.make_folder.ensures.time (λ p v l. inl l)
