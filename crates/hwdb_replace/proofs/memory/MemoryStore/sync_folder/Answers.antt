use Rattle.std.proofs.Common.{inl}
use Rattle.hwdb_spec.specs.Store.{path_in}
use Rattle.hwdb_replace.specs.declared.memory.Step.TheVariants.{Kept}
use Rattle.hwdb_replace.proofs.StepLemmas.{elapses_on_step, kept_durable, kept_seen, kept_crash}
use Rattle.hwdb_replace.proofs.memory.MemoryStore.sync_folder.Goals as goal

pub returns-clause-durable : goal.returns-clause-durable
returns-clause-durable c = λ _ name whole v left. kept_durable c.args.self.now.steps.items c.take.new.self.steps.items c.in_ok-take.ensures.taken (path_in c.args.arg2.now name) whole v left

pub returns-clause-seen : goal.returns-clause-seen
returns-clause-seen c = λ _ p. kept_seen c.args.self.now.steps.items c.take.new.self.steps.items c.in_ok-take.ensures.taken p

pub returns-clause-crash : goal.returns-clause-crash
returns-clause-crash c = kept_crash c.args.self.now.steps.items c.take.new.self.steps.items c.in_ok-take.ensures.taken

pub returns-clause-time : goal.returns-clause-time
returns-clause-time c = elapses_on_step c.args.self.now.steps.items c.take.new.self.steps.items Kept c.in_ok-take.ensures.taken

pub returns-clause-last : goal.returns-clause-last
returns-clause-last c = λ _ name whole v left. inl (kept_durable c.args.self.now.steps.items c.take.new.self.steps.items c.in_ok-take.ensures.taken (path_in c.args.arg2.now name) whole v left)
