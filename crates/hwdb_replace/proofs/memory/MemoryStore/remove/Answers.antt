use Rattle.std.proofs.Common.{rules}
use Rattle.hwdb_spec.specs.Store.{path_in}
use Rattle.hwdb_replace.specs.Memory.{IsRemoval}
use Rattle.hwdb_replace.proofs.StepLemmas.{Took, took, time_of, elapses_same, removal_seen, removal_crash}
use Rattle.hwdb_replace.proofs.memory.MemoryStore.remove.Goals as goal

pub returns-in_err-take-clause-time : goal.returns-in_err-take-clause-time
returns-in_err-take-clause-time c = elapses_same c.args.self.now.steps.items c.take.new.self.steps.items c.in_err-take.ensures.same

pub returns : goal.returns
returns c =
    let xs = c.args.self.now.steps.items in
    let ys = c.take.new.self.steps.items in
    let s : Took xs ys (λ s. IsRemoval s (path_in c.args.folder.now c.args.name.now)) =
    took _ _ _ _ c.in_ok-take.ensures.taken c.removed-step.ensures in
    record {
      seen = λ _. removal_seen _ _ s.0 s.1 _ s.2;
      crash = removal_crash _ _ s.0 s.1 _ s.2;
      time = time_of xs ys c.removed-step.result c.in_ok-take.ensures.taken;
      cause = search rules;
    }
