use Rattle.std.proofs.Common.{rules, subst}
use Rattle.hwdb_replace.specs.Memory.{IsSync, is_whole_of}
use Rattle.hwdb_replace.proofs.StepLemmas.{Took, took, time_of, elapses_same, sync_whole, sync_seen, sync_crash}
use Rattle.hwdb_replace.proofs.memory.MemoryStore.sync.Goals as goal

pub returns-in_err-take-clause-time : goal.returns-in_err-take-clause-time
returns-in_err-take-clause-time c = elapses_same c.args.self.now.steps.items c.take.new.self.steps.items c.in_err-take.ensures.same

pub returns : goal.returns
returns c =
    let xs = c.args.self.now.steps.items in
    let ys = c.take.new.self.steps.items in
    let part = c.args.self.now.part.items in
    let s : Took xs ys (λ s. IsSync s part) = took _ _ _ _ c.in_ok-take.ensures.taken c.synced-step.ensures in
    record {
      whole = sync_whole _ _ s.0 s.1 _ s.2;
      own = search rules;
      own_whole = λ p is. subst (is_whole_of ys) is (sync_whole _ _ s.0 s.1 _ s.2);
      own_seen = λ _. sync_seen _ _ s.0 s.1 _ s.2 part;
      seen = λ _. sync_seen _ _ s.0 s.1 _ s.2;
      part = search rules;
      crash = sync_crash _ _ s.0 s.1 _ s.2;
      time = time_of xs ys c.synced-step.result c.in_ok-take.ensures.taken;
      cause = search rules;
    }
