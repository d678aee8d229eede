use Rattle.std.proofs.Common.{◌≡◌, inl, rules, sym, Some}
use Rattle.hwdb_spec.specs.Store.{Stored, path_in}
use Rattle.hwdb_spec.specs.Crashes.{begin}
use Rattle.hwdb_replace.specs.Memory.{IsMove, seen_of, state_of}
use Rattle.hwdb_replace.proofs.StepLemmas.{Took, took, time_of, elapses_same, move_seen, move_undone, move_whole, move_crash}
use Rattle.hwdb_replace.proofs.memory.MemoryStore.rename.Goals as goal

pub returns-in_err-take-clause-time : goal.returns-in_err-take-clause-time
returns-in_err-take-clause-time c = elapses_same c.args.self.now.steps.items c.take.new.self.steps.items c.in_err-take.ensures.same

pub returns : goal.returns
returns c =
    let xs = c.args.self.now.steps.items in
    let from = path_in c.args.folder.now c.args.from.now in
    let to = path_in c.args.folder.now c.args.to.now in
    let s : Took xs c.take.new.self.steps.items
    (λ s. (f : Stored) × (seen_of xs from ≡ Some f) × IsMove s from to f (state_of from begin xs).loose) =
    took _ _ _ _ c.in_ok-take.ensures.taken c.renamed-step.ensures in
    let moved = move_seen _ _ s.0 s.1 _ _ s.2.0 s.2.1 s.2.2 in
    record {
      own = tt;
      there = λ _. moved.there;
      put = λ _. inl (sym moved.there);
      seen = λ _. moved;
      whole = move_whole _ _ s.0 s.1 _ _ s.2.0 s.2.1 s.2.2;
      undone = λ _. move_undone _ _ s.0 s.1 _ _ s.2.0 s.2.1 s.2.2;
      crash = move_crash _ _ s.0 s.1 _ _ s.2.0 s.2.1 s.2.2;
      time = time_of xs c.take.new.self.steps.items c.renamed-step.result c.in_ok-take.ensures.taken;
      cause = search rules;
    }
