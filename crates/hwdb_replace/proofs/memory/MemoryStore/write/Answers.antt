use Rattle.std.proofs.Common.{◌≡◌, ◌++◌, Some, rules, sym, ap, ◌∙◌, take}
use Rattle.hwdb_spec.specs.Store.{Stored}
use Rattle.hwdb_replace.specs.Memory.{IsChange, seen_of}
use Rattle.hwdb_replace.proofs.StepLemmas.{Took, took, time_of, elapses_same, change_seen, change_others, change_torn, change_crash, same_file}
use Rattle.hwdb_replace.proofs.memory.MemoryStore.write.Goals as goal

pub returns-in_err-take-clause-time : goal.returns-in_err-take-clause-time
returns-in_err-take-clause-time c = elapses_same c.args.self.now.steps.items c.take.new.self.steps.items c.in_err-take.ensures.same

pub returns : goal.returns
returns c =
    let xs = c.args.self.now.steps.items in
    let part = c.args.self.now.part.items in
    let bytes = take c.min-n.result c.args.buf.now in
    let s : Took xs c.take.new.self.steps.items
    (λ s. (f : Stored) × (seen_of xs part ≡ Some f) × IsChange s part (record { bytes = f.bytes ++ bytes; mode = f.mode })) =
    took _ _ _ _ c.in_ok-take.ensures.taken c.longer-step.ensures in
    record {
      bound = search rules;
      progress = search rules;
      own = search rules;
      written = λ _ f there. change_seen _ _ s.0 s.1 _ _ s.2.2
          ∙ ap (λ (g : Stored). Some (record { bytes = g.bytes ++ bytes; mode = g.mode })) (same_file _ _ (sym s.2.1 ∙ there));
      torn = λ _ left. change_torn _ _ s.0 s.1 _ _ s.2.2 left;
      others = λ _. change_others _ _ s.0 s.1 _ _ s.2.2;
      part = search rules;
      crash = change_crash _ _ s.0 s.1 _ _ s.2.2;
      time = time_of xs c.take.new.self.steps.items c.longer-step.result c.in_ok-take.ensures.taken;
      cause = search rules;
    }
