use Rattle.std.proofs.Common.{◌≡◌, Some, rules, sym, ap, ◌∙◌}
use Rattle.hwdb_spec.specs.Store.{Stored, database_mode}
use Rattle.hwdb_replace.specs.Memory.{IsChange, seen_of}
use Rattle.hwdb_replace.proofs.StepLemmas.{Took, took, time_of, change_seen, change_others, change_crash, same_file}
use Rattle.hwdb_replace.proofs.memory.MemoryStore.set_mode.Goals as goal

pub returns : goal.returns
returns c =
    let xs = c.args.self.now.steps.items in
    let part = c.args.self.now.part.items in
    let s : Took xs c.take.new.self.steps.items
    (λ s. (f : Stored) × (seen_of xs part ≡ Some f) × IsChange s part (record { bytes = f.bytes; mode = database_mode })) =
    took _ _ _ _ c.in_ok-take.ensures.taken c.readable-step.ensures in
    record {
      own = search rules;
      set = λ _ f there. change_seen _ _ s.0 s.1 _ _ s.2.2
          ∙ ap (λ (g : Stored). Some (record { bytes = g.bytes; mode = database_mode })) (same_file _ _ (sym s.2.1 ∙ there));
      others = λ _. change_others _ _ s.0 s.1 _ _ s.2.2;
      part = search rules;
      crash = change_crash _ _ s.0 s.1 _ _ s.2.2;
      time = time_of xs c.take.new.self.steps.items c.readable-step.result c.in_ok-take.ensures.taken;
      cause = search rules;
    }
