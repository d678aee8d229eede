use Rattle.std.proofs.Common.{◌∙◌, rules}
use Rattle.hwdb_replace.proofs.StepLemmas.{created, elapses_on_step}
use Rattle.hwdb_replace.proofs.memory.MemoryStore.create_new.Goals as goal

pub returns-in_ok-take-in-Ok-Some : goal.returns-in_ok-take-in-Ok-Some
returns-in_ok-take-in-Ok-Some c =
    let xs = c.args.self.now.steps.items in
    let ys = c.take.new.self.steps.items in
    let took = c.in_ok-take-in-Ok-Some.ensures in
    let made = created xs ys c.in-Ok-Some.step took.taken _ c.deref.result.now _
    (c.deref.ensures.value ∙ c.in-Ok.ensures) (took.part ∙ c.in-Ok.ensures) (rw c.in-Ok-Some.field-0-is at c.in-Ok-Some.ensures) in
    record {
      folder = search rules;
      own = search rules;
      made = λ _ _. (made.0.1, made.0.2.there);
      seen = λ _. made.0;
      crash = made.1;
      time = elapses_on_step xs ys c.in-Ok-Some.step took.taken;
      cause = search rules;
    }
