use Rattle.std.proofs.Common.{◌∙◌, ap, sym, ◌++◌}
use Rattle.std.specs.List.{list_any}
use Rattle.hwdb_spec.specs.Folders.{same}
use Rattle.hwdb_check.specs.Internal.{last_texts, texts}
use Rattle.hwdb_check.proofs.RepeatLemmas.{put_alike}
use Rattle.hwdb_check.proofs.repeats.Run.settle.Goals as goal

pub returns-in_ok-insert-clause-above : goal.returns-in_ok-insert-clause-above
returns-in_ok-insert-clause-above c = λ t.
    let ks = c.args.self.now.above.keys in
    put_alike c.in-Some.last ks c.insert.new.self.keys c.in_ok-insert.ensures.keys t ∙ ap (λ o. list_any (same t) (last_texts o ++ texts ks)) (sym c.in-Some.is)
