use Rattle.std.proofs.Common.{◌≡◌, ◌++◌, map, take}
use Rattle.hwdb_samples.specs.Views.{own_text}
use Rattle.hwdb_databases.proofs.sampling.push_texts.Given as goal

abbrev pub invariant-loop-text : goal.invariant-loop-text
invariant-loop-text l = map (λ t. t.items) l.texts.items ≡ map (λ t. t.items) l.fn.texts.items ++ map own_text (take l.text-index l.more)
