use Rattle.std.proofs.Common.{◌≡◌, ◌++◌, List, map, take, ℕ}
use Rattle.hwdb_samples.specs.Views.{sample_texts}
use Rattle.hwdb_databases.proofs.sampling.push_devices.Given as goal

abbrev pub invariant-loop-sample : goal.invariant-loop-sample
invariant-loop-sample l = map (λ t. t.items) l.devices.items ≡ map (λ t. t.items) l.fn.devices.items ++ map (λ (s : List ℕ × List ℕ). s.1) (map sample_texts (take l.sample-index l.shown))
