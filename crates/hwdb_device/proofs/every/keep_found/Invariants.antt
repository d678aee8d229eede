use Rattle.std.proofs.Common.{◌≡◌, drop, map}
use Rattle.hwdb_spec_commands.specs.AllStrings.{with_texts}
use Rattle.hwdb_spec_commands.specs.DeviceTexts.{text_of}
use Rattle.hwdb_device.proofs.every.keep_found.Given as goal
use Rattle.hwdb_device.specs.Views.{all_found}

abbrev pub invariant-loop-one : goal.invariant-loop-one
invariant-loop-one l = with_texts (map (λ k. k.items) l.kept.items) (map text_of (all_found (drop l.one-index l.found))) ≡ with_texts (map (λ k. k.items) l.fn.kept.items) (map text_of (all_found l.found))
