-- How many assignments there are, each once.
use Rattle.std.proofs.Common.{◌≡◌, ◌∙◌, ◌<◌, ◌-◌, ◌^◌, ap, arith, sym, List, length, map}
use Rattle.std.proofs.lemmas.List.{length-map}
use Rattle.hwdb_spec.specs.Assignment.{Assignment}
use Rattle.hwdb_spec_commands.specs.Once.{once}
use Rattle.hwdb_spec.specs.Folders.{within_64_bits}
use Rattle.hwdb_near.specs.Views.{assignment_of}
use Rattle.hwdb_near.specs.declared.wanted.FileAssignment.{FileAssignment}

pub counted_is : (slice each : List FileAssignment) (all : List Assignment) → slice ≡ each → map assignment_of each ≡ once all → length slice < 2 ^ 64 → length slice ≡ within_64_bits (length (once all))
counted_is slice each all same is fits =
    let size : length slice ≡ length (once all) = ap length same ∙ sym (length-map each assignment_of) ∙ ap length is in
    omega (arith, size, fits)
