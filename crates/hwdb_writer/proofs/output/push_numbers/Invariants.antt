use Rattle.std.proofs.Common.{◌≡◌, ◌++◌, drop}
use Rattle.std.specs.Prelude.{flat_map}
use Rattle.byteorder.specs.Endian.{little_bytes}
use Rattle.hwdb_writer.proofs.output.push_numbers.Given as goal

abbrev pub invariant-loop-n : goal.invariant-loop-n
invariant-loop-n l = l.out.items ++ flat_map (little_bytes 8) (drop l.n-index l.numbers) ≡ l.initial.out.items ++ flat_map (little_bytes 8) l.numbers
