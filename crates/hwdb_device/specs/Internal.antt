-- What the proofs of this crate speak of.
use Rattle.std.specs.Prelude.{Bool, List, ℕ}
use Rattle.hwdb_spec_commands.specs.Lookups.{is_one, is_set}
use Rattle.hwdb_device.specs.declared.kinds.Test.{Test}
use Rattle.hwdb_device.specs.declared.kinds.Test.TheVariants as test

-- what is asked of a value
abbrev pub test_of : Test → List ℕ → Bool
test_of test.Set = is_set
test_of test.One = is_one
