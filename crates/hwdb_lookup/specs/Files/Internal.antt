-- What the proofs of this crate speak of.
use Rattle.std.specs.Prelude.{List, ℕ}
use Rattle.hwdb_reader.specs.Passes.Views.{pending}
use Rattle.hwdb_lookup.specs.declared.files.passes.Pass.{Pass}

-- the nodes that wait for their parents, the last first
abbrev pub waiting : Pass → List (ℕ × ℕ)
waiting pass = pending pass.offsets.items pass.heights.items pass.done
