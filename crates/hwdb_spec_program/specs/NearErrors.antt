-- What the program says of an error of `near`. Our choice.
use Rattle.std.specs.Prelude.{List, ℕ, [], ◌∷◌}
use Rattle.hwdb_spec.specs.declared.errors.NearError.{NearError}
use Rattle.hwdb_spec.specs.declared.errors.NearError.TheVariants as comparing
use Rattle.hwdb_spec.specs.declared.errors.ToolError.{ToolError}
use Rattle.hwdb_spec.specs.declared.errors.ToolError.TheVariants.{BadDatabase, Memory}

-- what the program says of an error of the comparison
abbrev pub error_of : NearError → ToolError
error_of (comparing.Database fault) = BadDatabase fault
error_of comparing.Memory = Memory
