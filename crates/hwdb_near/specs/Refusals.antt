-- The errors of comparing a device with a database's patterns. Our choice.
use Rattle.std.specs.Prelude.{List, ℕ}
use Rattle.hwdb_spec.specs.declared.errors.NearError.{NearError}
use Rattle.hwdb_spec.specs.declared.errors.NearError.TheVariants.{Database, Memory}
use Rattle.hwdb_spec_commands.specs.Databases.{IsNoDatabase}

-- when each error comes
abbrev pub IsNearRefusal : (bytes : List ℕ) → NearError → Type 0
IsNearRefusal bytes (Database fault) = IsNoDatabase bytes fault
IsNearRefusal bytes Memory = Unit {0}
