-- When each error of summing up a database comes. Our choice.
use Rattle.std.specs.Prelude.{List, ℕ}
use Rattle.hwdb_spec.specs.declared.errors.VerifyError.{VerifyError}
use Rattle.hwdb_spec.specs.declared.errors.VerifyError.TheVariants.{Database, Memory}
use Rattle.hwdb_spec_commands.specs.Databases.{IsNoDatabase}

-- when each error of `verify` comes
abbrev pub IsVerifyRefusal : (bytes : List ℕ) → VerifyError → Type 0
IsVerifyRefusal bytes (Database fault) = IsNoDatabase bytes fault
IsVerifyRefusal bytes Memory = Unit {0}
