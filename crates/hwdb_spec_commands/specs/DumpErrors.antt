-- When each error of printing a database as text comes. Our choice.
use Rattle.std.specs.Prelude.{List, ℕ}
use Rattle.hwdb_spec.specs.declared.errors.DumpError.{DumpError}
use Rattle.hwdb_spec.specs.declared.errors.DumpError.TheVariants.{Database, Memory, Unsayable}
use Rattle.hwdb_spec.specs.Assignment.{Assignment}
use Rattle.hwdb_spec_commands.specs.Databases.{IsFirstUnsaid, IsNoDatabase, IsUnsayable}

-- when each error of `dump` comes
abbrev pub IsDumpRefusal : (bytes : List ℕ) → DumpError → Type 0
IsDumpRefusal bytes (Database fault) = IsNoDatabase bytes fault
IsDumpRefusal bytes (Unsayable pattern) = IsUnsayable bytes pattern.items
IsDumpRefusal bytes Memory = Unit {0}

-- when each error of the check of some assignments comes
abbrev pub IsUnsaidRefusal : List Assignment → DumpError → Type 0
IsUnsaidRefusal all (Database fault) = ⊥
IsUnsaidRefusal all (Unsayable pattern) = IsFirstUnsaid all pattern.items
IsUnsaidRefusal all Memory = Unit {0}
