-- What `test` prints of some test files over a database, and its status. Our choice.
use Rattle.std.specs.Prelude.{Bool, List, Option, ℕ, ◌≡◌}
use Rattle.hwdb_spec.specs.Folders.{Source}
use Rattle.hwdb_spec.specs.Format.{IsDatabase}
use Rattle.hwdb_spec.specs.Tree.{Tree}
use Rattle.hwdb_spec_commands.specs.Wanted.{test_status, test_text}

-- the bytes are a database, and this is what `test` prints of some test files over it, and its status
pub record IsVerdict (json : Bool) (sources : List Source) (status : ℕ) (bytes text : List ℕ) : Type 0 where
  pub tree : Tree
  pub database : IsDatabase bytes tree
  pub is : text ≡ test_text json sources tree
  pub says : status ≡ test_status sources tree
