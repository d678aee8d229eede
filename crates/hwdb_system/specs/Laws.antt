-- What two errors of reading text files have in common.
use Rattle.std.specs.Prelude.{◌≡◌, ◌<◌, List, Option, Some, Vec, length, ℕ}
use Rattle.std.specs.Global.{Global}
use Rattle.hwdb_spec.specs.declared.causes.Cause.{Cause}
use Rattle.hwdb_spec_commands.specs.Reading.{IsFirstUnread}
use Rattle.hwdb_spec_commands.specs.declared.refusals.Refusal.{Refusal}
use Rattle.hwdb_spec_commands.specs.declared.refusals.Refusal.TheVariants.{At}
use Rattle.hwdb_spec.specs.Folders.{Choice}
use Rattle.hwdb_spec.specs.Store.{Contents}
use Rattle.hwdb_spec.specs.System.{bytes_at}
use Rattle.hwdb_spec.specs.Texts.{max_file}
use Rattle.hwdb_spec.specs.declared.errors.ToolError.TheVariants.{TooLong}

-- the error says that the file at this path is too long, and so it is
pub record IsLongAt (contents : Contents) (path : List ℕ) (refusal : Refusal) : Type 0 where
  pub at : Vec ℕ Global
  pub cause : Option Cause
  pub is : refusal ≡ At TooLong at cause
  pub named : at.items ≡ path
  pub bytes : List ℕ
  pub there : bytes_at contents path ≡ Some bytes
  pub long : max_file < length bytes

-- of two errors, each of which may come of the same files, both name one path
abbrev pub FirstLongFileIsNamed : Type 0
FirstLongFileIsNamed =
    (root : List ℕ) (contents : Contents) (chosen : List Choice) (one other : Refusal) (path path2 : List ℕ)
    → IsFirstUnread root contents chosen one → IsFirstUnread root contents chosen other
    → IsLongAt contents path one → IsLongAt contents path2 other → path ≡ path2
