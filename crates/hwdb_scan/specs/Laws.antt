-- What is proved of a scanner's definitions alone.
use Rattle.std.specs.Prelude.{◌≡◌, ◌++◌, ℕ, List, Option}
use Rattle.hwdb_spec_commands.specs.Scans.{scan_text}
use Rattle.hwdb_scan.specs.Views.{Scanning, after_bytes, bytes_text, start}

-- Bytes that come in two pieces are the same as if they come at once: what is added, and what is held after them.
pub record InPieces (s : Scanning) (one other : List ℕ) : Type 0 where
  pub text : bytes_text s (one ++ other) ≡ bytes_text s one ++ bytes_text (after_bytes s one) other
  pub held : after_bytes s (one ++ other) ≡ after_bytes (after_bytes s one) other

-- what is added from the first byte on is what is printed of all bytes
abbrev pub AtOnce : Type 0
AtOnce = (count : Option ℕ) (bytes : List ℕ) → bytes_text (start count) bytes ≡ scan_text count bytes
