-- What a scan of a source has taken between two reads.
use Rattle.std.specs.Io.KnownBytes.{Appends, Consumes}
use Rattle.std.specs.Prelude.{◌≡◌, ◌+◌, ℕ, List, Option, Some, length, take}
use Rattle.hwdb_spec.specs.Outputs.{AppendsPrefix}
use Rattle.hwdb_spec.specs.declared.errors.ToolError.{ToolError}
use Rattle.hwdb_spec.specs.declared.errors.ToolError.TheVariants.{Memory, Read, Write}
use Rattle.hwdb_spec_commands.specs.Scans.{scan_text}
use Rattle.hwdb_scan.specs.Views.{Scanning, after_bytes, bytes_text, start}

-- between two reads of a source, of which so many bytes are read at most: what was read, of which the lines are taken, and how much may be yet
pub record IsScanning (most : ℕ) (count : Option ℕ) (left_first left out_first out : Option (List ℕ)) (s : Scanning) (left_room : ℕ) : Type 0 where
  pub read : List ℕ
  pub consumed : Consumes left_first left read
  pub held : s ≡ after_bytes (start count) read
  pub taken : Appends out_first out (bytes_text (start count) read)
  pub room : length read + left_room ≡ most

-- an error after that, if the source had these bytes at first
abbrev pub IsStoppedBy : (most : ℕ) (count : Option ℕ) (bytes : List ℕ) (left out_before out_now : Option (List ℕ)) → ToolError → Type 0
IsStoppedBy most count bytes left out_before out_now Read =
    (read : List ℕ) × Consumes (Some bytes) left read × Appends out_before out_now (scan_text count (take most read))
IsStoppedBy most count bytes left out_before out_now Memory = (n : ℕ) × Appends out_before out_now (scan_text count (take most (take n bytes)))
IsStoppedBy most count bytes left out_before out_now Write = AppendsPrefix out_before out_now (scan_text count (take most bytes))
IsStoppedBy most count bytes left out_before out_now e = ⊥
