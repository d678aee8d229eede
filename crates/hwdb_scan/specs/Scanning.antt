-- What a scan of a source leaves.
use Rattle.std.specs.Io.KnownBytes.{Appends}
use Rattle.std.specs.Prelude.{ℕ, List, MatchResult, Option, Result}
use Rattle.hwdb_spec.specs.declared.errors.ToolError.{ToolError}
use Rattle.hwdb_spec.specs.declared.errors.ToolError.TheVariants.{Memory, Read, Write}
use Rattle.hwdb_spec_commands.specs.ScanAsked.{most_scanned, scanned_text}
use Rattle.hwdb_scan.specs.Internal.{IsStoppedBy}

-- the errors of a scan
abbrev pub IsScanError : ToolError → Type 0
IsScanError Read = Unit {0}
IsScanError Write = Unit {0}
IsScanError Memory = Unit {0}
IsScanError e = ⊥

-- what was taken by the end of a scan, if the source had these bytes: the lines of all of them, or those before an error
abbrev pub IsScanned : (count : Option ℕ) (bytes : List ℕ) (left out_before out_now : Option (List ℕ)) → Result Unit ToolError → Type 0
IsScanned count bytes left out_before out_now result =
    MatchResult result (λ done. Appends out_before out_now (scanned_text count bytes)) (IsStoppedBy most_scanned count bytes left out_before out_now)
