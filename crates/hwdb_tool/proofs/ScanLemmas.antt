-- What a scan of a device leaves, as the end of its plan, and in the words of the program.
use Rattle.std.proofs.Common.{◌≡◌, ◌≢◌, ◌∙◌, ap, inl, refl, subst, sym, length, take, IfSome, List, None, Option, Result, Some, Ok, Err, ℕ}
use Rattle.std.proofs.Math.Seq.{take-append_seam}
use Rattle.std.specs.Io.KnownBytes.{Appends, Consumes}
use Rattle.hwdb_spec.specs.Failures.{HasFailed, OneFailed}
use Rattle.hwdb_spec.specs.declared.errors.ToolError.{ToolError}
use Rattle.hwdb_spec.specs.declared.errors.ToolError.TheVariants.{BadDatabase, BadPosition, Memory, Read, Replace, TooLarge, TooLong, TooManyFiles, TooManyLines, Write}
use Rattle.hwdb_spec_commands.specs.Runs.{Told}
use Rattle.hwdb_spec_commands.specs.ScanAsked.{most_scanned, scanned_path, scanned_text}
use Rattle.hwdb_spec_commands.specs.Told.{Reads}
use Rattle.hwdb_spec_commands.specs.declared.refusals.Refusal.{Refusal}
use Rattle.hwdb_spec_commands.specs.declared.refusals.Refusal.TheVariants as refusal
use Rattle.hwdb_plan.specs.Ended.{ScanStops, ScannedRead, ShowsEnd, outs}
use Rattle.hwdb_plan.specs.Plans.{Ends}
use Rattle.hwdb_plan.specs.Plans.End.{Scans}
use Rattle.hwdb_plan.specs.Scan.{scan_plan}
use Rattle.hwdb_scan.specs.Internal.{IsStoppedBy}
use Rattle.hwdb_scan.specs.Scanning.{IsScanError}
use Rattle.hwdb_tool.specs.Scanned.{IsUnscannedFor}

module _ (reads : Reads) (root device : List ℕ) (count : Option ℕ) (input_before input_now err before now : Told) where
  abbrev Shows : Result ℕ Refusal → Type 0
  Shows result = ShowsEnd reads (scan_plan root device count) input_before input_now (outs err before) (outs err now) result

  -- the keys of all events were told
  pub scan_done : IfSome input_before.bytes (λ bytes. Appends before.bytes now.bytes (scanned_text count bytes)) → now.failures ≡ before.failures → Shows (Ok 0)
  unfolding Ends
  scan_done taken unfailed = inl (Scans (scanned_path root device) count, refl, ((refl, record { unfailed = unfailed; taken = taken }), refl))

  abbrev Stops : Refusal → Type 0
  Stops r = ScanStops (scanned_path root device) count input_before input_now before now r

  shown : (r : Refusal) → Stops r → Shows (Err r)
  unfolding Ends
  shown r stops = inl (Scans (scanned_path root device) count, refl, (stops, refl))

  -- of all that was read, and so of the first bytes
  first_of : (bytes : List ℕ) (left : Option (List ℕ)) → (read : List ℕ) × Consumes (Some bytes) left read × Appends before.bytes now.bytes (scanned_text count read)
      → (n : ℕ) × Appends before.bytes now.bytes (scanned_text count (take n bytes))
  first_of bytes None (read, nope, taken) = absurd nope
  first_of bytes (Some rest) (read, parts, taken) =
      let same : take (length read) bytes ≡ read = ap (take (length read)) parts ∙ take-append_seam read rest in
      (length read, subst (λ (l : List ℕ). Appends before.bytes now.bytes (scanned_text count l)) (sym same) taken)

  some_read : (o : Option (List ℕ)) → IfSome o (λ bytes. (read : List ℕ) × Consumes (Some bytes) input_now.bytes read × Appends before.bytes now.bytes (scanned_text count read))
      → IfSome o (λ bytes. (n : ℕ) × Appends before.bytes now.bytes (scanned_text count (take n bytes)))
  some_read None taken = tt
  some_read (Some bytes) taken = first_of bytes input_now.bytes taken

  unread : (r : Refusal) → IsUnscannedFor root device r → HasFailed input_before.failures input_now.failures → ScannedRead count input_before.bytes before now input_now.bytes → Stops r
  unread (refusal.InWords text) said failed taken = (said, failed, taken)
  unread (refusal.Plain Memory) said failed taken = record { unfailed = taken.unfailed; taken = some_read input_before.bytes taken.taken }
  unread (refusal.Plain Read) said failed taken = absurd said
  unread (refusal.Plain Write) said failed taken = absurd said
  unread (refusal.Plain TooLong) said failed taken = absurd said
  unread (refusal.Plain TooManyLines) said failed taken = absurd said
  unread (refusal.Plain TooManyFiles) said failed taken = absurd said
  unread (refusal.Plain TooLarge) said failed taken = absurd said
  unread (refusal.Plain BadPosition) said failed taken = absurd said
  unread (refusal.Plain (BadDatabase f)) said failed taken = absurd said
  unread (refusal.Plain (Replace u)) said failed taken = absurd said
  unread (refusal.At e path cause) said failed taken = absurd said
  unread refusal.NoDatabase said failed taken = absurd said

  -- it ended with an error
  pub scan_stops : (e : ToolError) (r : Refusal) → IsScanError e → (e ≡ Read → IsUnscannedFor root device r) → (e ≢ Read → r ≡ refusal.Plain e)
      → IfSome input_before.bytes (λ bytes. IsStoppedBy most_scanned count bytes input_now.bytes before.bytes now.bytes e)
      → (e ≡ Read → HasFailed input_before.failures input_now.failures)
      → (e ≡ Write → OneFailed before.failures now.failures) × (e ≢ Write → now.failures ≡ before.failures) → Shows (Err r)
  scan_stops Read r is said other taken input output = shown r (unread r (said refl) (input refl) record { unfailed = output.1 (λ e. cc); taken = taken })
  scan_stops Write r is said other taken input output = shown r (subst Stops (sym (other (λ e. cc))) record { failed = output.0 refl; taken = taken })
  scan_stops Memory r is said other taken input output = shown r (subst Stops (sym (other (λ e. cc))) record { unfailed = output.1 (λ e. cc); taken = taken })
  scan_stops TooLong r is said other taken input output = absurd is
  scan_stops TooManyLines r is said other taken input output = absurd is
  scan_stops TooManyFiles r is said other taken input output = absurd is
  scan_stops TooLarge r is said other taken input output = absurd is
  scan_stops BadPosition r is said other taken input output = absurd is
  scan_stops (BadDatabase f) r is said other taken input output = absurd is
  scan_stops (Replace u) r is said other taken input output = absurd is
