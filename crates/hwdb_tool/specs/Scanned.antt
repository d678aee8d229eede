-- The error if what `scan` is asked for can't be read.
use Rattle.std.specs.Prelude.{ℕ, List}
use Rattle.hwdb_spec.specs.declared.errors.ToolError.TheVariants.{Memory}
use Rattle.hwdb_spec_commands.specs.ScanAsked.{scanned_path}
use Rattle.hwdb_spec_commands.specs.declared.refusals.Refusal.{Refusal}
use Rattle.hwdb_spec_commands.specs.declared.refusals.Refusal.TheVariants.{InWords, Plain}
use Rattle.hwdb_plan.specs.Ended.{IsUnscanned}

-- it says so of the device below the root, or that there was no memory
abbrev pub IsUnscannedFor : (root device : List ℕ) → Refusal → Type 0
IsUnscannedFor root device (InWords text) = IsUnscanned (scanned_path root device) text.items
IsUnscannedFor root device (Plain Memory) = Unit {0}
IsUnscannedFor root device r = ⊥
