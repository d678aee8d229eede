-- What errors of `verify` and `dump` say of the database that they read. Our choice.
use Rattle.std.specs.Prelude.{◌≡◌, ◌≤◌, ◌⊎◌, List, None, Option, Some, length, ℕ}
use Rattle.hwdb_spec.specs.declared.errors.DumpError.{DumpError}
use Rattle.hwdb_spec.specs.declared.errors.DumpError.TheVariants as dumping
use Rattle.hwdb_spec.specs.declared.errors.VerifyError.{VerifyError}
use Rattle.hwdb_spec.specs.declared.errors.VerifyError.TheVariants as verifying
use Rattle.hwdb_spec_commands.specs.Asked.{unsayable_text}
use Rattle.hwdb_spec_commands.specs.Verdicts.{verdict_text}
use Rattle.hwdb_spec_commands.specs.Refusals.{IsAt, IsInWords}
use Rattle.hwdb_spec_commands.specs.declared.refusals.Refusal.{Refusal}
use Rattle.hwdb_spec_commands.specs.declared.refusals.Refusal.TheVariants.{Plain}
use Rattle.hwdb_spec.specs.declared.errors.ToolError.TheVariants.{BadDatabase, Memory as OutOfMemory}

-- what an error becomes: that of a fault says what is wrong
abbrev pub IsOfVerify : VerifyError → (path : List ℕ) → Refusal → Type 0
IsOfVerify (verifying.Database fault) path refusal = IsInWords (verdict_text path fault) refusal
IsOfVerify verifying.Memory path refusal = refusal ≡ Plain OutOfMemory

-- what an error becomes
abbrev pub IsOfDump : DumpError → (path : List ℕ) → Refusal → Type 0
IsOfDump (dumping.Database fault) path refusal = IsAt (BadDatabase fault) path refusal
IsOfDump (dumping.Unsayable pattern) path refusal = IsInWords (unsayable_text path pattern.items) refusal
IsOfDump dumping.Memory path refusal = refusal ≡ Plain OutOfMemory
