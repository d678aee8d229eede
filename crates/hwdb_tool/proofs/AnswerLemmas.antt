-- Commands that answer from the database, and end with errors.
use Rattle.std.proofs.Common.{◌≡◌, ◌≤◌, length, ℕ, List, Option, None, Some, IfSome}
use Rattle.hwdb_spec_commands.specs.Asked.{IsAnswered}
use Rattle.hwdb_spec_commands.specs.Databases.{IsTextOf}
use Rattle.hwdb_spec.specs.Outputs.{TookOne, Wrote}
use Rattle.hwdb_spec.specs.Store.{Contents}
use Rattle.hwdb_spec.specs.System.{asked_database}
use Rattle.hwdb_spec.specs.Texts.{devices_of, max_file}
use Rattle.hwdb_spec.specs.declared.errors.ToolError.{ToolError}
use Rattle.hwdb_spec.specs.declared.errors.ToolError.TheVariants.{Read, Write, TooLong, TooManyFiles, TooManyLines, TooLarge, BadPosition, BadDatabase, Replace, Memory}
use Rattle.hwdb_spec_commands.specs.declared.form.Form.{Form}
use Rattle.hwdb_spec_commands.specs.Streams.{IfBadDatabase, texts_of}

-- what holds if bytes are no database, weaker
pub if_bad : {P Q : Type 0} (error : ToolError) → (P → Q) → IfBadDatabase P error → IfBadDatabase Q error
if_bad Read f h = tt
if_bad Write f h = tt
if_bad TooLong f h = tt
if_bad TooManyFiles f h = tt
if_bad TooManyLines f h = tt
if_bad TooLarge f h = tt
if_bad BadPosition f h = tt
if_bad (BadDatabase fault) f h = f h
if_bad (Replace u) f h = tt
if_bad Memory f h = tt

-- what was printed of the devices of the input, in the words of the program
pub streamed : (input : Option (List ℕ)) (root : List ℕ) (form : Form) (contents : Contents) (bytes : List ℕ) (before now : Option (List ℕ)) (failures_before failures_now : ℕ)
    → asked_database root contents ≡ Some bytes → length bytes ≤ max_file → IfSome input (λ text. Wrote (IsTextOf (texts_of form (devices_of text)) bytes) before now) → failures_now ≡ failures_before
    → IfSome input (λ text. TookOne (IsAnswered root (IsTextOf (texts_of form (devices_of text))) contents) before now failures_before failures_now)
streamed None root form contents bytes before now failures_before failures_now asked within printed unfailed = tt
streamed (Some text) root form contents bytes before now failures_before failures_now asked within printed unfailed = record {
  text = printed.text;
  is = record { bytes = bytes; named = asked; within = within; is = printed.is };
  took = record { whole = printed.taken; unfailed = unfailed };
}
