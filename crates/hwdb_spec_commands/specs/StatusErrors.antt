-- The errors of `status` and `update --check`. Our choice.
use Rattle.std.specs.Prelude.{◌≡◌, ◌≤◌, IfSome, List, false, length, true, ℕ}
use Rattle.hwdb_spec.specs.CompileErrors.{IsRefusal}
use Rattle.hwdb_spec.specs.Errors.{refusal_of_compile}
use Rattle.hwdb_spec.specs.Folders.{Source}
use Rattle.hwdb_spec_commands.specs.Readable.{AreAllRead}
use Rattle.hwdb_spec.specs.Store.{Contents}
use Rattle.hwdb_spec.specs.System.{AreFilesIn, etc_files, usr_files}
use Rattle.hwdb_spec.specs.Texts.{max_file}
use Rattle.hwdb_spec.specs.declared.errors.CompileError.{CompileError}
use Rattle.hwdb_spec_commands.specs.declared.refusals.Refusal.{Refusal}
use Rattle.hwdb_spec_commands.specs.declared.refusals.Refusal.TheVariants.{Plain}

-- these files give an error of the compiler
abbrev pub IsNotCompiled : (of_etc of_usr : List Source) → Refusal → Type 0
IsNotCompiled of_etc of_usr refusal = (error : CompileError) × (refusal ≡ Plain (refusal_of_compile error)) × IsRefusal of_etc of_usr max_file error

-- the text files of both folders were read, and give an error of the compiler
pub record AreNotMade (root : List ℕ) (contents : Contents) (refusal : Refusal) : Type 0 where
  pub of_etc : List Source
  pub of_usr : List Source
  pub in_etc : AreFilesIn (etc_files root) contents of_etc
  pub in_usr : AreFilesIn (usr_files root) contents of_usr
  pub read : AreAllRead root contents
  pub refused : IsNotCompiled of_etc of_usr refusal
