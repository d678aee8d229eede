-- A file that gives an error is one of some files.
use Rattle.std.proofs.Common.{◌≡◌, ℕ, zero, suc, ◌<◌, List, [], ◌∷◌, map, length, get_or, Result, Ok, Err, IfErr, refl, sym, subst, arith}
use Rattle.std.specs.Prelude.{Any}
use Rattle.std.specs.Result.{IsErrAnd}
use Rattle.hwdb_spec.specs.Folders.{Source}
use Rattle.hwdb_spec.specs.declared.errors.ScanError.{ScanError}
use Rattle.hwdb_spec.specs.declared.errors.ScanError.TheVariants.{Memory, TooManyLines}
use Rattle.hwdb_check.specs.declared.files.TextFile.{TextFile}
use Rattle.hwdb_check.specs.Checks.{source_of}
use Rattle.hwdb_spec_commands.specs.CheckErrors.{IsFileRefusal, IsCheckRefusal}

any_at : (P : Source → Type 0) (fs : List TextFile) (i : ℕ) (d : TextFile) → i < length fs → P (source_of (get_or fs i d)) → Any P (map source_of fs)
any_at P [] i d h p = absurd (omega arith)
any_at P (x ∷ xs) zero d h p = (0, source_of x, omega arith, refl, p)
any_at P (x ∷ xs) (suc i) d h p =
    let r = any_at P xs i d (omega arith) p in (suc r.0, r.1, omega (arith, r.2), r.3, r.4)

refused_by : (fs : List TextFile) (i : ℕ) (d : TextFile) → i < length fs → (e : ScanError) → IsFileRefusal (get_or fs i d).bytes.now e → IsCheckRefusal (map source_of fs) e
refused_by fs i d h TooManyLines p = any_at _ fs i d h p
refused_by fs i d h Memory p = tt

-- a file that gives an error is one of the files
pub file_refused : {X : Type 0} (fs : List TextFile) (i : ℕ) (d : TextFile) (e : ScanError) (r : Result X ScanError) → i < length fs
    → IsErrAnd r (λ x. x ≡ e) → IsFileRefusal (get_or fs i d).bytes.now e → IfErr r (IsCheckRefusal (map source_of fs))
file_refused fs i d e (Ok x) h same p = tt
file_refused fs i d e (Err x) h same p = subst (IsCheckRefusal (map source_of fs)) (sym same) (refused_by fs i d h e p)
