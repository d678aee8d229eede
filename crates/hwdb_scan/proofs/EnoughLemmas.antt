-- How much a scan reads of a source.
use Rattle.std.proofs.Common.{◌≡◌, ◌≢◌, ◌≤◌, ◌∙◌, ◌⊎◌, ◌++◌, [], inl, inr, List, Option, OnOk, Ok, Err, Result, ap, arith, length, refl, subst, sym, take, false, ℕ}
use Rattle.std.proofs.KnownBytes.{Consumes-kept, Consumes-nil, Consumes-trans}
use Rattle.std.proofs.lemmas.List.{length-take-le}
use Rattle.std.specs.Io.KnownBytes.{Consumes, Keeps}
use Rattle.hwdb_spec.specs.Outputs.{CutShort}
use Rattle.hwdb_spec.specs.declared.errors.ToolError.{ToolError}
use Rattle.hwdb_spec.specs.declared.errors.ToolError.TheVariants.{Memory, Write}
use Rattle.hwdb_scan.proofs.PieceLemmas.{held}
use Rattle.hwdb_scan.specs.Enough.{IsGoingOn, IsNoMoreRead, IsOnePiece}
use Rattle.hwdb_scan.specs.Scanning.{IsScanError}
use Rattle.hwdb_scan.specs.Views.{Scanning, after_bytes, is_over, start}

-- the error of what couldn't be told
pub told_error : (e : ToolError) (text : List ℕ) (out out_now : Option (List ℕ)) (failures failures_now : ℕ)
    → ((e ≡ Write) × CutShort text out out_now failures failures_now) ⊎ ((e ≡ Memory) × (out_now ≡ out) × (failures_now ≡ failures)) → IsScanError e
told_error e text out out_now f g (inl (is, cut)) = subst IsScanError (sym is) tt
told_error e text out out_now f g (inr (is, same, unfailed)) = subst IsScanError (sym is) tt

-- nothing was read
pub nothing_read : (count : Option ℕ) (left : Option (List ℕ)) (s : Scanning) → s ≡ start count → IsGoingOn count left left s
unfolding after_bytes
nothing_read count left s new = record {
  so_far = record { before = []; last = []; read = Consumes-nil left; few = omega arith; wanted = λ some. absurd (some refl) };
  held = new;
}

-- one piece
pub one_piece : {X E : Type 0} (left left_now : Option (List ℕ)) (s s_now : Scanning) (result : Result X E) (n : ℕ) (chunk : List ℕ) → length chunk ≡ 65536 → n ≤ 65536
    → Consumes left left_now (take n chunk) → OnOk result (s_now ≡ after_bytes s (take n chunk)) → IsOnePiece left left_now s s_now result
one_piece left left_now s s_now result n chunk size few read told =
    let shorter : n ≤ length chunk = omega (arith, few, size) in
    let long : length (take n chunk) ≡ n = length-take-le n chunk shorter in
    record { piece = take n chunk; read = read; few = subst (λ (m : ℕ). m ≤ 65536) (sym long) few; held = told }

-- a read failed, and brought none
pub no_piece : {X E : Type 0} (left left_now : Option (List ℕ)) (s s_now : Scanning) (result : Result X E) → Keeps left left_now → OnOk result (s_now ≡ after_bytes s []) → IsOnePiece left left_now s s_now result
no_piece left left_now s s_now result keeps told =
    record { piece = []; read = Consumes-kept left left left_now [] (Consumes-nil left) keeps; few = omega arith; held = told }

module _ {X E : Type 0} (count : Option ℕ) (left_first left left_now : Option (List ℕ)) (s s_now : Scanning) (result : Result X E) (going : IsGoingOn count left_first left s)
    (more : is_over s.wanted ≡ false) (one : IsOnePiece left left_now s s_now result) where
  abbrev read : List ℕ
  read = going.so_far.before ++ going.so_far.last

  abbrev pub read_on : IsNoMoreRead count left_first left_now
  read_on = record {
    before = read;
    last = one.piece;
    read = Consumes-trans left_first left left_now read one.piece going.so_far.read one.read;
    few = one.few;
    wanted = λ some. sym (ap (λ (x : Scanning). is_over x.wanted) going.held) ∙ more;
  }

  pub goes_on : s_now ≡ after_bytes s one.piece → IsGoingOn count left_first left_now s_now
  goes_on told = record {
    so_far = read_on;
    held = told ∙ ap (λ (x : Scanning). after_bytes x one.piece) going.held ∙ sym (held (start count) read one.piece);
  }
