-- What standard error takes of words that the command doesn't take.
use Rattle.std.proofs.Common.{inl, inr, sym, subst, arith, ℕ, List, length, Option, Result, Ok, Err, OnOk}
use Rattle.std.specs.Prelude.{OnErr}
use Rattle.std.proofs.lemmas.List.{take_all}
use Rattle.std.specs.Io.KnownBytes.{Appends}
use Rattle.hwdb_spec.specs.Outputs.{CutShort, Took}
use Rattle.hwdb_spec_commands.specs.Refusals.{Refused}
use Rattle.hwdb_spec.specs.Lemmas.Calls.{failed_call}

-- the text that was written, or a prefix of it
pub usage_line : {T E : Type 0} (text : List ℕ) (r : Result T E) (a b : Option (List ℕ)) (m n : ℕ) → OnOk r (Took text a b m n) → OnErr r (CutShort text a b m n) → Refused text a b m n
usage_line text (Ok x) a b m n took cut = record {
  prefix = (length text, omega arith, subst (λ (l : List ℕ). Appends a b l) (sym (take_all (length text) text (omega arith))) took.whole);
  whole = inr took.whole;
}
usage_line text (Err e) a b m n took cut = record { prefix = cut.prefix; whole = inl (failed_call m n cut.failed) }
