-- What a crash may leave while an update runs, in the words of the program.
use Rattle.std.proofs.Common.{◌≡◌, inl, inr, ⊎_elim, ℕ, Bool, List, Option, subst, arith}
use Rattle.hwdb_spec.specs.Store.{Contents, LeavesOnly, Outcomes, Stored}
use Rattle.hwdb_spec.specs.System.{database_folder}
use Rattle.hwdb_text.specs.declared.choice.ChosenFile.{ChosenFile}
use Rattle.hwdb_compile.specs.Views.{ForFolders}
use Rattle.hwdb_spec_commands.specs.Done.{OldOrWritten, OldOrUpdated, OldOrUpdatedLess}
use Rattle.hwdb_tool.specs.Internal.{AreReadOf}
use Rattle.hwdb_spec.specs.Folders.{Choice}
use Rattle.hwdb_spec_commands.specs.LeftOut.{AreLeftOut, without}

-- what leaves less leaves only that
pub leaves_more : {D : Type 0} (moment : D → ℕ) (left_since : D → ℕ → Outcomes) (old new : D) (less more : Outcomes)
    → ((p : List ℕ) (v : Option Stored) → less p v → more p v) → LeavesOnly moment left_since old new less → LeavesOnly moment left_since old new more
leaves_more moment left_since old new less more up h = record {
  each = λ p v l. up p v (h.each p v l);
  time = record {
    later = h.time.later;
    nothing_else = λ t p v le l. ⊎_elim (λ was. inl was) (λ now. inr (up p v now)) (h.time.nothing_else t p v le l);
    nothing_less = h.time.nothing_less;
  };
}

-- an update of the files that were read
pub leaves_old_or_updated : {D : Type 0} (moment : D → ℕ) (left_since : D → ℕ → Outcomes) (old new : D) (root folder : List ℕ) (usr : Bool) (listed : List (List ℕ)) (files : List ChosenFile)
    (read_from seen : Contents) (before : Outcomes) → folder ≡ database_folder usr root → AreReadOf root read_from listed files
    → ForFolders files (λ e u. LeavesOnly moment left_since old new (OldOrWritten e u folder seen before))
    → LeavesOnly moment left_since old new (OldOrUpdated root usr read_from seen before)
leaves_old_or_updated moment left_since old new root folder usr listed files read_from seen before at read holds =
    leaves_more moment left_since old new (OldOrWritten read.of_etc read.of_usr (database_folder usr root) seen before) (OldOrUpdated root usr read_from seen before)
    (λ p v now. ⊎_elim (λ was. inl was)
    (λ left. inr record { of_etc = read.of_etc; of_usr = read.of_usr; in_etc = read.in_etc; in_usr = read.in_usr; left = left }) now)
    (subst (λ f. LeavesOnly moment left_since old new (OldOrWritten read.of_etc read.of_usr f seen before)) at (holds read.of_etc read.of_usr read.are))

-- an update that left files out
pub leaves_less : {D : Type 0} (moment : D → ℕ) (left_since : D → ℕ → Outcomes) (old new : D) (MayFail : List ℕ → Type 0) (root : List ℕ) (usr skip : Bool) (seen : Contents) (before : Outcomes)
    (left_out : List Choice) → AreLeftOut skip MayFail root seen left_out
    → LeavesOnly moment left_since old new (OldOrUpdated root usr (without left_out root seen) seen before)
    → LeavesOnly moment left_since old new (OldOrUpdatedLess MayFail root usr skip seen before)
leaves_less moment left_since old new MayFail root usr skip seen before left_out are holds =
    leaves_more moment left_since old new (OldOrUpdated root usr (without left_out root seen) seen before) (OldOrUpdatedLess MayFail root usr skip seen before)
    (λ p v now. ⊎_elim (λ was. inl was) (λ left. inr record { left_out = left_out; are = are; left = left }) now) holds

-- if nothing happens nothing new is left
pub leaves_old : {D : Type 0} (moment : D → ℕ) (left_since : D → ℕ → Outcomes) (s : D) (outcomes : Outcomes)
    → ((p : List ℕ) (v : Option Stored) → left_since s (moment s) p v → outcomes p v) → LeavesOnly moment left_since s s outcomes
leaves_old moment left_since s outcomes up = record {
  each = up;
  time = record {
    later = omega arith;
    nothing_else = λ t p v le l. inl l;
    nothing_less = λ t p v le l. l;
  };
}
