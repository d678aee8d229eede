-- What an update of chosen files may leave, for any two folders that they were chosen of.
use Rattle.std.proofs.Common.{◌≡◌, inl, inr, ⊎_elim, ℕ, List, [], ◌∷◌, Option, ap, refl, subst, sym, ◌∙◌, arith}
use Rattle.std.proofs.lemmas.List.Elements.{All-nil, All-cons}
use Rattle.hwdb_spec.specs.Assignment.{ascending, put}
use Rattle.hwdb_spec.specs.Folders.{Choice, Source, contents, first_of}
use Rattle.hwdb_spec.specs.Store.{Contents, Outcomes, Stored, LeavesOnly, OldOrNew}
use Rattle.hwdb_spec.specs.Tree.{map_of_files}
use Rattle.hwdb_spec.specs.Written.{IsCompiled, IsWritten}
use Rattle.hwdb_text.specs.declared.choice.ChosenFile.{ChosenFile}
use Rattle.hwdb_compile.specs.Views.{AreChosenOf}
use Rattle.hwdb_text.specs.Views.{bytes_in, choice_in}
use Rattle.hwdb_spec_commands.specs.Done.{OldOrWritten}
use Rattle.hwdb_spec_commands.specs.LoneFile.{lone, lone_choice}

-- what the written form may leave
or_written : (etc usr : List Source) (folder database : List ℕ) (seen : Contents) (before : Outcomes) → IsWritten (map_of_files etc usr) database → IsCompiled etc usr database
    → (p : List ℕ) (v : Option Stored) → OldOrNew folder database seen before p v → OldOrWritten etc usr folder seen before p v
or_written etc usr folder database seen before is made p v now =
    ⊎_elim (λ old. inl old) (λ other. ⊎_elim (λ new. inr (inl (database, is, made, new.0, new.1))) (λ part. inr (inr part)) other) now

pub leaves_old_or_written : {D : Type 0} (moment : D → ℕ) (left_since : D → ℕ → Outcomes) (old new : D) (etc usr : List Source) (folder database text : List ℕ)
    (seen : Contents) (before : Outcomes) → text ≡ database → IsWritten (map_of_files etc usr) database → IsCompiled etc usr database
    → LeavesOnly moment left_since old new (OldOrNew folder text seen before) → LeavesOnly moment left_since old new (OldOrWritten etc usr folder seen before)
leaves_old_or_written moment left_since old new etc usr folder database text seen before same is made h =
    let up = or_written etc usr folder text seen before (subst (IsWritten (map_of_files etc usr)) (sym same) is) (subst (IsCompiled etc usr) (sym same) made) in
    record {
      each = λ p v l. up p v (h.each p v l);
      time = record {
        later = h.time.later;
        nothing_else = λ t p v le l. ⊎_elim (λ was. inl was) (λ now. inr (up p v now)) (h.time.nothing_else t p v le l);
        nothing_less = h.time.nothing_less;
      };
    }

held_alone : (bytes : List ℕ) → contents (lone bytes) [] lone_choice ≡ bytes
unfolding first_of
held_alone bytes = refl

-- the one file of `ask` is the chosen one of a folder that holds it alone
pub lone_chosen : (bytes : List ℕ) (f : ChosenFile) → choice_in f ≡ lone_choice → bytes_in f ≡ bytes → AreChosenOf (lone bytes) [] (f ∷ [])
unfolding ascending put
lone_chosen bytes f choice same = record {
  few = omega arith;
  choices = ap (λ (c : Choice). c ∷ []) choice;
  bytes = All-cons (λ g. bytes_in g ≡ contents (lone bytes) [] (choice_in g)) f []
      (same ∙ sym (held_alone bytes) ∙ ap (contents (lone bytes) []) (sym choice)) (All-nil (λ g. bytes_in g ≡ contents (lone bytes) [] (choice_in g)));
}
