-- What was read of chosen files is what the files of both folders give.
use Rattle.std.proofs.Common.{◌≡◌, ◌∙◌, ap, refl, ℕ, List, [], ◌∷◌, ◌++◌, map, All}
use Rattle.std.specs.Prelude.{flat_map}
use Rattle.std.proofs.lemmas.List.Elements.{All-head, All-tail}
use Rattle.hwdb_spec.specs.Records.{assignments}
use Rattle.hwdb_spec.specs.Folders.{Choice, Source, all_assignments, contents, file_assignments, path_of}
use Rattle.hwdb_text.specs.declared.choice.ChosenFile.{ChosenFile}
use Rattle.hwdb_compile.specs.Views.{AreChosenOf}
use Rattle.hwdb_text.specs.Views.{bytes_in, choice_in}
use Rattle.hwdb_compile.specs.Internal.Reading.{assignments_in}

-- what the chosen files give is what those of the folders give
pub all_read : {B : Type 0} (f : Choice → List ℕ → List B) (read : Choice → List ℕ) (files : List ChosenFile)
    → All (λ x. bytes_in x ≡ read (choice_in x)) files → flat_map (λ x. f (choice_in x) (bytes_in x)) files ≡ flat_map (λ c. f c (read c)) (map choice_in files)
all_read f read [] is = refl
all_read f read (x ∷ files) is =
    ap (λ b. f (choice_in x) b ++ flat_map (λ y. f (choice_in y) (bytes_in y)) files) (All-head (λ y. bytes_in y ≡ read (choice_in y)) x files is)
    ∙ ap (λ l. f (choice_in x) (read (choice_in x)) ++ l) (all_read f read files (All-tail (λ y. bytes_in y ≡ read (choice_in y)) x files is))

-- what the chosen files assign is what those of the folders assign
pub same_assignments : (etc usr : List Source) (files : List ChosenFile) → AreChosenOf etc usr files → flat_map assignments_in files ≡ all_assignments etc usr
same_assignments etc usr files of =
    all_read (λ c b. assignments (record { path = path_of c; priority = c.priority }) b) (contents etc usr) files of.bytes
    ∙ ap (flat_map (file_assignments (contents etc usr))) of.choices
