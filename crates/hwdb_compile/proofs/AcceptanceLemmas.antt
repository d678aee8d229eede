-- What was read is what the chosen files hold, and when files give an error.
use Rattle.std.proofs.Common.{◌≡◌, ◌∙◌, ap, sym, refl, subst, ℕ, List, [], ◌∷◌, ◌++◌, map, length, Result, Ok, Err, All, get_or, ◌<◌}
use Rattle.std.specs.Prelude.{Any, IfErr, flat_map}
use Rattle.std.specs.Result.{IsErrAnd}
use Rattle.std.specs.FinMap as finite
use Rattle.std.specs.Borrow.{Bor}
use Rattle.std.specs.BTreeMap.{BTreeMap}
use Rattle.std.proofs.lemmas.List.Elements.{All-nil, All-cons, All-head, All-tail}
use Rattle.hwdb_spec.specs.Records.{faults}
use Rattle.hwdb_spec.specs.Folders.{Choice, path_of, Source, first_of, contents, file_faults, fault_in, faults_of_files, AreAccepted, FaultIn}
use Rattle.hwdb_text.specs.declared.choice.ChosenFile.{ChosenFile}
use Rattle.hwdb_compile.specs.Views.{FewLines, ManyLines, AreChosenOf}
use Rattle.hwdb_text.specs.Views.{bytes_in, choice_in}
use Rattle.hwdb_spec.specs.CompileErrors.{IsRefusal}
use Rattle.hwdb_spec.specs.Tree.{Map, surviving, map_of_files}
use Rattle.hwdb_spec.specs.Written.{IsLonger}
use Rattle.hwdb_spec.specs.declared.errors.StoreError.{StoreError}
use Rattle.hwdb_spec.specs.declared.errors.StoreError.TheVariants as store
use Rattle.hwdb_spec.specs.declared.errors.CompileError.{CompileError}
use Rattle.hwdb_spec.specs.declared.errors.CompileError.TheVariants.{TooManyFiles, TooManyLines, TooLarge, Memory}
use Rattle.hwdb_spec.specs.Errors.{of_store}
use Rattle.hwdb_compile.specs.Internal.Reading.{assignments_in, bytes_at, faults_in, IsFileRefusal, IsFilesRefusal}
use Rattle.hwdb_compile.specs.Lemmas.Files.{all_read, same_assignments}
use Rattle.hwdb_compile.proofs.GatherLemmas.{any_at, empty_index}

abbrev Index : Type 0
Index = BTreeMap (Bor (List ℕ)) (Bor (List ℕ))

-- the index has of each chosen file what it holds
pub same_contents : (etc usr : List Source) (none some all : Index) → none.entries ≡ []
    → ((name : List ℕ) → bytes_at some name ≡ first_of name usr (bytes_at none name))
    → ((name : List ℕ) → bytes_at all name ≡ first_of name etc (bytes_at some name)) → (c : Choice) → bytes_at all c.name ≡ contents etc usr c
same_contents etc usr none some all empty first second c =
    second c.name ∙ ap (first_of c.name etc) (first c.name ∙ ap (first_of c.name usr) (empty_index none c.name empty))

none_surviving : finite.empty ≡ surviving []
none_surviving = refl

-- what holds of the bytes of each file holds of what is read
each_read : (P : List ℕ → Type 0) (read : Choice → List ℕ) (files : List ChosenFile)
    → All (λ x. bytes_in x ≡ read (choice_in x)) files → All (λ x. P (bytes_in x)) files → All (λ c. P (read c)) (map choice_in files)
each_read P read [] is all = All-nil (λ c. P (read c))
each_read P read (x ∷ files) is all =
    All-cons (λ c. P (read c)) (choice_in x) (map choice_in files) (subst P (All-head (λ y. bytes_in y ≡ read (choice_in y)) x files is) (All-head (λ y. P (bytes_in y)) x files all))
    (each_read P read files (All-tail (λ y. bytes_in y ≡ read (choice_in y)) x files is) (All-tail (λ y. P (bytes_in y)) x files all))

-- what holds of the bytes of one file holds of what is read of one
one_read : (P : List ℕ → Type 0) (read : Choice → List ℕ) (files : List ChosenFile)
    → All (λ x. bytes_in x ≡ read (choice_in x)) files → Any (λ x. P (bytes_in x)) files → Any (λ c. P (read c)) (map choice_in files)
one_read P read files is one =
    any_at (λ c. P (read c)) choice_in files one.0 one.1 one.2 (sym one.3) (subst P (same_at is one.0 one.1 one.2 (sym one.3)) one.4)
  where
    same_at : All (λ x. bytes_in x ≡ read (choice_in x)) files → (i : ℕ) (x : ChosenFile) → i < length files → x ≡ get_or files i x → bytes_in x ≡ read (choice_in x)
    same_at is i x lt e = subst (λ y. bytes_in y ≡ read (choice_in y)) (sym e) (is i x lt)

-- the tree that was filled has the files' map
pub same_map : (etc usr : List Source) (files : List ChosenFile) (before after : Map) → AreChosenOf etc usr files → before ≡ finite.empty
    → (before ≡ surviving [] → after ≡ surviving ([] ++ flat_map assignments_in files)) → after ≡ map_of_files etc usr
same_map etc usr files before after of empty filled =
    filled (empty ∙ none_surviving)
    ∙ ap surviving (same_assignments etc usr files of)

pub same_faults : (etc usr : List Source) (files : List ChosenFile) (before after : List FaultIn) → AreChosenOf etc usr files → before ≡ []
    → after ≡ before ++ flat_map faults_in files → after ≡ faults_of_files etc usr
same_faults etc usr files before after of empty added =
    added ∙ ap (λ l. l ++ flat_map faults_in files) empty
    ∙ all_read (λ c b. map (fault_in (path_of c)) (faults b)) (contents etc usr) files of.bytes
    ∙ ap (flat_map (file_faults (contents etc usr))) of.choices

pub accepted : (etc usr : List Source) (files : List ChosenFile) → AreChosenOf etc usr files → All (λ f. FewLines (bytes_in f)) files → AreAccepted etc usr
accepted etc usr files of few = record {
  files = of.few;
  lines = subst (All (λ c. FewLines (contents etc usr c))) of.choices (each_read FewLines (contents etc usr) files of.bytes few);
}

-- what a conversion of an error gives
pub error_given : {A E : Type 0} (Q P : E → Type 0) (r : Result A E) → IsErrAnd r Q → ((e : E) → Q e → P e) → IfErr r P
error_given Q P (Ok x) is so = tt
error_given Q P (Err e) is so = so e is

pub files_refusal : (files : List ChosenFile) (bytes : List ℕ) (e : CompileError) → (ManyLines bytes → Any (λ f. ManyLines (bytes_in f)) files)
    → IsFileRefusal bytes e → IsFilesRefusal files e
files_refusal files bytes TooManyFiles so h = h
files_refusal files bytes TooManyLines so h = so h
files_refusal files bytes TooLarge so h = h
files_refusal files bytes Memory so h = tt

pub refusal : (etc usr : List Source) (max_bytes : ℕ) (files : List ChosenFile) (e : CompileError) → AreChosenOf etc usr files
    → IsFilesRefusal files e → IsRefusal etc usr max_bytes e
refusal etc usr max_bytes files TooManyFiles of h = absurd h
refusal etc usr max_bytes files TooManyLines of h = record {
  files = of.few;
  lines = subst (Any (λ c. ManyLines (contents etc usr c))) of.choices (one_read ManyLines (contents etc usr) files of.bytes h);
}
refusal etc usr max_bytes files TooLarge of h = absurd h
refusal etc usr max_bytes files Memory of h = tt

pub store_refusal : (etc usr : List Source) (max_bytes : ℕ) (tree : Map) (x : StoreError) → AreAccepted etc usr → tree ≡ map_of_files etc usr
    → (x ≡ store.TooLarge → IsLonger tree max_bytes) → IsRefusal etc usr max_bytes (of_store x)
store_refusal etc usr max_bytes tree store.TooLarge fine same large =
    record { accepted = fine; longer = subst (λ m. IsLonger m max_bytes) same (large refl) }
store_refusal etc usr max_bytes tree store.Memory fine same large = tt
