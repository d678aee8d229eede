-- Our own words: how far the files were read, and the index of their names.
use Rattle.std.specs.Prelude.{List, [], ℕ, ◌<◌, ◌≡◌, ◌++◌, Any}
use Rattle.std.specs.BTreeMap.{BTreeMap, get_by}
use Rattle.std.specs.Borrow.{Bor}
use Rattle.std.specs.Ordering.{nat_cmp}
use Rattle.std.specs.Option.{option_map_or}
use Rattle.std.specs.Cmp.Lexicographic.{slice_cmp}
use Rattle.hwdb_spec.specs.Folders.{FaultIn, file_assignments, file_faults, path_of}
use Rattle.hwdb_text.specs.Views.{HasNoZero, IsStorable}
use Rattle.hwdb_compile.specs.Views.{ManyLines}
use Rattle.hwdb_text.specs.Views.{bytes_in, choice_in}
use Rattle.hwdb_text.specs.declared.choice.ChosenFile.{ChosenFile}
use Rattle.hwdb_spec.specs.Assignment.{Assignment}
use Rattle.hwdb_spec.specs.Tree.{Map, surviving}
use Rattle.hwdb_spec.specs.declared.errors.CompileError.{CompileError}
use Rattle.hwdb_spec.specs.declared.errors.CompileError.TheVariants.{Memory, TooLarge, TooManyFiles, TooManyLines}

-- the bytes of a file in the index; none if its name isn't there
abbrev pub bytes_at : BTreeMap (Bor (List ℕ)) (Bor (List ℕ)) → List ℕ → List ℕ
bytes_at index name = option_map_or (λ b. b.now) (get_by (λ k. slice_cmp nat_cmp name k.now) index) []

-- the stored path of a chosen file
abbrev pub path_in : ChosenFile → List ℕ
path_in f = path_of (choice_in f)

-- what a chosen file assigns, and its faults
abbrev pub assignments_in : ChosenFile → List Assignment
assignments_in f = file_assignments (λ _. bytes_in f) (choice_in f)

abbrev pub faults_in : ChosenFile → List FaultIn
faults_in f = file_faults (λ _. bytes_in f) (choice_in f)

-- the map takes up more assignments: if it had what survives of some, it has what survives of these and more
abbrev pub TakesUp : Map → List Assignment → Map → Type 0
TakesUp old more new = (done : List Assignment) → old ≡ surviving done → new ≡ surviving (done ++ more)

-- an assignment that a database can hold
pub record IsPuttable (a : Assignment) : Type 0 where
  pub storable : IsStorable a
  pub path : HasNoZero a.path
  pub priority : 0 < a.position.priority

-- why one file gives an error
abbrev pub IsFileRefusal : (bytes : List ℕ) → CompileError → Type 0
IsFileRefusal bytes TooManyFiles = ⊥
IsFileRefusal bytes TooManyLines = ManyLines bytes
IsFileRefusal bytes TooLarge = ⊥
IsFileRefusal bytes Memory = Unit {0}

-- why one of some files gives an error
abbrev pub IsFilesRefusal : List ChosenFile → CompileError → Type 0
IsFilesRefusal files TooManyFiles = ⊥
IsFilesRefusal files TooManyLines = Any (λ f. ManyLines (bytes_in f)) files
IsFilesRefusal files TooLarge = ⊥
IsFilesRefusal files Memory = Unit {0}
