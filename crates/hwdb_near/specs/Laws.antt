-- What the laws say of where tokens stop.
use Rattle.std.specs.List.Sorted.{IsPermutation}
use Rattle.std.specs.Prelude.{All, List, false, map, ℕ, ◌++◌, ◌≡◌}
use Rattle.hwdb_spec.specs.Answers.{last_of_each}
use Rattle.hwdb_spec.specs.Assignment.{Assignment}
use Rattle.hwdb_spec.specs.Folders.{Source}
use Rattle.hwdb_spec.specs.Format.{IsDatabase}
use Rattle.hwdb_spec_commands.specs.NearAsked.{database_patterns}
use Rattle.hwdb_spec_commands.specs.NearPrefixes.{files_patterns}
use Rattle.hwdb_spec.specs.Patterns.{Token}
use Rattle.hwdb_spec_commands.specs.Once.{is_same_assignment, once}
use Rattle.hwdb_spec_commands.specs.Replacements.{Replacement, replacements}
use Rattle.hwdb_spec.specs.Tree.{Tree, map_of_files}
use Rattle.hwdb_spec.specs.Written.{IsDatabaseOf}
use Rattle.hwdb_spec.specs.Fronts.{Front, Stops}
use Rattle.hwdb_spec_commands.specs.Near.{front_tokens, stop_of}
use Rattle.hwdb_pattern.specs.Fronts.{IsLongest}

-- Tokens stop at one place alone, which `stop_of` computes.
abbrev pub StopsAreComputed : Type 0
StopsAreComputed = (ts : List Token) (device : List ℕ) (f : Front) → Stops ts device f → f ≡ stop_of ts device

-- The patterns of a database of some files are those of the files' last assignments.
abbrev pub PatternsAreOfFiles : Type 0
PatternsAreOfFiles =
    (etc usr : List Source) (bytes : List ℕ) → IsDatabaseOf (map_of_files etc usr) bytes → (t : Tree) → IsDatabase bytes t
    → database_patterns t ≡ files_patterns etc usr

-- So is how many tokens their longest front has.
abbrev pub LongestIsComputed : Type 0
LongestIsComputed = (ts : List Token) (device : List ℕ) (count : ℕ) → IsLongest ts device count → count ≡ front_tokens ts device

-- Those of some assignments that count, and those that were replaced, are together all of them: each comes as often in both lists.
abbrev pub LastAndReplacedAreAll : Type 0
LastAndReplacedAreAll = (all : List Assignment) → IsPermutation (last_of_each all ++ map (λ (r : Replacement). r.old) (replacements all)) all

-- Of some assignments, each once, none is replaced by what the same line gives its pattern.
abbrev pub NoneReplacesItself : Type 0
NoneReplacesItself = (all : List Assignment) → All (λ (r : Replacement). is_same_assignment r.old r.new ≡ false) (replacements (once all))
