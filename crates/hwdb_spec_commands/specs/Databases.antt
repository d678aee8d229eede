-- What bytes of databases give: the text of one, what changed from one to another, and whether a text file says one. And
-- what is so of bytes that are none. Our choice.
use Rattle.std.specs.Prelude.{◌≡◌, Bool, List, None, Some, length, ℕ}
use Rattle.hwdb_spec.specs.Assignment.{Assignment}
use Rattle.hwdb_spec_commands.specs.Dump.{dumped, first_unsaid}
use Rattle.hwdb_spec.specs.Format.{Applies, IsDatabase}
use Rattle.hwdb_spec_commands.specs.Summary.{summary_of, summary_text}
use Rattle.hwdb_spec.specs.Tree.{Tree}
use Rattle.hwdb_spec.specs.declared.DbFault.{DbFault}

-- the bytes are a database, and the text is what its tree gives
pub record IsTextOf (of : Tree → List ℕ) (bytes text : List ℕ) : Type 0 where
  pub tree : Tree
  pub database : IsDatabase bytes tree
  pub is : text ≡ of tree

-- the fault applies, and the bytes are a database of no tree
pub record IsNoDatabase (bytes : List ℕ) (fault : DbFault) : Type 0 where
  pub stands : Applies bytes fault
  pub no_tree : (t : Tree) → IsDatabase bytes t → ⊥

-- both are databases, and the text is what their trees give
pub record IsDiffText (of : (old new : Tree) → List ℕ) (old new text : List ℕ) : Type 0 where
  pub old_tree : Tree
  pub new_tree : Tree
  pub old_database : IsDatabase old old_tree
  pub new_database : IsDatabase new new_tree
  pub is : text ≡ of old_tree new_tree

-- both are databases, and it says whether their trees differ so
pub record IsDifferent (differ : (old new : Tree) → Bool) (old new : List ℕ) (answer : Bool) : Type 0 where
  pub old_tree : Tree
  pub new_tree : Tree
  pub old_database : IsDatabase old old_tree
  pub new_database : IsDatabase new new_tree
  pub is : answer ≡ differ old_tree new_tree

-- the old bytes are a database, and the new ones are none
pub record IsNewRefused (old new : List ℕ) (fault : DbFault) : Type 0 where
  pub tree : Tree
  pub old_database : IsDatabase old tree
  pub refused : IsNoDatabase new fault

-- the bytes are a database, and the records of its assignments say all of them
pub record IsSayable (bytes : List ℕ) : Type 0 where
  pub tree : Tree
  pub database : IsDatabase bytes tree
  pub said : first_unsaid (dumped tree) ≡ None

-- some assignment isn't said by its record, and the first such one has this pattern
pub record IsFirstUnsaid (all : List Assignment) (pattern : List ℕ) : Type 0 where
  pub first : Assignment
  pub unsaid : first_unsaid all ≡ Some first
  pub is : pattern ≡ first.position.pattern

-- the bytes are a database, and the first of its assignments that its record doesn't say has this pattern
pub record IsUnsayable (bytes pattern : List ℕ) : Type 0 where
  pub tree : Tree
  pub database : IsDatabase bytes tree
  pub unsaid : IsFirstUnsaid (dumped tree) pattern

-- how much is in the database that the bytes are, as `verify` prints it
abbrev pub IsSummary : (bytes text : List ℕ) → Type 0
IsSummary bytes = IsTextOf (λ t. summary_text (summary_of (length bytes) t)) bytes
