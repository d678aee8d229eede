-- What `status` says is one, and its errors.
use Rattle.std.proofs.Common.{◌≡◌, ◌∙◌, ◌∷◌, ◌==◌, [], ap, arith, ne_eqb, sym, Bool, true, false, List, length, map, ℕ, Some}
use Rattle.std.specs.Prelude.{is_some}
use Rattle.hwdb_compile.specs.Views.{ForFolders}
use Rattle.hwdb_text.specs.Views.{choice_in}
use Rattle.hwdb_text.specs.declared.choice.ChosenFile.{ChosenFile}
use Rattle.hwdb_spec_commands.specs.Status.{IsMade, has_database, is_bare}
use Rattle.hwdb_spec_commands.specs.Asked.{database_path}
use Rattle.hwdb_spec_commands.specs.Readable.{AreAllRead}
use Rattle.hwdb_spec.specs.Store.{Contents}
use Rattle.hwdb_spec.specs.System.{bytes_at}
use Rattle.hwdb_tool.specs.Internal.{AreReadOf}
use Rattle.hwdb_tool.specs.Statuses.{AreMadeOf}

-- ---- what was read

-- there are none, by how many were read
pub bare_files : (files : List ChosenFile) (n : ℕ) (b : Bool) → n ≡ length files → b ≡ (n == 0) → b ≡ is_bare (map choice_in files)
bare_files [] n b size e = e ∙ ap (λ (m : ℕ). m == 0) size
bare_files (c ∷ more) n b size e = e ∙ ne_eqb n 0 (omega (arith, size))

module _ (root : List ℕ) (contents : Contents) (listed : List (List ℕ)) (files : List ChosenFile) (read : AreReadOf root contents listed files) (all : AreAllRead root contents) where
  -- the bytes are what is made of it
  pub made_from : (made : List ℕ) → ForFolders files (λ etc usr. AreMadeOf etc usr made) → IsMade root contents read.of_etc read.of_usr made
  made_from made made_of =
      let is = made_of read.of_etc read.of_usr read.are in
      record { in_etc = read.in_etc; in_usr = read.in_usr; read = all; accepted = is.accepted; written = is.written; within = is.within }

-- ---- the database of /etc is there
module _ (root : List ℕ) (contents : Contents) (bytes : List ℕ) (is : Some bytes ≡ bytes_at contents (database_path false root)) where
  pub there : has_database false root contents ≡ true
  there = ap is_some (sym is)
