-- Which rules files count, after udev(7) and `conf_files_list_strv` (systemd 257): names that end in `.rules`, in their order by bytes,
-- whatever folder they are in. A name is taken from the first folder that has it: /etc, /run, /usr/local/lib, /usr/lib.
use Rattle.std.specs.Prelude.{Bool, List, codes, false, nat_eq, ℕ, if◌then◌else◌, [], ◌∷◌, map}
use Rattle.std.specs.List.{ends_with}
use Rattle.std.specs.BTreeMap.{insert_entry}
use Rattle.std.specs.Ordering.{nat_cmp}
use Rattle.std.specs.Cmp.Lexicographic.{slice_cmp}
use Rattle.hwdb_spec.specs.Lines.{begins_with, byte}
use Rattle.hwdb_rulefiles.specs.declared.choice.Folder.{Folder}
use Rattle.hwdb_rulefiles.specs.declared.choice.Folder.TheVariants.{Etc, Run, Local, Usr}

-- a name that counts; hidden files don't (`hidden_or_backup_file`)
abbrev pub counts : List ℕ → Bool
counts name = if begins_with (byte ".") name then false else ends_with nat_eq name (codes ".rules")

-- the names of a folder that count, put among ascending ones; one that is there is taken from this folder
abbrev pub put_all : Folder → (names : List (List ℕ)) → List (List ℕ × Folder) → List (List ℕ × Folder)
put_all folder [] held = held
put_all folder (name ∷ more) held = put_all folder more (if counts name then insert_entry (slice_cmp nat_cmp) held name folder else held)

-- a chosen file
pub record Chosen : Type 0 where
  pub folder : Folder
  pub name : List ℕ

abbrev pub listed : List (List ℕ × Folder) → List Chosen
listed held = map (λ e. record { folder = e.1; name = e.0 }) held

-- the chosen files by name: the first folder is put last
abbrev pub choice : (etc run local usr : List (List ℕ)) → List Chosen
choice etc run local usr = listed (put_all Etc etc (put_all Run run (put_all Local local (put_all Usr usr []))))
