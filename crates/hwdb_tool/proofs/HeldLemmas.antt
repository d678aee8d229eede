-- The database that is in its place is the one that is asked.
use Rattle.std.proofs.Common.{◌≡◌, ◌∙◌, ap, sym, ℕ, true, false, List, [], Option, Some}
use Rattle.std.specs.Prelude.{option_map}
use Rattle.std.specs.Option.{option_map_or, option_or}
use Rattle.hwdb_spec.specs.Folders.{contents}
use Rattle.hwdb_spec.specs.Store.{Contents, Stored, path_in, database_name, database_file}
use Rattle.hwdb_spec.specs.System.{bytes_at, asked_database, database_folder}

-- what an option holds, or nothing
abbrev value : Option (List ℕ) → List ℕ
value o = option_map_or (λ b. b) o []

-- if one is in /etc it is that one
pub held_bytes : (root : List ℕ) (contents : Contents) (bytes database : List ℕ)
    → contents (path_in (database_folder false root) database_name) ≡ Some (database_file database) → asked_database root contents ≡ Some bytes → bytes ≡ database
held_bytes root contents bytes database stands asked =
    let first : asked_database root contents ≡ Some database =
    ap (λ o. option_or (option_map (λ (f : Stored). f.bytes) o) (bytes_at contents (path_in (database_folder true root) database_name))) stands in
    ap value (sym asked ∙ first)
