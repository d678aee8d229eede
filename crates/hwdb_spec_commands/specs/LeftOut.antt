-- Chosen text files that can't be read, and that an update leaves out with `--skip-unreadable`: which these may be, and which
-- files are left. Our choice.
use Rattle.std.specs.List.{list_any}
use Rattle.std.specs.Prelude.{◌++◌, ◌||◌, ◌∷◌, ◌≡◌, All, Bool, Contains, List, None, [], false, if◌then◌else◌, map, ℕ}
use Rattle.std.specs.Str.{bytes_eq}
use Rattle.hwdb_spec.specs.Folders.{Choice, choice, path_of}
use Rattle.hwdb_spec.specs.Store.{Contents, path_in}
use Rattle.hwdb_spec.specs.System.{AreNamesIn, etc_files, usr_files}

-- the path is that of the name in one of the two folders
abbrev pub is_named : (root path name : List ℕ) → Bool
is_named root path name = bytes_eq path (path_in (etc_files root) name) || bytes_eq path (path_in (usr_files root) name)

-- the files as if none of these names was in either folder: what it would mask is left out too
abbrev pub less : (names : List (List ℕ)) (root : List ℕ) → Contents → Contents
less names root contents path = if list_any (is_named root path) names then None else contents path

-- the same, of chosen files that are left out
abbrev pub without : List Choice → (root : List ℕ) → Contents → Contents
without left_out = less (map (λ (c : Choice). c.name) left_out)

-- the file is one of the chosen ones, and reading it may fail
pub record IsLeftOut (MayFail : (path : List ℕ) → Type 0) (root : List ℕ) (contents : Contents) (c : Choice) : Type 0 where
  pub etc : List (List ℕ)
  pub usr : List (List ℕ)
  pub in_etc : AreNamesIn (etc_files root) contents etc
  pub in_usr : AreNamesIn (usr_files root) contents usr
  pub chosen : Contains (choice etc usr) c
  pub unreadable : MayFail (root ++ path_of c)

-- such files are left out, and only with the option
pub record AreLeftOut (skip : Bool) (MayFail : (path : List ℕ) → Type 0) (root : List ℕ) (contents : Contents) (left_out : List Choice) : Type 0 where
  pub each : All (IsLeftOut MayFail root contents) left_out
  pub asked_for : skip ≡ false → left_out ≡ []

-- the status of an update that left out these files, if it would be this one for the others alone
abbrev pub status_less : (strict : Bool) (left_out : List Choice) (status : ℕ) → ℕ
status_less strict [] status = status
status_less strict (c ∷ more) status = if strict then 1 else status
