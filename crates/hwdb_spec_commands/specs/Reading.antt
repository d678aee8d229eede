-- The errors of reading the text files of both folders. Our choice.
use Rattle.std.specs.Prelude.{◌≡◌, ◌⊎◌, ◌<◌, ◌≤◌, ℕ, All, Bool, List, None, Option, Some, ◌++◌, ◌∷◌, Contains, false, is_some, length, true}
use Rattle.hwdb_spec.specs.Folders.{Choice, choice, max_files, names, path_of}
use Rattle.hwdb_spec.specs.Store.{Contents}
use Rattle.hwdb_spec.specs.System.{AreNamesIn, bytes_at, etc_files, usr_files}
use Rattle.hwdb_spec.specs.Texts.{max_file}
use Rattle.hwdb_spec.specs.declared.errors.ToolError.TheVariants.{Memory, TooManyFiles}
use Rattle.hwdb_spec_commands.specs.Refusals.{IsUnlisted, IsUnread}
use Rattle.hwdb_spec_commands.specs.declared.refusals.Refusal.TheVariants.{Plain}
use Rattle.hwdb_spec_commands.specs.declared.refusals.Refusal.{Refusal}

-- one of the chosen files can't be read
abbrev pub IsChosenUnread : (root : List ℕ) → List Choice → Refusal → Type 0
IsChosenUnread root chosen refusal = (c : Choice) × Contains chosen c × IsUnread (root ++ path_of c) refusal

-- at the path is a folder, whose text files have these names, and no file; if none are told, a file is there
abbrev pub IsFolderAt : (path : List ℕ) → Contents → Option (List (List ℕ)) → Type 0
IsFolderAt path contents None = is_some (bytes_at contents path) ≡ true
IsFolderAt path contents (Some names) = (is_some (bytes_at contents path) ≡ false) × AreNamesIn path contents names

-- a text file is at the path, and it isn't too long
pub record IsText (contents : Contents) (path : List ℕ) : Type 0 where
  pub bytes : List ℕ
  pub there : bytes_at contents path ≡ Some bytes
  pub within : length bytes ≤ max_file

-- one of the chosen files can't be read, and each one before it can
pub record IsFirstUnread (root : List ℕ) (contents : Contents) (chosen : List Choice) (refusal : Refusal) : Type 0 where
  pub before : List Choice
  pub first : Choice
  pub after : List Choice
  pub are : chosen ≡ before ++ first ∷ after
  pub read : All (λ (c : Choice). IsText contents (root ++ path_of c)) before
  pub unread : IsUnread (root ++ path_of first) refusal

-- too many text files of the folders are chosen, or there are few enough, and one of these can't be read
pub record IsChoiceRefused (Unread : List Choice → Refusal → Type 0) (root : List ℕ) (contents : Contents) (refusal : Refusal) : Type 0 where
  pub etc : List (List ℕ)
  pub usr : List (List ℕ)
  pub in_etc : AreNamesIn (etc_files root) contents etc
  pub in_usr : AreNamesIn (usr_files root) contents usr
  pub refused : ((max_files < length (names etc usr)) × (refusal ≡ Plain TooManyFiles))
      ⊎ ((length (names etc usr) ≤ max_files) × Unread (choice etc usr) refusal)

-- reading the text files of both folders fails: listing /etc's, or /usr/lib's, or at a chosen file; or for want of memory
abbrev pub AreUnreadAt : (Unread : List Choice → Refusal → Type 0) (root : List ℕ) → Contents → Refusal → Type 0
AreUnreadAt Unread root contents refusal =
    (refusal ≡ Plain Memory)
    ⊎ (IsUnlisted (etc_files root) refusal ⊎ (IsUnlisted (usr_files root) refusal ⊎ IsChoiceRefused Unread root contents refusal))

-- the same, and the file is the first that can't be read
abbrev pub AreUnread : (root : List ℕ) → Contents → Refusal → Type 0
AreUnread root contents = AreUnreadAt (IsFirstUnread root contents) root contents

-- the same, if files that can't be read may be left out: it is any of them
abbrev pub AreUnreadIn : (skip : Bool) (root : List ℕ) → Contents → Refusal → Type 0
AreUnreadIn false root contents = AreUnread root contents
AreUnreadIn true root contents = AreUnreadAt (IsChosenUnread root) root contents
