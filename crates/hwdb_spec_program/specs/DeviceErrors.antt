-- What `device` asks sysfs, and its errors. Our choice.
use Rattle.std.specs.Prelude.{◌≡◌, ◌⊎◌, ◌∷◌, List, [], None, Option, Some, ℕ}
use Rattle.hwdb_spec_commands.specs.DeviceAsked.{missing_text, no_sysfs_text, unread_text}
use Rattle.hwdb_spec_commands.specs.DeviceFound.{places_meant, several_text}
use Rattle.hwdb_spec_commands.specs.DeviceTree.{Sight, missing_folder, unread_for}
use Rattle.hwdb_spec.specs.Failures.{IsOneLine}
use Rattle.hwdb_spec.specs.Lines.{is, pieces}
use Rattle.hwdb_spec_commands.specs.declared.attributes.TheConstants.{ATTRIBUTES}
use Rattle.hwdb_spec.specs.declared.errors.ToolError.TheVariants.{Memory}
use Rattle.hwdb_spec_commands.specs.Refusals.{IsInWords}
use Rattle.hwdb_spec_commands.specs.declared.refusals.Refusal.{Refusal}
use Rattle.hwdb_spec_commands.specs.declared.refusals.Refusal.TheVariants.{Plain}

-- the names of the attributes that rules ask for
abbrev pub asked_names : List (List ℕ)
asked_names = pieces (is 10) ATTRIBUTES.now

-- an error in whatever words, or of memory
abbrev pub IsWorded : Refusal → Type 0
IsWorded refusal = (text : List ℕ) × IsInWords text refusal

-- the error says which folder of sysfs isn't there, and a cause in one line
pub record SaysNoSysfs (root : List ℕ) (sight : Sight) (refusal : Refusal) : Type 0 where
  pub path : List ℕ
  pub missing : missing_folder sight root ≡ Some path
  pub words : List ℕ
  pub one_line : IsOneLine words
  pub said : IsInWords (no_sysfs_text path words) refusal

-- there is no sysfs below the root, or no memory
abbrev pub IsNoSysfs : (root : List ℕ) → Sight → Refusal → Type 0
IsNoSysfs root sight refusal = (refusal ≡ Plain Memory) ⊎ SaysNoSysfs root sight refusal

-- the error says which path can't be read that would tell whether a device is there, and a cause in one line
pub record SaysUnread (root sys given : List ℕ) (sight : Sight) (refusal : Refusal) : Type 0 where
  pub none : places_meant sight asked_names root sys given ≡ []
  pub path : List ℕ
  pub unread : unread_for sight root sys given ≡ Some path
  pub words : List ℕ
  pub one_line : IsOneLine words
  pub said : IsInWords (unread_text path words) refusal

-- the error says which device isn't there, and what is near; and if a path leads nowhere, a cause in one line
pub record SaysNoDevice (root sys given : List ℕ) (sight : Sight) (refusal : Refusal) : Type 0 where
  pub none : places_meant sight asked_names root sys given ≡ []
  pub all_read : unread_for sight root sys given ≡ None
  pub words : List ℕ
  pub one_line : IsOneLine words
  pub said : IsInWords (missing_text sight asked_names root sys given words) refusal

-- the error lists the devices that are meant: there are two at least
pub record SaysSeveral (root sys given : List ℕ) (sight : Sight) (refusal : Refusal) : Type 0 where
  pub one : List ℕ
  pub other : List ℕ
  pub more : List (List ℕ)
  pub are : places_meant sight asked_names root sys given ≡ one ∷ other ∷ more
  pub said : IsInWords (several_text sight asked_names sys given (one ∷ other ∷ more)) refusal

-- no device is meant, or several, or it can't be told whether one is, or there is no memory
abbrev pub IsNoDevice : (root sys given : List ℕ) → Sight → Refusal → Type 0
IsNoDevice root sys given sight refusal =
    (refusal ≡ Plain Memory)
    ⊎ (SaysUnread root sys given sight refusal ⊎ (SaysNoDevice root sys given sight refusal ⊎ SaysSeveral root sys given sight refusal))
