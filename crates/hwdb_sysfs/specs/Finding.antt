-- Why no device is found, and which error comes first. Our choice.
use Rattle.std.specs.Prelude.{◌≡◌, ℕ, List, ◌++◌, IfSome, None, Option, Some, true, Err, is_some, option_map}
use Rattle.hwdb_spec_commands.specs.DeviceTree.{absolute, device_for, missing_folder, unread_for}
use Rattle.hwdb_spec.specs.Lines.{byte, has}
use Rattle.hwdb_spec_commands.specs.SysfsAnswers.{Answers, IsUnreadFor, seen}
use Rattle.hwdb_sysfs.specs.declared.finding.Unfound.{Unfound}
use Rattle.hwdb_sysfs.specs.declared.unread.UnreadPath.{UnreadPath as Found}
use Rattle.hwdb_sysfs.specs.declared.finding.Unfound.TheVariants.{Memory, NoSysfs, Untold, Unread, NoDevice}

-- a folder of sysfs isn't there: its path leads nowhere for this cause
abbrev pub IsMissing : Answers → (path : List ℕ) → Unfound → Type 0
IsMissing answers path Memory = Unit {0}
IsMissing answers path (NoSysfs at cause) = (at.items ≡ path) × (answers.real path ≡ Err cause)
IsMissing answers path _ = ⊥

-- sysfs isn't there: the path of its folder, or of that of its devices, leads nowhere for this cause
abbrev pub IsNoSysfs : Answers → (root : List ℕ) → Unfound → Type 0
IsNoSysfs answers root Memory = Unit {0}
IsNoSysfs answers root (NoSysfs path cause) = (missing_folder (seen answers) root ≡ Some path.items) × (answers.real path.items ≡ Err cause)
IsNoSysfs answers root _ = ⊥

-- no device is meant, and what would tell of one was read
abbrev pub IsNone : Answers → (root sys given : List ℕ) → Type 0
IsNone answers root sys given = (device_for (seen answers) root sys given ≡ None) × (unread_for (seen answers) root sys given ≡ None)

-- No device is meant. What would tell of one can't be read for this cause. Or a path that was given leads nowhere for this cause; or it
-- leads somewhere, or is a name, and no device is there.
abbrev pub IsUnfound : Answers → (root sys given : List ℕ) → Unfound → Type 0
IsUnfound answers root sys given Memory = Unit {0}
IsUnfound answers root sys given (Untold path cause) =
    (device_for (seen answers) root sys given ≡ None) × (unread_for (seen answers) root sys given ≡ Some path.items) × IsUnreadFor answers path.items cause
IsUnfound answers root sys given (Unread cause) =
    IsNone answers root sys given × (has (byte "/") given ≡ true) × (answers.real (root ++ absolute given) ≡ Err cause)
IsUnfound answers root sys given NoDevice =
    IsNone answers root sys given × (has (byte "/") given ≡ true → is_some ((seen answers).place (root ++ absolute given)) ≡ true)
IsUnfound answers root sys given _ = ⊥

-- that of a path which leads to no device
abbrev pub LeadsAstray : Answers → (path : List ℕ) → Unfound → Type 0
LeadsAstray answers path Memory = Unit {0}
LeadsAstray answers path (Unread cause) = answers.real path ≡ Err cause
LeadsAstray answers path NoDevice = is_some ((seen answers).place path) ≡ true
LeadsAstray answers path _ = ⊥

-- what can't be read of what a path leads to, if that is so: its path, and for which cause
abbrev pub IsUnread : Answers → (path : Option (List ℕ)) → Option Found → Type 0
IsUnread answers path found = (option_map (λ u. u.path.items) found ≡ path) × IfSome found (λ u. IsUnreadFor answers u.path.items u.cause)
