-- What `scan` reads, and what is said if it can't be read. Where the nodes of input devices are is from udev's rules file
-- 50-udev-default.rules, and the numbers of errors are from errno(3), on Linux. The rest is our choice.
use Rattle.std.specs.List.{list_any}
use Rattle.std.specs.Option.{unwrap_or}
use Rattle.std.specs.Ordering.{int_eq}
use Rattle.std.specs.Prelude.{◌-◌, ◌^◌, ◌∷◌, ◌++◌, Bool, false, ℕ, List, [], None, Option, Some, codes, if◌then◌else◌, pos, take}
use Rattle.hwdb_spec.specs.Lines.{begins_with, byte, has, is_none}
use Rattle.hwdb_spec.specs.Visible.{shown_name}
use Rattle.hwdb_spec.specs.declared.causes.Cause.{Cause}
use Rattle.hwdb_spec.specs.declared.causes.Cause.TheVariants.{System}
use Rattle.hwdb_spec_commands.specs.Commands.{shell_word}
use Rattle.hwdb_spec_commands.specs.Given.{is_dash}
use Rattle.hwdb_spec_commands.specs.Scans.{scan_text}

-- ---- what is read
-- the path that a word means: one without a `/` is the name of a node
abbrev pub node_path : (device : List ℕ) → List ℕ
node_path device = if has (byte "/") device then device else codes "/dev/input/" ++ device

-- a path below a root, if one is given
abbrev pub path_below : (root path : List ℕ) → List ℕ
path_below root path = if is_none root then path else (if begins_with (byte "/") path then root ++ path else root ++ (codes "/" ++ path))

-- the path that is read; with `-` none, but standard input
abbrev pub scanned_path : (root device : List ℕ) → Option (List ℕ)
scanned_path root device = if is_dash device then None else Some (path_below root (node_path device))

-- how errors name what is read
abbrev pub scanned_name : (path : Option (List ℕ)) → List ℕ
scanned_name path = unwrap_or path (codes "standard input")

-- how many bytes are read at most
abbrev pub most_scanned : ℕ
most_scanned = 2 ^ 64 - 1

-- what is printed if these bytes are there
abbrev pub scanned_text : (count : Option ℕ) (bytes : List ℕ) → List ℕ
scanned_text count bytes = scan_text count (take most_scanned bytes)

-- ---- what is said
-- whether a cause is that somebody else may read it: EPERM or EACCES
abbrev pub is_denied : Cause → Bool
is_denied (System number) = list_any (int_eq number) (pos 1 ∷ pos 13 ∷ [])
is_denied cause = false

-- whether it is that nothing has such a name: ENOENT
abbrev pub is_missing : Cause → Bool
is_missing (System number) = int_eq number (pos 2)
is_missing cause = false

-- whether it is that a folder is there: EISDIR
abbrev pub is_of_folder : Cause → Bool
is_of_folder (System number) = int_eq number (pos 21)
is_of_folder cause = false

-- what to do if a path can't be read for some cause
abbrev pub advice_for : (path : List ℕ) → Cause → List ℕ
advice_for path cause =
    if is_denied cause then codes "; run it as root: sudo hwdb scan " ++ shell_word path
    else (if is_missing cause then codes "; 'hwdb device' lists the devices"
    else (if is_of_folder cause then codes "; give a device in it, as event4: 'hwdb device' lists them" else []))

-- a cause after a name, in these words, and what to do
abbrev pub cause_text : (name : List ℕ) → Cause → (words : List ℕ) → List ℕ
cause_text name cause words = codes ": " ++ (words ++ advice_for name cause)

-- what is said if something of this name can't be read, or not to its end, for a cause with these words
abbrev pub unscanned_text : (name : List ℕ) → Option Cause → (words : List ℕ) → List ℕ
unscanned_text name None words = codes "cannot read " ++ shown_name name
unscanned_text name (Some cause) words = codes "cannot read " ++ (shown_name name ++ cause_text name cause words)
