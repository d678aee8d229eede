-- What a file system answers of devices, and what is made of that. What can't be told is as if it weren't there, as udev takes it
-- (sd-device).
use Rattle.std.specs.Prelude.{◌≡◌, ◌⊎◌, ℕ, List, [], Bool, true, Option, Some, None, Result, Ok, Err, MatchResult, codes, false, filter, not, pos, ◌∷◌, if◌then◌else◌}
use Rattle.std.specs.List.{list_any}
use Rattle.std.specs.Ordering.{int_eq}
use Rattle.std.specs.Option.{option_map_or}
use Rattle.hwdb_spec.specs.Folders.{same}
use Rattle.hwdb_spec.specs.Lines.{is, pieces}
use Rattle.hwdb_spec_commands.specs.DeviceTree.{Node, Sight}
use Rattle.hwdb_spec.specs.declared.causes.Cause.{Cause}
use Rattle.hwdb_spec.specs.declared.causes.Cause.TheVariants.{Memory, System, Unknown}

-- The answers of a file system: the path without links of what a path leads to (realpath(3)), and the node at a place.
-- Whether a regular file is there, and the bytes of a small file. The names in a folder, each with byte 0 after it.
pub record Answers : Type 0 where
  pub real : (path : List ℕ) → Result (List ℕ) Cause
  pub node : (place : List ℕ) → Result (Option Node) Cause
  pub file : (place : List ℕ) → Result Bool Cause
  pub page : (place : List ℕ) → Result (List ℕ) Cause
  pub listing : (place : List ℕ) → Result (List ℕ) Cause

-- a call told the answer, or had no memory for it
abbrev pub IsTold : {X Y : Type 0} (value : Y → X) (answer : Result X Cause) → Result Y Cause → Type 0
IsTold value answer result = MatchResult result (λ y. answer ≡ Ok (value y)) (λ cause. (cause ≡ Memory) ⊎ (answer ≡ Err cause))

-- an answer, if there is one
abbrev pub told : {X : Type 0} → Result X Cause → Option X
told (Ok x) = Some x
told (Err cause) = None

-- the bytes of a regular file: nothing else is opened
abbrev pub text_if : Result Bool Cause → Result (List ℕ) Cause → Option (List ℕ)
text_if (Ok true) page = told page
text_if file page = None

-- the node, if one is there
abbrev pub node_if : Result (Option Node) Cause → Option Node
node_if (Ok node) = node
node_if (Err cause) = None

-- a name that leads on from a folder: neither `.`, the folder itself, nor `..`, the one above it (path_resolution(7))
abbrev pub leads_on : List ℕ → Bool
leads_on name = if same name (codes ".") then false else not (same name (codes ".."))

-- An error that says that a path leads nowhere: no such name, no folder on the way, a name too long, a loop of links. The numbers
-- are those of ENOENT, ENOTDIR, ENAMETOOLONG and ELOOP on Linux (path_resolution(7)).
abbrev pub is_nowhere : Cause → Bool
is_nowhere (System number) = list_any (int_eq number) (pos 2 ∷ pos 20 ∷ pos 36 ∷ pos 40 ∷ [])
is_nowhere cause = false

-- whether an answer isn't told, though something may be there
abbrev pub is_untold : {X : Type 0} → Result X Cause → Bool
is_untold (Ok x) = false
is_untold (Err cause) = not (is_nowhere cause)

-- whether the bytes of a regular file aren't told, or not whether one is there
abbrev pub is_closed : Result Bool Cause → Result (List ℕ) Cause → Bool
is_closed (Ok true) page = is_untold page
is_closed file page = is_untold file

-- one of the calls that read what a path leads to failed for this cause
abbrev pub IsUnreadFor : Answers → (path : List ℕ) → Cause → Type 0
IsUnreadFor a path cause = (a.real path ≡ Err cause) ⊎ ((a.file path ≡ Err cause) ⊎ (a.page path ≡ Err cause))

-- the names in a listing
abbrev pub names_listed : List ℕ → List (List ℕ)
names_listed listing = filter leads_on (pieces (is 0) listing)

-- the answers of a file system that has no sysfs: no path leads anywhere
abbrev pub nothing_there : Answers
nothing_there = record {
  real = λ path. Err (System (pos 2));
  node = λ place. Err Unknown;
  file = λ place. Err Unknown;
  page = λ place. Err Unknown;
  listing = λ place. Err Unknown;
}

-- what is seen of devices
abbrev pub seen : Answers → Sight
seen a = record {
  place = λ path. told (a.real path);
  text = λ place. text_if (a.file place) (a.page place);
  names = λ place. option_map_or names_listed (told (a.listing place)) [];
  node = λ place. node_if (a.node place);
  lost = λ path. is_untold (a.real path);
  closed = λ place. is_closed (a.file place) (a.page place);
}

-- the same, by what tells the answers
abbrev pub sight_by : {D : Type 0} (answers : D → Answers) → D → Sight
sight_by answers d = seen (answers d)
