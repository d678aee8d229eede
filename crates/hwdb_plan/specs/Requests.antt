-- What a command asks, before it is known what standard input is told and which cause sysfs has: each is asked for by name, so that what a
-- plan does with the answer is the same for all commands. Our choice.
use Rattle.std.specs.Prelude.{ℕ, List, [], Option, Result}
use Rattle.hwdb_spec.specs.Folders.{Source}
use Rattle.hwdb_spec_commands.specs.DeviceTree.{Sight}
use Rattle.hwdb_spec_commands.specs.declared.unread.Unread.{Unread}
use Rattle.hwdb_plan.specs.Baseline.{over_baseline}
use Rattle.hwdb_plan.specs.Files.{given_files}
use Rattle.hwdb_plan.specs.Given.{given_at, given_or_asked}
use Rattle.hwdb_plan.specs.GivenFolders.{named_files}
use Rattle.hwdb_plan.specs.OverText.{if_fit}
use Rattle.hwdb_plan.specs.Plans.{Next, Plan}
use Rattle.hwdb_plan.specs.Sides.{side}
use Rattle.hwdb_plan.specs.Sysfs.{place_of, sysfs_of}

-- ---- files and standard input
-- A plan that asks nothing of standard input; or what words name, and what follows that: a file; a database, or none; the baseline of `check`,
-- if there is one; the files that paths mean; the texts of files, some of which are words; or a side of `diff`. If words don't fit, this is
-- said of them, and nothing is asked.
pub data Request : Type 0 where
  Alone : Plan → Request
  AtPath : (path : List ℕ) → Next → Request
  OfBase : (given : Option (List ℕ)) (root : List ℕ) → Next → Request
  Over : (baseline : Option (List ℕ)) → ((known : List (List ℕ)) → Request) → Request
  Meant : (given : List (List ℕ)) → ((paths : List (List ℕ)) → Request) → Request
  Texts : (words paths : List (List ℕ)) → (List Source → Request) → Request
  OfSide : (path : List ℕ) → ((bytes : List ℕ) → Request) → Request
  Fit : (misuse : Option (List ℕ)) → Request → Request

-- its plan, if this is told of standard input
abbrev pub told_plan : (told : Result (List ℕ) Unread) → Request → Plan
told_plan told (Alone p) = p
told_plan told (AtPath path next) = given_at told path next
told_plan told (OfBase given root next) = given_or_asked told given root next
told_plan told (Over baseline next) = over_baseline baseline (λ known. told_plan told (next known))
told_plan told (Meant given next) = named_files given [] (λ paths. told_plan told (next paths))
told_plan told (Texts words paths next) = given_files words told paths (λ sources. told_plan told (next sources))
told_plan told (OfSide path next) = side told path (λ bytes. told_plan told (next bytes))
told_plan told (Fit misuse request) = if_fit misuse (told_plan told request)

-- ---- sysfs
-- A plan that asks nothing of sysfs; or its folder below a root, or the place of the device that a text means, and what follows that. If
-- words don't fit, this is said of them.
pub data Search : Type 0 where
  Found : Plan → Search
  Below : (root : List ℕ) → ((sys : List ℕ) → Search) → Search
  AtPlace : (root given sys : List ℕ) → ((place : List ℕ) → Search) → Search
  Fitting : (misuse : Option (List ℕ)) → Search → Search

-- its plan, by what sysfs shows, the names of the attributes that rules ask for, and the words of the cause if a path can't be read
abbrev pub found_plan : Sight → (names : List (List ℕ)) (cause : List ℕ) → Search → Plan
found_plan sight names cause (Found p) = p
found_plan sight names cause (Below root next) = sysfs_of sight cause root (λ sys. found_plan sight names cause (next sys))
found_plan sight names cause (AtPlace root given sys next) = place_of sight cause names root given sys (λ place. found_plan sight names cause (next place))
found_plan sight names cause (Fitting misuse search) = if_fit misuse (found_plan sight names cause search)

-- ---- commands
-- What a run is told beside its files: of standard input, if a command reads that as a file; what sysfs shows; and the words of the cause
-- if a path of sysfs can't be read.
pub record Around : Type 0 where
  pub input : Result (List ℕ) Unread
  pub sight : Sight
  pub cause : List ℕ

-- a command asks for files, or for devices
pub data Command : Type 0 where
  OfFiles : Request → Command
  OfDevices : Search → Command

-- its plan, by what a run is told, and these names
abbrev pub plan_of : (names : List (List ℕ)) → Around → Command → Plan
plan_of names a (OfFiles request) = told_plan a.input request
plan_of names a (OfDevices search) = found_plan a.sight names a.cause search
