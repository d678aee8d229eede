-- What a path of sysfs means, as the front of a plan. What sysfs shows is an argument of it, as what standard input is told is one of others.
-- So are the names of the attributes that rules ask for, and the words of the cause if a path can't be read: no definition says these. Our
-- choice.
use Rattle.std.specs.Option.{option_map_or}
use Rattle.std.specs.Prelude.{◌++◌, ◌∷◌, ℕ, List, [], codes}
use Rattle.hwdb_spec.specs.Failures.{IsOneLine}
use Rattle.hwdb_spec_commands.specs.DeviceAsked.{missing_text, no_sysfs_text, unread_text}
use Rattle.hwdb_spec_commands.specs.DeviceFound.{places_meant, several_text}
use Rattle.hwdb_spec_commands.specs.DeviceTree.{Sight, unread_for}
use Rattle.hwdb_spec_commands.specs.Told.Stop.{Says}
use Rattle.hwdb_plan.specs.Plans.{Plan}
use Rattle.hwdb_plan.specs.Plans.End.{Stops}
use Rattle.hwdb_plan.specs.Plans.Plan.{Done}

-- so of some words of a cause, in one line
abbrev pub OfCause : (Is : (cause : List ℕ) → Type 0) → Type 0
OfCause Is = (cause : List ℕ) × IsOneLine cause × Is cause

-- the end in an error of these words
abbrev pub says : (text : List ℕ) → Plan
says text = Done (Stops (Says text))

-- what follows the place of a folder of sysfs, or the error that its path leads nowhere
abbrev pub folder_of : Sight → (cause path : List ℕ) → ((place : List ℕ) → Plan) → Plan
folder_of sight cause path next = option_map_or next (sight.place path) (says (no_sysfs_text path cause))

-- that of sysfs below a root, if its folder of devices is there
abbrev pub sysfs_of : Sight → (cause root : List ℕ) → ((sys : List ℕ) → Plan) → Plan
sysfs_of sight cause root next =
    folder_of sight cause (root ++ codes "/sys") (λ sys. folder_of sight cause (sys ++ codes "/devices") (λ devices. next sys))

-- what follows the only one of some places, what is said of several, or what follows if there is none
abbrev pub one_of : (next : (place : List ℕ) → Plan) (several : (places : List (List ℕ)) → Plan) (none : Plan) → List (List ℕ) → Plan
one_of next several none [] = none
one_of next several none (place ∷ []) = next place
one_of next several none (place ∷ other ∷ more) = several (place ∷ other ∷ more)

-- what follows the place of the device that is meant, or what follows if none is; if several are, the error lists them
abbrev pub meant_of : Sight → (names : List (List ℕ)) (root given sys : List ℕ) → (none : Plan) → ((place : List ℕ) → Plan) → Plan
meant_of sight names root given sys none next =
    one_of next (λ places. says (several_text sight names sys given places)) none (places_meant sight names root sys given)

-- the error if no device is meant: what can't be read first that would tell of one, or that none is there
abbrev pub none_there : Sight → (cause : List ℕ) (names : List (List ℕ)) (root given sys : List ℕ) → Plan
none_there sight cause names root given sys =
    option_map_or (λ path. says (unread_text path cause)) (unread_for sight root sys given) (says (missing_text sight names root sys given cause))

-- what follows the place of the device that is meant; none is an error, too
abbrev pub place_of : Sight → (cause : List ℕ) (names : List (List ℕ)) (root given sys : List ℕ) → ((place : List ℕ) → Plan) → Plan
place_of sight cause names root given sys next = meant_of sight names root given sys (none_there sight cause names root given sys) next
