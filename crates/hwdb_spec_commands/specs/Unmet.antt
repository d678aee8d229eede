-- What `diff --devices` says of the changes that its devices don't meet: how many of the changed assignments have a pattern that matches none
-- of them, and with `--verbose` which. It is for people, and so on standard error, as what `check --diff` counts. As JSON it is the last line.
-- Our choice.
use Rattle.std.specs.Prelude.{◌++◌, ◌==◌, ◌||◌, ◌∷◌, Bool, List, None, Option, Some, [], codes, false, filter, flat_map, if◌then◌else◌, length, map, not, true, ℕ}
use Rattle.std.specs.Fmt.{decimal}
use Rattle.std.specs.List.{list_any}
use Rattle.json.specs.Json.{Json}
use Rattle.hwdb_spec.specs.Assignment.{Assignment}
use Rattle.hwdb_spec.specs.Explanations.{explained}
use Rattle.hwdb_spec.specs.Folders.{same}
use Rattle.hwdb_spec.specs.Tree.{Tree, answers}
use Rattle.hwdb_spec_commands.specs.ChangeForms.{whole_object}
use Rattle.hwdb_spec_commands.specs.Renamed.{changed_pattern}
use Rattle.hwdb_spec_commands.specs.Differences.{Change, changes_text}
use Rattle.hwdb_spec_commands.specs.Json.{array_of, json_line, number_json, object_of}
use Rattle.hwdb_spec_commands.specs.Reviews.{Review}

-- what a database tells a device, of all keys: each assignment whose pattern matches it, as `explain` has it
abbrev pub told_to : (device : List ℕ) → Tree → List Assignment
told_to device t = flat_map (λ p. p.1) (explained (answers device t))

-- one of some assignments has the pattern
abbrev pub is_pattern_in : List Assignment → (pattern : List ℕ) → Bool
is_pattern_in found pattern = list_any (λ f. same pattern f.position.pattern) found

-- some device meets a pattern: one of the two databases tells it an assignment with that
abbrev pub is_met : (devices : List (List ℕ)) (old new : Tree) → (pattern : List ℕ) → Bool
is_met devices old new pattern = list_any (λ d. is_pattern_in (told_to d old) pattern || is_pattern_in (told_to d new) pattern) devices

-- the changes that none of them meets
abbrev pub unmet : (devices : List (List ℕ)) (old new : Tree) → List Change → List Change
unmet devices old new changes = filter (λ c. not (is_met devices old new (changed_pattern c))) changes

-- ---- what is said

-- one thing, or another number of them
abbrev pub by_number : (one other : List ℕ) → ℕ → List ℕ
by_number one other n = if n == 1 then one else other

-- so many of so many assignments
abbrev pub amount_text : (unmet all : ℕ) → List ℕ
amount_text unmet all = decimal unmet ++ (codes " of " ++ (decimal all ++ by_number (codes " changed assignment") (codes " changed assignments") all))

-- aren't met by so many devices
abbrev pub met_text : (unmet devices : ℕ) → List ℕ
met_text unmet devices =
    by_number (codes " is") (codes " are") unmet ++ by_number (codes " not met by this device\n") (codes " met by none of these devices\n") devices

-- how many changes the devices don't meet, in one line
abbrev pub unmet_line : (unmet all devices : ℕ) → List ℕ
unmet_line unmet all devices = amount_text unmet all ++ met_text unmet devices

-- and which they are
abbrev pub which_text : (verbose : Bool) → List Change → List ℕ
which_text false left = []
which_text true left = changes_text left

-- what is said of those that are left; nothing if none is
abbrev pub left_text : (verbose : Bool) → (all devices : ℕ) → (left : List Change) → List ℕ
left_text verbose all devices [] = []
left_text verbose all devices (c ∷ more) = unmet_line (length (c ∷ more)) all devices ++ which_text verbose (c ∷ more)

-- the changes themselves, as JSON
abbrev pub which_member : (verbose : Bool) → List Change → List (List ℕ × Json)
which_member false left = []
which_member true left = (codes "changes", array_of (map whole_object left)) ∷ []

-- the object of the last line
abbrev pub left_object : (verbose : Bool) → (all : ℕ) → (left : List Change) → Json
left_object verbose all left = object_of ((codes "changed", number_json all) ∷ (codes "unmet", number_json (length left)) ∷ which_member verbose left)

-- what standard error says of the devices, if some are asked for, and of these changes from one database to the other
abbrev pub unmet_said : Review → Option (List (List ℕ)) → (old new : Tree) → List Change → List ℕ
unmet_said r None old new changes = []
unmet_said r (Some devices) old new changes =
    if r.json then [] else left_text r.verbose (length changes) (length devices) (unmet devices old new changes)

-- what standard output says last
abbrev pub unmet_end : Review → Option (List (List ℕ)) → (old new : Tree) → List Change → List ℕ
unmet_end r None old new changes = []
unmet_end r (Some devices) old new changes = if r.json then json_line (left_object r.verbose (length changes) (unmet devices old new changes)) else []
