-- The plan of `device --from`: what an export of udev's database tells stands in for sysfs. Our choice.
use Rattle.std.specs.Prelude.{◌++◌, ℕ, Bool, true, false, List, [], None, Option, Some, codes, if◌then◌else◌}
use Rattle.hwdb_spec_commands.specs.AllStrings.{all_strings_text, unread_lines}
use Rattle.hwdb_spec_commands.specs.DeviceAsked.{device_list, no_device_text}
use Rattle.hwdb_spec_commands.specs.DeviceFound.{near_given}
use Rattle.hwdb_spec_commands.specs.DeviceTexts.{device_text}
use Rattle.hwdb_spec_commands.specs.DeviceTree.{Sight, device_at}
use Rattle.hwdb_spec_commands.specs.Exports.{export_sight, is_export, no_export_text, without_machine}
use Rattle.hwdb_spec_commands.specs.declared.devices.DeviceForm.{DeviceForm}
use Rattle.hwdb_plan.specs.Asking.{asked}
use Rattle.hwdb_plan.specs.Device.{all_misuse}
use Rattle.hwdb_plan.specs.Dump.{bad_database}
use Rattle.hwdb_plan.specs.OverText.{if_fit}
use Rattle.hwdb_plan.specs.Plans.{Next, Plan}
use Rattle.hwdb_plan.specs.Plans.End.{Answers}
use Rattle.hwdb_plan.specs.Plans.Plan.{Decode, Done}
use Rattle.hwdb_plan.specs.Sysfs.{meant_of, says}

-- where an export has sysfs
abbrev pub sys : List ℕ
sys = codes "/sys"

-- what an export shows, what is said of what it lacks, the names of the attributes that rules ask for, and the root of the database
pub record Report : Type 0 where
  pub sight : Sight
  pub lacks : List ℕ
  pub names : List (List ℕ)
  pub root : List ℕ

-- what the database gives the device at a place
abbrev pub found_answer : Report → DeviceForm → (place : List ℕ) → Next
found_answer r form place path bytes =
    Decode bytes (bad_database path) (λ t. Done (Answers 0 r.lacks (device_text form (device_at r.sight r.names sys place) t)))

-- the error if no device is meant: what is near
abbrev pub none_found : Report → (given : List ℕ) → Plan
none_found r given = says (no_device_text false given [] (near_given r.sight r.names sys given))

-- the device that is meant, over the database that is asked; several are an error, and so is none
abbrev pub found_device : Report → DeviceForm → (given : List ℕ) → Plan
found_device r form given = meant_of r.sight r.names [] given sys (none_found r given) (λ place. asked r.root (found_answer r form place))

-- a line for each device
abbrev pub found_devices : Report → Plan
found_devices r = Done (Answers 0 r.lacks (device_list r.sight r.names sys))

-- that one, or if none is given all
abbrev pub found_given : Report → DeviceForm → (given : Option (List ℕ)) → Plan
found_given r form None = found_devices r
found_given r form (Some given) = found_device r form given

-- the strings of all devices
abbrev pub found_strings : Report → Next
found_strings r path bytes =
    Decode bytes (bad_database path) (λ t. Done (Answers 0 (r.lacks ++ unread_lines r.sight sys) (all_strings_text r.sight r.names sys t)))

-- those with `--all`; and else one device or the list
abbrev pub found_asked : Report → DeviceForm → (all : Bool) (given : Option (List ℕ)) → Plan
found_asked r form true given = if_fit (all_misuse form given) (asked r.root (found_strings r))
found_asked r form false given = found_given r form given

-- what bytes of a file are asked for, if they are an export; else the error says how one is made
abbrev pub report_answer : (names : List (List ℕ)) (root : List ℕ) → DeviceForm → (all : Bool) (given : Option (List ℕ)) → Next
report_answer names root form all given path bytes =
    if is_export bytes
    then found_asked (record { sight = export_sight bytes; lacks = without_machine path bytes; names = names; root = root }) form all given
    else says (no_export_text path)
