-- `device --from`: an export of udev's database in place of sysfs.
use Rattle.std.specs.Prelude.{◌≡◌, ◌⊎◌, Bool, List, [], None, Option, Some, Result, option_map, false, ℕ}
use Rattle.hwdb_exports.specs.Reports.{bytes_of}
use Rattle.hwdb_plan.specs.Files.{OfInput}
use Rattle.hwdb_plan.specs.Device.{device_asked}
use Rattle.hwdb_plan.specs.Given.{given_at}
use Rattle.hwdb_plan.specs.Plans.{Follows}
use Rattle.hwdb_plan.specs.Report as plan
use Rattle.hwdb_plan.specs.Sysfs.{OfCause}
use Rattle.hwdb_spec.specs.declared.errors.ToolError.TheVariants.{Memory}
use Rattle.hwdb_spec_commands.specs.DeviceAsked.{device_form, no_device_text}
use Rattle.hwdb_spec_commands.specs.DeviceFound.{near_given, places_meant}
use Rattle.hwdb_spec_commands.specs.DeviceTree.{Sight}
use Rattle.hwdb_spec_commands.specs.Exports.{export_sight, without_machine}
use Rattle.hwdb_spec_commands.specs.Refusals.{IsInWords}
use Rattle.hwdb_spec_commands.specs.Told.{Reads}
use Rattle.hwdb_spec_commands.specs.declared.args.DeviceArgs.{DeviceArgs}
use Rattle.hwdb_spec_commands.specs.declared.devices.DeviceForm.{DeviceForm}
use Rattle.hwdb_spec_commands.specs.declared.refusals.Refusal.{Refusal}
use Rattle.hwdb_spec_commands.specs.declared.refusals.Refusal.TheVariants.{Plain}
use Rattle.hwdb_spec_program.specs.DeviceErrors.{SaysSeveral, asked_names}
use Rattle.hwdb_spec_rules.specs.declared.forms.RulesForm.{RulesForm}
use Rattle.hwdb_tool.specs.Views.{end_of}
use Rattle.hwdb_tool.specs.declared.answer.Answer.{Answer}
use Rattle.hwdb_tool.specs.declared.reported.Report.{Report}
use Rattle.hwdb_tool.specs.declared.reported.DeviceQuestion.{DeviceQuestion}

-- what an export shows, what is said of what it lacks, and the root of the database
abbrev pub report_of : (root : List ℕ) → Report → plan.Report
report_of root r = record {
  sight = export_sight (bytes_of r.export);
  lacks = without_machine r.path.now (bytes_of r.export);
  names = asked_names;
  root = root;
}

-- the path or name of the device that is asked for
abbrev pub given_in : DeviceQuestion → Option (List ℕ)
given_in w = option_map (λ t. t.now) w.given

-- whose rules count
abbrev pub udev_in : DeviceQuestion → Option (List ℕ)
udev_in w = option_map (λ t. t.now) w.udev

-- no device of an export is meant, or several, or there is no memory
abbrev pub IsUnfoundIn : (sys given : List ℕ) → Sight → Refusal → Type 0
IsUnfoundIn sys given sight r =
    (r ≡ Plain Memory)
    ⊎ (((places_meant sight asked_names [] sys given ≡ []) × IsInWords (no_device_text false given [] (near_given sight asked_names sys given)) r)
    ⊎ SaysSeveral [] sys given sight r)

-- A result follows the plan of what is asked for, over sysfs or over an export, if one is named. Asked for are the root of the database, the
-- form, by whose rules, whether all devices are, and which one.
abbrev pub FollowsFrom : (from : Option (List ℕ)) (root : List ℕ) → DeviceForm → (udev : Option (List ℕ)) (all : Bool) (given : Option (List ℕ)) → Sight → Reads → (input : Option (List ℕ)) (failures_before failures_now : ℕ)
    → Result Answer Refusal → Type 0
FollowsFrom None root form udev all given sight w input before now result = OfCause (λ cause. Follows end_of w (device_asked sight cause asked_names root form udev all given) result)
FollowsFrom (Some from) root form udev all given sight w input before now result =
    OfInput input before now (λ told. Follows end_of w (given_at told from (plan.report_answer asked_names root form all given)) result)

-- what the words ask of the machine's own rules
abbrev pub rules_asked : DeviceArgs → RulesForm
rules_asked a = record { why = a.why; form = device_form a.strings a.json a.pattern }
