-- The rows, computed.
use Rattle.clap.specs.Faults.{defaults_fault, flags_fault, walk_fault}
use Rattle.clap.specs.Walk.{bundle_met, walked}
use Rattle.hex.specs.Hex.{encode_with}
use Rattle.hwdb_spec.specs.Lines.{pieces}
use Rattle.hwdb_spec.specs.Visible.{visible_after}
use Rattle.hwdb_spec_commands.specs.DeviceTree.{last_after}
use Rattle.hwdb_laws.specs.PlanRows.{AfterRows, BaselineRows, BesidesRows, CheckRows, DeviceRows, DiffRows, FreshRows, InputRows, KeysRows, ListRows, MisuseRows, NamedRows, NearRows, NoneRows, QueryRows, RecordRows, ScanRows, StatusRows, SysfsRows, TextRows, NoUpdateRows, UpdateRows}
use Rattle.hwdb_plan.specs.Files.{read_files}
use Rattle.hwdb_plan.specs.OverText.{said_after}
use Rattle.std.specs.Char.{encode_utf8}
use Rattle.std.specs.Fmt.{digits}
use Rattle.std.specs.Str.{chars, is_utf8}
use Rattle.std.proofs.Common.{refl}

pub query_rows : QueryRows
unfolding pieces visible_after is_utf8 chars encode_utf8 encode_with digits bundle_met walked flags_fault walk_fault defaults_fault last_after
query_rows = λ a. refl

pub list_rows : ListRows
unfolding pieces visible_after is_utf8 chars encode_utf8 encode_with digits bundle_met walked flags_fault walk_fault defaults_fault last_after
list_rows = λ a. refl

pub near_rows : NearRows
unfolding pieces visible_after is_utf8 chars encode_utf8 encode_with digits bundle_met walked flags_fault walk_fault defaults_fault last_after
near_rows = λ a. refl

pub device_rows : DeviceRows
unfolding pieces visible_after is_utf8 chars encode_utf8 encode_with digits bundle_met walked flags_fault walk_fault defaults_fault last_after
device_rows = λ a. refl

pub named_rows : NamedRows
unfolding pieces visible_after is_utf8 chars encode_utf8 encode_with digits bundle_met walked flags_fault walk_fault defaults_fault last_after
named_rows = λ a. refl

pub record_rows : RecordRows
unfolding pieces visible_after is_utf8 chars encode_utf8 encode_with digits bundle_met walked flags_fault walk_fault defaults_fault last_after read_files
record_rows = λ a. refl

pub check_rows : CheckRows
unfolding pieces visible_after is_utf8 chars encode_utf8 encode_with digits bundle_met walked flags_fault walk_fault defaults_fault last_after
check_rows = λ a. refl

pub baseline_rows : BaselineRows
unfolding pieces visible_after is_utf8 chars encode_utf8 encode_with digits bundle_met walked flags_fault walk_fault defaults_fault last_after
baseline_rows = λ a. refl

pub diff_rows : DiffRows
unfolding pieces visible_after is_utf8 chars encode_utf8 encode_with digits bundle_met walked flags_fault walk_fault defaults_fault last_after
diff_rows = λ a. refl

pub fresh_rows : FreshRows
unfolding pieces visible_after is_utf8 chars encode_utf8 encode_with digits bundle_met walked flags_fault walk_fault defaults_fault last_after
fresh_rows = λ a. refl

pub keys_rows : KeysRows
unfolding pieces visible_after is_utf8 chars encode_utf8 encode_with digits bundle_met walked flags_fault walk_fault defaults_fault last_after
keys_rows = λ a. refl

pub scan_rows : ScanRows
unfolding pieces visible_after is_utf8 chars encode_utf8 encode_with digits bundle_met walked flags_fault walk_fault defaults_fault last_after
scan_rows = λ a. refl

pub none_rows : NoneRows
unfolding pieces visible_after is_utf8 chars encode_utf8 encode_with digits bundle_met walked flags_fault walk_fault defaults_fault last_after
none_rows = λ a. refl

pub text_rows : TextRows
unfolding pieces visible_after is_utf8 chars encode_utf8 encode_with digits bundle_met walked flags_fault walk_fault defaults_fault last_after
text_rows = λ a. refl

pub misuse_rows : MisuseRows
unfolding pieces visible_after is_utf8 chars encode_utf8 encode_with digits bundle_met walked flags_fault walk_fault defaults_fault last_after
misuse_rows = λ a. refl

pub besides_rows : BesidesRows
unfolding pieces visible_after is_utf8 chars encode_utf8 encode_with digits bundle_met walked flags_fault walk_fault defaults_fault last_after
besides_rows = λ a. refl

pub after_rows : AfterRows
unfolding pieces visible_after is_utf8 chars encode_utf8 said_after
after_rows = refl

pub update_rows : UpdateRows
unfolding pieces visible_after is_utf8 chars encode_utf8 encode_with digits bundle_met walked flags_fault walk_fault defaults_fault last_after
update_rows = refl

pub no_update_rows : NoUpdateRows
unfolding pieces visible_after is_utf8 chars encode_utf8 encode_with digits bundle_met walked flags_fault walk_fault defaults_fault last_after
no_update_rows = refl

pub status_rows : StatusRows
unfolding pieces visible_after is_utf8 chars encode_utf8 encode_with digits bundle_met walked flags_fault walk_fault defaults_fault last_after
status_rows = refl

pub input_rows : InputRows
unfolding pieces visible_after is_utf8 chars encode_utf8 encode_with digits bundle_met walked flags_fault walk_fault defaults_fault last_after
input_rows = λ sight cause. refl

pub sysfs_rows : SysfsRows
unfolding pieces visible_after is_utf8 chars encode_utf8 encode_with digits bundle_met walked flags_fault walk_fault defaults_fault last_after
sysfs_rows = refl
