-- The command line of hwdb, as the command that `clap` is given: `update` and `query` of systemd-hwdb(8), and commands of our own.
-- `clap` adds the options for help and the version, and the command `help`.
use Rattle.std.specs.Prelude.{Some, codes, true}
use Rattle.clap.specs.Walk.{Rule, Text}
use Rattle.clap.specs.declared.builder.action.ArgAction.TheVariants.{SetTrue, Set, Append}
use Rattle.clap.specs.Simple.{new_rule, App, with_rule, new_app, Shape, on_top, with_subcommand}
use Rattle.clap.specs.declared.builder.value_parser.ValueParser.TheVariants as vp

-- `--usr`
abbrev pub usr_rule : Rule
usr_rule = record (new_rule (codes "usr")) { long = Some (codes "usr"); action = Some SetTrue }

-- `-s`, `--strict`
abbrev pub strict_rule : Rule
strict_rule = record (new_rule (codes "strict")) { short = Some 115; long = Some (codes "strict"); action = Some SetTrue }

-- `-r`, `--root`, with a value
abbrev pub root_rule : Rule
root_rule = record (new_rule (codes "root")) { value_names = 1; short = Some 114; long = Some (codes "root"); action = Some Set }

-- `--color`, with a value
abbrev pub color_rule : Rule
color_rule = record (new_rule (codes "color")) { value_names = 1; long = Some (codes "color"); action = Some Set }

-- a device
abbrev pub device_rule : Rule
device_rule = record (new_rule (codes "MODALIAS")) { required = true; action = Some Set }

-- devices, one or more
abbrev pub devices_rule : Rule
devices_rule = record (new_rule (codes "MODALIAS")) { required = true; action = Some Append }

-- a file
abbrev pub file_rule : Rule
file_rule = record (new_rule (codes "FILE")) { required = true; action = Some Set }

-- files, or none
abbrev pub files_rule : Rule
files_rule = record (new_rule (codes "FILE")) { action = Some Append }

-- the old side
abbrev pub old_database_rule : Rule
old_database_rule = record (new_rule (codes "OLD")) { required = true; action = Some Set }

-- the new side
abbrev pub new_database_rule : Rule
new_database_rule = record (new_rule (codes "NEW")) { required = true; action = Some Set }

-- test files, or with `--record` devices, one or more
abbrev pub test_files_rule : Rule
test_files_rule = record (new_rule (codes "FILE")) { required = true; action = Some Append }

-- the database that is asked in place of that of both folders
abbrev pub database_option_rule : Rule
database_option_rule = record (new_rule (codes "database")) { value_names = 1; long = Some (codes "database"); action = Some Set }

-- `--record`
abbrev pub record_rule : Rule
record_rule = record (new_rule (codes "record")) { long = Some (codes "record"); action = Some SetTrue }

-- files that name devices, or none
abbrev pub devices_option_rule : Rule
devices_option_rule = record (new_rule (codes "devices")) { value_names = 1; long = Some (codes "devices"); action = Some Append }

-- an option with a value that may come more than once, as its name
abbrev pub values_rule : (name : Text) → Rule
values_rule name = record (new_rule name) { value_names = 1; long = Some name; action = Some Append }

-- a database, or none
abbrev pub database_rule : Rule
database_rule = record (new_rule (codes "DATABASE")) { action = Some Set }

-- `--after`, with a value
abbrev pub after_rule : Rule
after_rule = record (new_rule (codes "after")) { value_names = 1; long = Some (codes "after"); action = Some Set }

-- `--limit`, with a number of 64 bits
abbrev pub limit_rule : Rule
limit_rule = record (new_rule (codes "limit")) { value_names = 1; long = Some (codes "limit"); action = Some Set; parser = Some (vp.Unsigned 0 18446744073709551615) }

-- `--verbose`
abbrev pub verbose_rule : Rule
verbose_rule = record (new_rule (codes "verbose")) { long = Some (codes "verbose"); action = Some SetTrue }

-- `--skip-unreadable`
abbrev pub skip_rule : Rule
skip_rule = record (new_rule (codes "skip-unreadable")) { long = Some (codes "skip-unreadable"); action = Some SetTrue }

-- `--check`
abbrev pub check_rule : Rule
check_rule = record (new_rule (codes "check")) { long = Some (codes "check"); action = Some SetTrue }

-- kinds of warnings, or none
abbrev pub allow_rule : Rule
allow_rule = record (new_rule (codes "allow")) { value_names = 1; long = Some (codes "allow"); action = Some Append }

-- `--format`, with a word
abbrev pub format_rule : Rule
format_rule = record (new_rule (codes "format")) { value_names = 1; long = Some (codes "format"); action = Some Set }

-- `--diff`
abbrev pub diff_rule : Rule
diff_rule = record (new_rule (codes "diff")) { long = Some (codes "diff"); action = Some SetTrue }

-- `--samples`
abbrev pub samples_rule : Rule
samples_rule = record (new_rule (codes "samples")) { long = Some (codes "samples"); action = Some SetTrue }

-- `--baseline`, with a path
abbrev pub baseline_rule : Rule
baseline_rule = record (new_rule (codes "baseline")) { value_names = 1; long = Some (codes "baseline"); action = Some Set }

-- `--name`, with a path
abbrev pub name_rule : Rule
name_rule = record (new_rule (codes "name")) { value_names = 1; long = Some (codes "name"); action = Some Set }

-- `--rules`
abbrev pub rules_rule : Rule
rules_rule = record (new_rule (codes "rules")) { long = Some (codes "rules"); action = Some SetTrue }

-- `--json`
abbrev pub json_rule : Rule
json_rule = record (new_rule (codes "json")) { long = Some (codes "json"); action = Some SetTrue }

-- `--stat`
abbrev pub stat_rule : Rule
stat_rule = record (new_rule (codes "stat")) { long = Some (codes "stat"); action = Some SetTrue }

-- `--text`
abbrev pub text_rule : Rule
text_rule = record (new_rule (codes "text")) { long = Some (codes "text"); action = Some SetTrue }

-- a database that was replaced is read anew
abbrev pub reload_rule : Rule
reload_rule = record (new_rule (codes "reload")) { long = Some (codes "reload"); action = Some SetTrue }

-- `--strings`
abbrev pub strings_rule : Rule
strings_rule = record (new_rule (codes "strings")) { long = Some (codes "strings"); action = Some SetTrue }

-- `--pattern`
abbrev pub pattern_rule : Rule
pattern_rule = record (new_rule (codes "pattern")) { long = Some (codes "pattern"); action = Some SetTrue }

-- `--all`
abbrev pub all_rule : Rule
all_rule = record (new_rule (codes "all")) { long = Some (codes "all"); action = Some SetTrue }

-- `--from`, with a path
abbrev pub from_rule : Rule
from_rule = record (new_rule (codes "from")) { value_names = 1; long = Some (codes "from"); action = Some Set }

-- `--udev`
abbrev pub udev_rule : Rule
udev_rule = record (new_rule (codes "udev")) { value_names = 1; long = Some (codes "udev"); action = Some Set }

-- `--why`
abbrev pub why_rule : Rule
why_rule = record (new_rule (codes "why")) { long = Some (codes "why"); action = Some SetTrue }

-- a device's path or name, or none
abbrev pub path_rule : Rule
path_rule = record (new_rule (codes "DEVICE")) { action = Some Set }

-- words of a key's name, or none
abbrev pub words_rule : Rule
words_rule = record (new_rule (codes "WORD")) { action = Some Append }

-- a device's node
abbrev pub node_rule : Rule
node_rule = record (new_rule (codes "DEVICE")) { required = true; action = Some Set }

-- `--count`, with a number of 64 bits
abbrev pub count_rule : Rule
count_rule = record (new_rule (codes "count")) { value_names = 1; long = Some (codes "count"); action = Some Set; parser = Some (vp.Unsigned 0 18446744073709551615) }

-- the options that come before or after the command's word
abbrev pub with_shared : App → App
with_shared a = with_rule (with_rule (with_rule (with_rule a usr_rule) strict_rule) root_rule) color_rule

-- the options that say which hits are listed
abbrev pub with_range : App → App
with_range a = with_rule (with_rule a after_rule) limit_rule

-- `update`
abbrev pub update_app : App
update_app = with_rule (with_rule (with_rule (with_shared (new_app (codes "update"))) verbose_rule) skip_rule) check_rule

-- `query`
abbrev pub query_app : App
query_app = with_rule (with_rule (with_rule (with_rule (with_shared (new_app (codes "query"))) text_rule) reload_rule) json_rule) devices_rule

-- `explain`
abbrev pub explain_app : App
explain_app = with_rule (with_rule (with_rule (with_shared (new_app (codes "explain"))) text_rule) json_rule) device_rule

-- `ask`
abbrev pub ask_app : App
ask_app = with_rule (with_rule (with_shared (new_app (codes "ask"))) file_rule) device_rule

-- `list`
abbrev pub list_app : App
list_app = with_rule (with_rule (with_rule (with_range (with_shared (new_app (codes "list")))) text_rule) json_rule) device_rule

-- its last word is the device, and those before it are files
abbrev pub near_app : App
near_app = with_rule (with_rule (with_rule (with_rule (with_shared (new_app (codes "near"))) limit_rule) text_rule) json_rule) devices_rule

-- where a device is looked for, and whose rules count
abbrev pub with_sources : App → App
with_sources a = with_rule (with_rule a from_rule) udev_rule

-- `device`
abbrev pub device_app : App
device_app =
    with_rule (with_rule (with_rule (with_rule (with_rule (with_rule (with_rule (with_sources (with_shared (new_app (codes "device")))) why_rule) text_rule) strings_rule) json_rule) pattern_rule) all_rule)
    path_rule

-- `check`
abbrev pub check_app : App
check_app =
    with_rule (with_rule (with_rule (with_rule (with_rule (with_rule (with_rule (with_rule (with_shared (new_app (codes "check"))) rules_rule) allow_rule) baseline_rule) name_rule) diff_rule) format_rule) json_rule)
    files_rule

-- `test`
abbrev pub test_app : App
test_app =
    with_rule (with_rule (with_rule (with_rule (with_rule (with_shared (new_app (codes "test"))) record_rule) database_option_rule) text_rule) json_rule) test_files_rule

-- the options of `diff` that say which changes count
abbrev pub with_choice : App → App
with_choice app = with_rule (with_rule (with_rule app (values_rule (codes "only"))) (values_rule (codes "not"))) (values_rule (codes "prefix"))

-- and how they are told
abbrev pub with_review : App → App
with_review app = with_rule (with_rule (with_rule (with_choice (with_rule app verbose_rule)) stat_rule) format_rule) json_rule

-- `diff`
abbrev pub diff_app : App
diff_app =
    with_rule (with_rule (with_review (with_rule (with_rule (with_shared (new_app (codes "diff"))) devices_option_rule) samples_rule)) old_database_rule) new_database_rule

-- `verify`
abbrev pub verify_app : App
verify_app = with_rule (with_rule (with_shared (new_app (codes "verify"))) text_rule) database_rule

-- `dump`
abbrev pub dump_app : App
dump_app = with_rule (with_rule (with_shared (new_app (codes "dump"))) text_rule) database_rule

-- `status`
abbrev pub status_app : App
status_app = with_rule (with_shared (new_app (codes "status"))) json_rule

-- `keys`
abbrev pub keys_app : App
keys_app = with_rule (with_rule (with_shared (new_app (codes "keys"))) json_rule) words_rule

-- `scan`
abbrev pub scan_app : App
scan_app = with_rule (with_rule (with_shared (new_app (codes "scan"))) count_rule) node_rule

-- the program's own options
abbrev pub top_app : App
top_app = on_top (λ (s : Shape). record s { has_version = true; subcommand_required = true }) (with_shared (new_app (codes "hwdb")))

-- the six commands that say what a device is told, or almost
abbrev pub with_answers : App → App
with_answers app = with_subcommand (with_subcommand (with_subcommand (with_subcommand (with_subcommand (with_subcommand app query_app.top) explain_app.top) ask_app.top) list_app.top) near_app.top) device_app.top

-- the six commands that look at files and databases
abbrev pub with_inspections : App → App
with_inspections app = with_subcommand (with_subcommand (with_subcommand (with_subcommand (with_subcommand (with_subcommand app check_app.top) test_app.top) diff_app.top) verify_app.top) dump_app.top) status_app.top

-- the command line: the program and its commands
abbrev pub hwdb_app : App
hwdb_app = with_subcommand (with_subcommand (with_inspections (with_answers (with_subcommand top_app update_app.top))) keys_app.top) scan_app.top
