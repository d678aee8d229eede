use Rattle.std.proofs.Common.{Bor, List, None, Option, subst, sym, ℕ}
use Rattle.std.specs.Prelude.{option_map}
use Rattle.hwdb_spec.specs.Lines.{is, pieces}
use Rattle.hwdb_spec_commands.specs.DeviceTree.{device_at}
use Rattle.hwdb_spec_commands.specs.SysfsAnswers.{sight_by}
use Rattle.hwdb_spec_program.specs.DeviceErrors.{asked_names}
use Rattle.hwdb_plan.specs.Asking.{asked}
use Rattle.hwdb_plan.specs.Device.{by_built_in, device_answer, strings_answer}
use Rattle.hwdb_plan.specs.Plans.{Follows}
use Rattle.hwdb_tool.specs.Views.{end_of}
use Rattle.hwdb_tool.proofs.device_command.by_built_in.Goals as goal

pub returns-in-Some-clause-follows : goal.returns-in-Some-clause-follows
returns-in-Some-clause-follows g c = λ tells.
    let below = c.args.below.now in
    let s = below.system.now in
    let w = g.D.System.reads s in
    let sight = sight_by g.D.DeviceFiles.answers s in
    let sysfs = c.for_rules-sysfs.result in
    let result = c.device_shown.result in
    let root = below.root.now in
    let form = c.args.form in
    let place = c.in-Some.place.now in
    subst (λ (o : Option (Bor (List ℕ))). Follows end_of w (by_built_in sight asked_names root form below.sys.now (option_map (λ p. p.now) o)) result) (sym c.in-Some.is)
    (subst (λ (f : List ℕ). Follows end_of w (asked root (device_answer form (device_at sight asked_names f place))) result) c.for_rules-sysfs.ensures.folder
    (subst (λ (n : List (List ℕ)). Follows end_of w (asked root (device_answer form (device_at sight n sysfs.folder.now place))) result) c.for_rules-sysfs.ensures.names
    (subst (λ t. Follows end_of (g.D.System.reads t) (asked root (device_answer form (device_at (sight_by g.D.DeviceFiles.answers t) (pieces (is 10) sysfs.names.now) sysfs.folder.now place))) result)
    c.for_rules-sysfs.ensures.files (c.device_shown.ensures.follows tells))))

pub returns-in-None-clause-follows : goal.returns-in-None-clause-follows
returns-in-None-clause-follows g c = λ tells.
    let below = c.args.below.now in
    let s = below.system.now in
    let w = g.D.System.reads s in
    let sight = sight_by g.D.DeviceFiles.answers s in
    let sysfs = c.for_rules-sysfs.result in
    let result = c.strings_shown.result in
    let root = below.root.now in
    subst (λ (o : Option (Bor (List ℕ))). Follows end_of w (by_built_in sight asked_names root c.args.form below.sys.now (option_map (λ p. p.now) o)) result) (sym c.in-None.is)
    (subst (λ (f : List ℕ). Follows end_of w (asked root (strings_answer sight None asked_names f)) result) c.for_rules-sysfs.ensures.folder
    (subst (λ (n : List (List ℕ)). Follows end_of w (asked root (strings_answer sight None n sysfs.folder.now)) result) c.for_rules-sysfs.ensures.names
    (subst (λ t. Follows end_of (g.D.System.reads t) (asked root (strings_answer (sight_by g.D.DeviceFiles.answers t) None (pieces (is 10) sysfs.names.now) sysfs.folder.now)) result) c.for_rules-sysfs.ensures.files
    (c.strings_shown.ensures.follows tells))))
