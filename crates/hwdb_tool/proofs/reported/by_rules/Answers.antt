use Rattle.std.proofs.Common.{Bool, List, Option, string_bytes, subst, ℕ}
use Rattle.std.specs.Prelude.{option_map}
use Rattle.hwdb_spec_commands.specs.DeviceAsked.{device_form}
use Rattle.hwdb_spec_commands.specs.SysfsAnswers.{sight_by}
use Rattle.hwdb_spec_rules.specs.declared.forms.RulesForm.{RulesForm}
use Rattle.hwdb_spec_program.specs.DeviceErrors.{asked_names}
use Rattle.hwdb_spec_program.specs.Program.{root_of}
use Rattle.hwdb_plan.specs.Device.{own_plan}
use Rattle.hwdb_plan.specs.Plans.{Follows}
use Rattle.hwdb_plan.specs.Sysfs.{OfCause}
use Rattle.hwdb_tool.specs.Views.{end_of}
use Rattle.hwdb_tool.proofs.reported.by_rules.Goals as goal

pub returns : goal.returns
returns g c = λ tells.
    let w = g.D.System.reads c.args.system.now in
    let sight = sight_by g.D.DeviceFiles.answers c.args.system.now in
    let args = c.args.args.now in
    let result = c.own_device.result in
    let q = c.rules_question.result in
    let named = option_map (λ t. t.now) q.given in
    let Own = λ (r : List ℕ) (f : RulesForm) (u p : Option (List ℕ)) (a o : Bool). OfCause (λ cause. Follows end_of w (own_plan sight cause asked_names r f u p a o) result) in
    let root = root_of c.args.job.now in
    let form : RulesForm = record { why = args.why; form = device_form args.strings args.json args.pattern } in
    let udev = option_map string_bytes args.udev in
    let given = option_map string_bytes args.path in
    let is_from = c.is_given-from.result in
    let named_udev = option_map (λ t. t.now) c.text_of-udev.result in
    subst (λ (o : Bool). Own root form udev given args.all o) c.is_given-from.ensures
    (subst (λ (a : Bool). Own root form udev given a is_from) c.rules_question.ensures.all
    (subst (λ (p : Option (List ℕ)). Own root form udev p q.all is_from) c.rules_question.ensures.given
    (subst (λ (u : Option (List ℕ)). Own root form u named q.all is_from) c.text_of-udev.ensures
    (subst (λ (f : RulesForm). Own root f named_udev named q.all is_from) c.rules_question.ensures.form
    (subst (λ (r : List ℕ). Own r q.form named_udev named q.all is_from) c.rules_question.ensures.root (c.own_device.ensures.follows tells))))))
