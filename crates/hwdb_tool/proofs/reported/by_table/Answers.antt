use Rattle.std.proofs.Common.{◌≡◌, false, Bool, List, Option, string_bytes, subst, sym, ℕ}
use Rattle.std.specs.Prelude.{option_map}
use Rattle.hwdb_spec_commands.specs.DeviceAsked.{device_form}
use Rattle.hwdb_spec_commands.specs.SysfsAnswers.{sight_by}
use Rattle.hwdb_spec_commands.specs.declared.devices.DeviceForm.{DeviceForm}
use Rattle.hwdb_spec_program.specs.GivenDatabases.{names_input}
use Rattle.hwdb_spec_program.specs.Program.{root_of}
use Rattle.hwdb_tool.specs.Reported.{FollowsFrom, given_in, udev_in}
use Rattle.hwdb_tool.proofs.reported.by_table.Goals as goal

pub returns-clause-unread : goal.returns-clause-unread
returns-clause-unread g c = λ none. c.devices_from.ensures.unread (subst (λ d. names_input d ≡ false) (sym c.text_of-named.ensures) none)

pub returns-clause-follows : goal.returns-clause-follows
returns-clause-follows g c = λ tells.
    let w = g.D.System.reads c.args.system.now in
    let sight = sight_by g.D.DeviceFiles.answers c.args.system.now in
    let args = c.args.args.now in
    let result = c.devices_from.result in
    let q = c.question_of.result in
    let before = c.args.input.now in
    let after = c.devices_from.new.input in
    let From = λ (n : Option (List ℕ)) (r : List ℕ) (f : DeviceForm) (u : Option (List ℕ)) (a : Bool) (p : Option (List ℕ)).
    FollowsFrom n r f u a p sight w (g.I.Source.left before) (g.I.Source.failures before) (g.I.Source.failures after) result in
    let named = option_map string_bytes args.from in
    let root = root_of c.args.job.now in
    let form = device_form args.strings args.json args.pattern in
    let udev = option_map string_bytes args.udev in
    subst (λ (p : Option (List ℕ)). From named root form udev args.all p) c.question_of.ensures.given
    (subst (λ (a : Bool). From named root form udev a (given_in q)) c.question_of.ensures.all
    (subst (λ (u : Option (List ℕ)). From named root form u q.all (given_in q)) c.question_of.ensures.udev
    (subst (λ (f : DeviceForm). From named root f (udev_in q) q.all (given_in q)) c.question_of.ensures.form
    (subst (λ (r : List ℕ). From named r q.form (udev_in q) q.all (given_in q)) c.question_of.ensures.root
    (subst (λ (n : Option (List ℕ)). From n q.root.now q.form (udev_in q) q.all (given_in q)) c.text_of-named.ensures (c.devices_from.ensures.follows tells))))))
