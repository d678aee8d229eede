use Rattle.std.proofs.Common.{◌∙◌, Bor, Err, List, ap, refl, sym, ℕ}
use Rattle.std.specs.Prelude.{option_map}
use Rattle.hwdb_spec_commands.specs.SysfsAnswers.{sight_by}
use Rattle.hwdb_tool.specs.Views.{end_of}
use Rattle.hwdb_tool.proofs.DevicePlanLemmas.{own_fits, own_misused}
use Rattle.hwdb_tool.proofs.rules_device.own_device.Goals as goal

pub returns-in-None-clause-follows : goal.returns-in-None-clause-follows
returns-in-None-clause-follows g c = λ tells.
    let s = c.args.system.now in
    let q = c.args.question in
    own_fits end_of (g.D.System.reads s) (sight_by g.D.DeviceFiles.answers s) q.root.now q.form (option_map (λ t. t.now) c.args.udev) (option_map (λ t. t.now) q.given) q.all c.args.from c.searched.result
    (sym c.rules_misuse.ensures ∙ ap (option_map (λ (t : Bor (List ℕ)). t.now)) c.in-None.is) (c.searched.ensures.follows tells)

pub returns-in-Some-clause-follows : goal.returns-in-Some-clause-follows
returns-in-Some-clause-follows g c = λ tells.
    let s = c.args.system.now in
    let q = c.args.question in
    own_misused end_of (g.D.System.reads s) (sight_by g.D.DeviceFiles.answers s) q.root.now q.form (option_map (λ t. t.now) c.args.udev) (option_map (λ t. t.now) q.given) q.all c.args.from c.in-Some.text.now c.misused.result
    (Err c.misused.result) (sym c.rules_misuse.ensures ∙ ap (option_map (λ (t : Bor (List ℕ)). t.now)) c.in-Some.is) c.misused.ensures refl
