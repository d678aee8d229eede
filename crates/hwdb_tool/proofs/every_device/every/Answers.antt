use Rattle.std.proofs.Common.{◌∙◌, Bor, Err, List, ap, refl, sym, ℕ}
use Rattle.std.specs.Prelude.{option_map}
use Rattle.hwdb_spec_commands.specs.SysfsAnswers.{sight_by}
use Rattle.hwdb_spec_program.specs.DeviceErrors.{asked_names}
use Rattle.hwdb_tool.specs.Views.{end_of}
use Rattle.hwdb_tool.proofs.DevicePlanLemmas.{fits_follow, misused_follows}
use Rattle.hwdb_tool.proofs.every_device.every.Goals as goal

pub returns-in-None-clause-follows : goal.returns-in-None-clause-follows
returns-in-None-clause-follows g c = λ tells.
    let s = c.args.system.now in
    fits_follow end_of (g.D.System.reads s) (sight_by g.D.DeviceFiles.answers s) c.args.root.now asked_names c.args.whose c.args.form (option_map (λ t. t.now) c.args.given) c.strings_below.result
    (sym c.all_misuse.ensures ∙ ap (option_map (λ (t : Bor (List ℕ)). t.now)) c.in-None.is) (c.strings_below.ensures.follows tells)

pub returns-in-Some-clause-follows : goal.returns-in-Some-clause-follows
returns-in-Some-clause-follows g c = λ tells.
    let s = c.args.system.now in
    misused_follows end_of (g.D.System.reads s) (sight_by g.D.DeviceFiles.answers s) c.args.root.now asked_names c.args.whose c.args.form (option_map (λ t. t.now) c.args.given) c.in-Some.text.now c.misused.result
    (Err c.misused.result) (sym c.all_misuse.ensures ∙ ap (option_map (λ (t : Bor (List ℕ)). t.now)) c.in-Some.is) c.misused.ensures refl
