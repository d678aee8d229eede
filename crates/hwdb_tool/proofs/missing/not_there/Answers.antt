use Rattle.std.proofs.Common.{◌∙◌, ap, false, inl, inr, refl, subst, sym, Bool, List, [], ℕ}
use Rattle.hwdb_spec.specs.Lines.{is, pieces}
use Rattle.hwdb_spec_commands.specs.DeviceAsked.{no_device_text}
use Rattle.hwdb_spec_commands.specs.DeviceFound.{near_given}
use Rattle.hwdb_spec_commands.specs.SysfsAnswers.{sight_by}
use Rattle.hwdb_spec_commands.specs.Refusals.{IsInWords}
use Rattle.hwdb_spec_program.specs.DeviceErrors.{asked_names}
use Rattle.hwdb_tool.proofs.DeviceLemmas.{leads_somewhere}
use Rattle.hwdb_tool.proofs.missing.not_there.Goals as goal

pub returns-clause-said : goal.returns-clause-said
returns-clause-said g c = λ tells root unfound none.
    let sight = sight_by g.F.DeviceFiles.answers c.args.files.now in
    let given = c.args.given.now in
    let sysfs = c.for_rules.result in
    let near = ap (λ f. near_given (sight_by g.F.DeviceFiles.answers f) (pieces (is 10) sysfs.names.now) sysfs.folder.now given) c.for_rules.ensures.files
    ∙ ap (λ names. near_given sight names sysfs.folder.now given) c.for_rules.ensures.names
    ∙ ap (λ folder. near_given sight asked_names folder given) c.for_rules.ensures.folder in
    inr (inr (inl record {
      none = none;
      all_read = unfound.0.1;
      words = [];
      one_line = refl;
      said = subst (λ (b : Bool). IsInWords (no_device_text b given [] (near_given sight asked_names c.args.sys.now given)) c.no_device.result)
          (sym (leads_somewhere sight root given unfound.1))
          (subst (λ (n : List ℕ). IsInWords (no_device_text false given [] n) c.no_device.result) near (c.no_device.ensures.said tells));
    }))
