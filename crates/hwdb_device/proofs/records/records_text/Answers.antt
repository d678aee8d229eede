use Rattle.std.proofs.Common.{◌∙◌, ap, sym}
use Rattle.hwdb_spec.specs.Lines.{is_none}
use Rattle.hwdb_spec_commands.specs.DeviceRecords.{first_record, set_records}
use Rattle.hwdb_device.specs.Views.{all_found}
use Rattle.hwdb_device.proofs.StringLemmas.{kept}
use Rattle.hwdb_device.proofs.records.records_text.Goals as goal

pub returns : goal.returns
returns c =
    let found = all_found c.args.found.now in
    kept c.in_ok-made.made.items (set_records c.args.subsystem.now c.args.machine.now found) (first_record c.args.machine.now found) c.in_ok-made.ensures
    (ap is_none (sym c.deref.ensures.value) ∙ sym c.is_nothing.ensures ∙ c.if-is_nothing.false)
