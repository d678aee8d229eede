use Rattle.hwdb_forms.proofs.ComputedTextRows.{named_text_rows_hold, usb_text_rows_hold}
use Rattle.hwdb_forms.proofs.laws.asked_text_rows.Goals as goal

pub returns : goal.returns
returns c = record {
  usb = usb_text_rows_hold;
  named = named_text_rows_hold;
}
