use Rattle.std.proofs.Common.{refl, subst, true, ◌≡◌}
use Rattle.hwdb_spec.specs.Forms.{Form, meets_form}
use Rattle.hwdb_spec_commands.specs.FormTable.{bluetooth, oui, pci, usb}
use Rattle.hwdb_forms.proofs.GuessLemmas.{bluetooth_asked, bluetooth_likely, oui_asked, oui_likely, pci_asked, pci_likely, usb_asked, usb_likely}
use Rattle.hwdb_forms.proofs.TemplateLemmas.{first_ways_of}
use Rattle.hwdb_forms.proofs.guesses.guess.Goals as goal

pub returns-in-79 : goal.returns-in-79
returns-in-79 c = record {
  asked = λ ts met. oui_asked ts (subst (λ (form : Form). meets_form ts form ≡ true) c.oui.ensures met);
  likely = λ ts met. oui_likely ts (subst (λ (form : Form). meets_form ts form ≡ true) c.oui.ensures met);
  ways = first_ways_of _ oui _ c.oui.ensures (refl, tt);
}

pub returns-in-112 : goal.returns-in-112
returns-in-112 c = record {
  asked = λ ts met. pci_asked ts (subst (λ (form : Form). meets_form ts form ≡ true) c.pci.ensures met);
  likely = λ ts met. pci_likely ts (subst (λ (form : Form). meets_form ts form ≡ true) c.pci.ensures met);
  ways = first_ways_of _ pci _ c.pci.ensures (refl, tt);
}

pub returns-in-117 : goal.returns-in-117
returns-in-117 c = record {
  asked = λ ts met. usb_asked ts (subst (λ (form : Form). meets_form ts form ≡ true) c.usb.ensures met);
  likely = λ ts met. usb_likely ts (subst (λ (form : Form). meets_form ts form ≡ true) c.usb.ensures met);
  ways = first_ways_of _ usb _ c.usb.ensures (refl, (refl, tt));
}

pub returns-in-98 : goal.returns-in-98
returns-in-98 c = record {
  asked = λ ts met. bluetooth_asked ts (subst (λ (form : Form). meets_form ts form ≡ true) c.bluetooth.ensures met);
  likely = λ ts met. bluetooth_likely ts (subst (λ (form : Form). meets_form ts form ≡ true) c.bluetooth.ensures met);
  ways = first_ways_of _ bluetooth _ c.bluetooth.ensures (refl, (refl, tt));
}
