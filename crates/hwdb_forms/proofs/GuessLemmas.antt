-- Some of the forms that are asked, each at its place.
use Rattle.std.proofs.Common.{◌≡◌, ℕ, ◌||◌, Bool, true, false, List, [], ◌∷◌, ◌++◌, refl, ap, ◌∙◌, ◌<◌, arith, drop, get_or, length, map, suc, take, zero}
use Rattle.std.specs.List.{list_any}
use Rattle.hwdb_spec.specs.Patterns.{Token}
use Rattle.hwdb_spec.specs.Forms.{Form, can_match, meets_form}
use Rattle.hwdb_spec_commands.specs.FormTable.{asked, free_prefixes, known}
use Rattle.hwdb_spec_commands.specs.FormTable
use Rattle.hwdb_spec_commands.specs.LikelyForms.{kept, likely}
use Rattle.hwdb_forms.specs.Internal.{IsAsked, IsLikely}

or_true : (b : Bool) → (b || true) ≡ true
or_true true = refl
or_true false = refl

true_or : (b c : Bool) → b ≡ true → (b || c) ≡ true
true_or true c e = refl
true_or false c e = cc

found : (p : Form → Bool) (front : List Form) (form : Form) (behind : List Form) → p form ≡ true → list_any p (front ++ form ∷ behind) ≡ true
found p [] form behind e = true_or (p form) (list_any p behind) e
found p (x ∷ front) form behind e = ap (λ b. p x || b) (found p front form behind e) ∙ or_true (p x)

asked_at : (n : ℕ) (form : Form) → asked ≡ take n asked ++ form ∷ drop (suc n) asked → IsAsked form
asked_at n form place ts e = ap (λ (fs : List Form). can_match fs ts) place ∙ found (meets_form ts) (take n asked) form (drop (suc n) asked) e

pub usb_asked : IsAsked FormTable.usb
unfolding known
usb_asked = asked_at 0 FormTable.usb refl

pub pci_asked : IsAsked FormTable.pci
unfolding known
pci_asked = asked_at 1 FormTable.pci refl

pub bluetooth_asked : IsAsked FormTable.bluetooth
unfolding known
bluetooth_asked = asked_at 2 FormTable.bluetooth refl

pub oui_asked : IsAsked FormTable.oui
unfolding known
oui_asked = asked_at 23 FormTable.oui refl

likely_at : (n : ℕ) (form : Form) → likely ≡ take n likely ++ form ∷ drop (suc n) likely → IsLikely form
likely_at n form place ts e = ap (λ (fs : List Form). can_match fs ts) place ∙ found (meets_form ts) (take n likely) form (drop (suc n) likely) e

pub usb_likely : IsLikely FormTable.usb
unfolding kept
usb_likely = likely_at 0 FormTable.usb refl

pub pci_likely : IsLikely FormTable.pci
unfolding kept
pci_likely = likely_at 1 FormTable.pci refl

pub bluetooth_likely : IsLikely FormTable.bluetooth
unfolding kept
bluetooth_likely = likely_at 2 FormTable.bluetooth refl

pub oui_likely : IsLikely FormTable.oui
unfolding kept
oui_likely = likely_at 9 FormTable.oui refl

-- one of some forms, which Rust's values mean
pub form_among : (A : Type 0) (f : A → Form) (l : List A) (i : ℕ) (d : A) (ts : List Token) → i < length l → meets_form ts (f (get_or l i d)) ≡ true → can_match (map f l) ts ≡ true
form_among A f [] i d ts h e = absurd (omega arith)
form_among A f (x ∷ l) zero d ts h e = true_or (meets_form ts (f x)) (can_match (map f l) ts) e
form_among A f (x ∷ l) (suc i) d ts h e = ap (λ b. meets_form ts (f x) || b) (form_among A f l i d ts (omega arith) e) ∙ or_true (meets_form ts (f x))
