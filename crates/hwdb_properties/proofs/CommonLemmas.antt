-- Properties that most lines of large files have: their rows, computed.
use Rattle.std.proofs.Common.{◌≡◌, ℕ, List, [], ◌∷◌, true, codes, refl, subst, sym}
use Rattle.std.specs.Prelude.{None}
use Rattle.hwdb_spec.specs.Folders.{same}
use Rattle.hwdb_spec.specs.Lines.{pieces}
use Rattle.hwdb_spec_commands.specs.Properties.{misuse}
use Rattle.hwdb_spec.specs.Lemmas.Orders.{same_text}
use Rattle.hwdb_properties.specs.Internal.{IsCommon}

model_fits : (text : List ℕ) → misuse (codes "ID_MODEL_FROM_DATABASE") text ≡ None
unfolding pieces
model_fits [] = refl
model_fits (b ∷ text) = refl

model : IsCommon (codes "ID_MODEL_FROM_DATABASE")
unfolding pieces
model = record {
  any = model_fits;
  anywhere = λ prefix. refl;
  unlogged = refl;
  alone = refl;
}

vendor_fits : (text : List ℕ) → misuse (codes "ID_VENDOR_FROM_DATABASE") text ≡ None
unfolding pieces
vendor_fits [] = refl
vendor_fits (b ∷ text) = refl

vendor : IsCommon (codes "ID_VENDOR_FROM_DATABASE")
unfolding pieces
vendor = record {
  any = vendor_fits;
  anywhere = λ prefix. refl;
  unlogged = refl;
  alone = refl;
}

oui_fits : (text : List ℕ) → misuse (codes "ID_OUI_FROM_DATABASE") text ≡ None
unfolding pieces
oui_fits [] = refl
oui_fits (b ∷ text) = refl

oui : IsCommon (codes "ID_OUI_FROM_DATABASE")
unfolding pieces
oui = record {
  any = oui_fits;
  anywhere = λ prefix. refl;
  unlogged = refl;
  alone = refl;
}

pub model_is_common : (name : List ℕ) → same name (codes "ID_MODEL_FROM_DATABASE") ≡ true → IsCommon name
model_is_common name e = subst IsCommon (sym (same_text name (codes "ID_MODEL_FROM_DATABASE") e)) model

pub vendor_is_common : (name : List ℕ) → same name (codes "ID_VENDOR_FROM_DATABASE") ≡ true → IsCommon name
vendor_is_common name e = subst IsCommon (sym (same_text name (codes "ID_VENDOR_FROM_DATABASE") e)) vendor

pub oui_is_common : (name : List ℕ) → same name (codes "ID_OUI_FROM_DATABASE") ≡ true → IsCommon name
oui_is_common name e = subst IsCommon (sym (same_text name (codes "ID_OUI_FROM_DATABASE") e)) oui
