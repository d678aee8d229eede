-- The properties that most lines of upstream's generated files have: those of 20-acpi-vendor.hwdb, 20-pci-vendor-model.hwdb,
-- 20-usb-vendor-model.hwdb and 20-OUI.hwdb.
use Rattle.std.specs.Prelude.{Bool, ℕ, List, [], ◌∷◌, codes}
use Rattle.std.specs.List.{list_any}
use Rattle.hwdb_spec.specs.Folders.{same}

-- whether a name is one of theirs
abbrev pub is_common : List ℕ → Bool
is_common name =
    list_any (same name) (codes "ID_MODEL_FROM_DATABASE" ∷ codes "ID_OUI_FROM_DATABASE" ∷ codes "ID_VENDOR_FROM_DATABASE" ∷ [])
