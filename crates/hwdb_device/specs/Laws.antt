-- What the laws say of what `device` prints.
use Rattle.std.specs.Prelude.{List, ℕ, ◌≡◌}
use Rattle.hwdb_spec_commands.specs.DeviceTexts.{device_text, files_device_text, found_form}
use Rattle.hwdb_spec.specs.Folders.{Source}
use Rattle.hwdb_spec.specs.Format.{IsDatabase}
use Rattle.hwdb_spec_commands.specs.Lookups.{Told, lookups}
use Rattle.hwdb_spec_commands.specs.Near.{PatternAt}
use Rattle.hwdb_spec_commands.specs.Sysfs.{Device}
use Rattle.hwdb_spec.specs.Tree.{Tree, map_of_files}
use Rattle.hwdb_spec.specs.Written.{IsDatabaseOf}
use Rattle.hwdb_spec_commands.specs.declared.devices.DeviceForm.{DeviceForm}

-- if each string gets the same, the same is printed, whatever patterns are near
abbrev pub SameAnswersSameText : Type 0
SameAnswersSameText =
    (tells other : List ℕ → Told) → ((text : List ℕ) → tells text ≡ other text)
    → (form : DeviceForm) (d : Device) (patterns : List PatternAt) → found_form form d patterns (lookups tells d) ≡ found_form form d patterns (lookups other d)

-- over the database of some files the text is that of the last assignments that they have
abbrev pub TextIsOfFiles : Type 0
TextIsOfFiles =
    (etc usr : List Source) (bytes : List ℕ) → IsDatabaseOf (map_of_files etc usr) bytes → (t : Tree) → IsDatabase bytes t
    → (form : DeviceForm) (d : Device) → device_text form d t ≡ files_device_text form d etc usr
