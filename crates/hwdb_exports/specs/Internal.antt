-- What inner functions speak of.
use Rattle.std.specs.Prelude.{List, [], ◌∷◌, codes, ℕ}
use Rattle.std.specs.Option.{option_map_or}
use Rattle.hwdb_spec.specs.Store.{path_in}
use Rattle.hwdb_spec_commands.specs.Exports as spec

-- the links between a device's folder and that of its subsystem
abbrev pub links : (folder class name : List ℕ) → List (List ℕ × spec.Spot)
links folder class name =
    spec.link_to (path_in folder (codes "subsystem")) class
    ∷ spec.link_to (path_in class name) folder
    ∷ spec.link_to (path_in (path_in class name) (codes "modalias")) (path_in folder (codes "modalias"))
    ∷ []

-- the folder of a device, and its file `uevent`
abbrev pub own_spots : spec.Exported → List (List ℕ × spec.Spot)
own_spots d =
    spec.folder_at (spec.exported_folder d.path)
    ∷ spec.file_with (path_in (spec.exported_folder d.path) (codes "uevent")) (spec.exported_uevent d.lines)
    ∷ []

-- its subsystem, and its driver
abbrev pub of_subsystem : spec.Exported → List (List ℕ × spec.Spot)
of_subsystem d = option_map_or (spec.subsystem_spots d.path) (spec.said_after (codes "E: SUBSYSTEM=") d.lines) []

abbrev pub of_driver : spec.Exported → List (List ℕ × spec.Spot)
of_driver d = option_map_or (spec.driver_spots d.path) (spec.said_after (codes "E: DRIVER=") d.lines) []
