-- What `diff` compares: all that two databases assign, or with `--devices` what devices get. What it prints of that, as text or JSON.
-- Our choice.
use Rattle.std.specs.Prelude.{◌++◌, Bool, List, ℕ, [], ◌∷◌, None, Option, Some, flat_map, if◌then◌else◌}
use Rattle.std.specs.List.{list_any}
use Rattle.hwdb_spec_commands.specs.ChangeCounts.{stat_form, stat_of}
use Rattle.hwdb_spec_commands.specs.ChangeForms.{changes_form, device_changes_form}
use Rattle.hwdb_spec_commands.specs.DeviceDifferences.{device_differences}
use Rattle.hwdb_spec_commands.specs.Differences.{Change, are_some, differences}
use Rattle.hwdb_spec.specs.Folders.{Source}
use Rattle.hwdb_spec_commands.specs.Reviews.{Review, reviewed}
use Rattle.hwdb_spec_commands.specs.Unmet.{unmet_end, unmet_said}
use Rattle.hwdb_spec.specs.Texts.{devices_of}
use Rattle.hwdb_spec.specs.Tree.{Tree, map_of, map_of_files}

-- the devices that files name, a line each; none if there is no file
abbrev pub devices_named : List Source → Option (List (List ℕ))
devices_named [] = None
devices_named (s ∷ more) = Some (flat_map (λ (f : Source). devices_of f.bytes) (s ∷ more))

-- the changes of assignments that count
abbrev pub assigned_changes : Review → (old new : Tree) → List Change
assigned_changes r old new = reviewed r (differences (map_of old) (map_of new))

-- those of what a device gets
abbrev pub device_changes : Review → (old new : Tree) → (device : List ℕ) → List Change
device_changes r old new device = reviewed r (device_differences device old new)

-- what changed from one database to another: of all that they assign, or for these devices, in their order
abbrev pub comparison_text : Review → Option (List (List ℕ)) → (old new : Tree) → List ℕ
comparison_text r None old new = changes_form r.json r.layout (assigned_changes r old new)
comparison_text r (Some devices) old new = flat_map (λ d. device_changes_form r.json r.layout d (device_changes r old new d)) devices

-- the same as lines, or with `--stat` how many changes there are
abbrev pub comparison_lines : Review → Option (List (List ℕ)) → (old new : Tree) → List ℕ
comparison_lines r devices old new =
    if r.stat then stat_form r.json devices (stat_of r devices old new) else comparison_text r devices old new

-- as JSON a last line says what the devices don't meet
abbrev pub comparison_form : Review → Option (List (List ℕ)) → (old new : Tree) → List ℕ
comparison_form r devices old new = comparison_lines r devices old new ++ unmet_end r devices old new (assigned_changes r old new)

-- as text standard error says it
abbrev pub comparison_said : Review → Option (List (List ℕ)) → (old new : Tree) → List ℕ
comparison_said r devices old new = unmet_said r devices old new (assigned_changes r old new)

-- whether something did
abbrev pub has_changed : Review → Option (List (List ℕ)) → (old new : Tree) → Bool
has_changed r None old new = are_some (assigned_changes r old new)
has_changed r (Some devices) old new = list_any (λ d. are_some (device_changes r old new d)) devices

-- what is printed of all that the databases of an old state of two folders and of a new one assign, without `--stat`
abbrev pub files_diff_form : Review → (old_etc old_usr new_etc new_usr : List Source) → List ℕ
files_diff_form r old_etc old_usr new_etc new_usr =
    changes_form r.json r.layout (reviewed r (differences (map_of_files old_etc old_usr) (map_of_files new_etc new_usr)))
