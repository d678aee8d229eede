-- Why it can't be told which text files the paths of `check` mean, or these can't be read. Our choice.
use Rattle.std.specs.Prelude.{◌++◌, ◌<◌, ◌∷◌, ◌≡◌, ◌⊎◌, List, None, [], false, length, ℕ}
use Rattle.hwdb_spec_commands.specs.CheckedFiles.{folder_of, is_file}
use Rattle.hwdb_spec.specs.Folders.{max_files, names}
use Rattle.hwdb_spec.specs.Store.{Contents}
use Rattle.hwdb_spec.specs.System.{AreNamesIn, bytes_at}
use Rattle.hwdb_spec_commands.specs.Refusals.{IsUnlisted}
use Rattle.hwdb_spec_commands.specs.declared.refusals.Refusal.{Refusal}
use Rattle.hwdb_spec_commands.specs.declared.refusals.Refusal.TheVariants.{At, Plain}
use Rattle.hwdb_spec.specs.declared.errors.ToolError.TheVariants.{TooLong, TooManyFiles}

-- the folder that a path names has too many text files
abbrev pub AreTooMany : Contents → (path : List ℕ) → Refusal → Type 0
AreTooMany contents path refusal =
    (refusal ≡ Plain TooManyFiles) × (is_file contents path ≡ false)
    × ((found : List (List ℕ)) × AreNamesIn (folder_of path) contents found × (max_files < length (names found [])))

-- listing a folder fails; if what is listed is too long, no file is at its path
abbrev pub IsUnlistedFolder : Contents → (folder : List ℕ) → Refusal → Type 0
IsUnlistedFolder contents folder (At TooLong at cause) = (at.items ≡ folder) × (bytes_at contents folder ≡ None)
IsUnlistedFolder contents folder refusal = IsUnlisted folder refusal
