-- Files that words name, by their place among the words, and by what was read of them.
use Rattle.std.proofs.Common.{◌≡◌, ◌∙◌, ◌∷◌, ap, sym, ℕ, List, [], map, refl, String, Global, string_bytes, drop, take, get_or, length, ◌+◌, ◌<◌, ◌++◌}
use Rattle.std.proofs.lemmas.List.{drop_more, map-append, take_more}
use Rattle.hwdb_spec.specs.Folders.{Source}
use Rattle.hwdb_plan.specs.Files.{AreFiles}
use Rattle.hwdb_check.specs.Checks.{source_of}
use Rattle.hwdb_check.specs.declared.files.TextFile.{TextFile}

-- the path that a loop has come to
pub next_path : (given : List (String Global)) (k : ℕ) (path : String Global) → path ≡ get_or given k path → k < length given
    → map string_bytes (drop k given) ≡ string_bytes path ∷ map string_bytes (drop (k + 1) given)
next_path given k path is lt =
    ap (map string_bytes) (drop_more given k path lt) ∙ ap (λ (s : String Global). string_bytes s ∷ map string_bytes (drop (k + 1) given)) (sym is)

pub paths_more : (given : List (String Global)) (k : ℕ) (path : String Global) → path ≡ get_or given k path → k < length given
    → map string_bytes (take (k + 1) given) ≡ map string_bytes (take k given) ++ string_bytes path ∷ []
paths_more given k path is lt =
    ap (map string_bytes) (take_more given k path lt) ∙ map-append string_bytes (take k given) (get_or given k path ∷ [])
    ∙ ap (λ (s : String Global). map string_bytes (take k given) ++ string_bytes s ∷ []) (sym is)

-- files by their paths and bytes
files_named : (files : List TextFile) → map (λ (s : Source). s.name) (map source_of files) ≡ map (λ f. f.path.now) files
files_named [] = refl
files_named (f ∷ files) = ap (λ l. f.path.now ∷ l) (files_named files)

files_held : (files : List TextFile) → map (λ (s : Source). s.bytes) (map source_of files) ≡ map (λ f. f.bytes.now) files
files_held [] = refl
files_held (f ∷ files) = ap (λ l. f.bytes.now ∷ l) (files_held files)

pub are_files : (files : List TextFile) (names texts : List (List ℕ)) → map (λ f. f.path.now) files ≡ names → map (λ f. f.bytes.now) files ≡ texts → AreFiles names texts (map source_of files)
are_files files names texts named held = record { named = files_named files ∙ named; held = files_held files ∙ held }
