-- Errors over text files that are read: each comes alone.
use Rattle.std.proofs.Common.{◌≡◌, ◌≤◌, ◌+◌, ap, refl, arith, ℕ, suc, List, [], ◌∷◌, length, All}
use Rattle.std.proofs.lemmas.List.Elements.{All-contains}
use Rattle.hwdb_spec.specs.Folders.{Source, max_lines}
use Rattle.hwdb_spec.specs.Lines.{byte, is, lines, numbered, pieces}
use Rattle.hwdb_spec.specs.Texts.{max_file}
use Rattle.hwdb_spec_commands.specs.CheckErrors.{HasLongFile}
use Rattle.hwdb_text.specs.Lemmas.Pieces.{few_pieces}

numbered_count : (k : ℕ) (rows : List (List ℕ)) → length (numbered k rows) ≡ length rows
unfolding numbered
numbered_count k [] = refl
numbered_count k (row ∷ rows) = ap suc (numbered_count (k + 1) rows)

pub few_lines : (bytes : List ℕ) → length bytes ≤ max_file → length (lines bytes) ≤ max_lines
few_lines bytes short =
    let count : length (lines bytes) ≡ length (pieces (is (byte "\n")) bytes) = numbered_count 1 (pieces (is (byte "\n")) bytes) in
    let le = few_pieces (byte "\n") bytes in
    omega (arith, count, le, short)

pub long_file : (sources : List Source) → All (λ (s : Source). length s.bytes ≤ max_file) sources → HasLongFile sources → ⊥
long_file sources short any =
    let few = few_lines any.1.bytes (All-contains (λ (s : Source). length s.bytes ≤ max_file) sources any.1 short (any.0, any.2, any.3)) in
    let many = any.4 in
    omega (arith, few, many)
